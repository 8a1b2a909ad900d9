use Rattle.std.proofs.Common.{◌≡◌, ◌+◌, ◌-◌, All, ℕ, sym, ◌∙◌, subst, arith}
use Rattle.hash_path.specs.Digits.{digits_after, lowest}
use Rattle.trie_shape.specs.Tree.{HasTwoWords, IsTrie, entries}
use Rattle.trie_shape.specs.View.{tree}
use Rattle.splitter.proofs.OneChild.{above_trie, all_found}
use Rattle.splitter.proofs.subtrie_root.root_of_subtrie.Goals as goal

pub branch_above-requires-clause-fits : goal.branch_above-requires-clause-fits
branch_above-requires-clause-fits g c = c.trie_follows_digits.ensures.fits (tree c.loop-at.root) c.loop-at.at c.loop-at.invariant.trie

pub loop-at-preserved : goal.loop-at-preserved
loop-at-preserved g c =
    let R = g.K.Ord.cmp in
    let path = g.K.PathKey.path_of in
    let exact = g.met.K.PathKey.exact in
    let a = c.args in
    let l = c.loop-at.invariant in
    let t = tree c.loop-at.root in
    let u = tree c.in_ok-root.root in
    let d = c.shared_digit in
    let at : ℕ = c.loop-at.at - 1 in
    let next : c.loop-at.at ≡ at + 1 = omega (arith, c.loop-at-test.true) in
    let shared = subst (All (λ e. lowest (digits_after 0 a.level (path e.0)) ≡ a.base)) (sym l.same) c.requires.shared in
    let made = above_trie R path at d.result t u (omega (arith, l.within, c.requires.level)) d.ensures.small (subst (λ n. IsTrie R path n t) next l.trie)
    (λ q found. d.ensures.digit (path q) a.level (g.met.K.PathKey.small q) (omega (arith, l.within, c.loop-at-test.true)) c.requires.level (all_found R path exact (λ k. lowest (digits_after 0 a.level (path k)) ≡ a.base) (entries t) shared q found))
    (λ up. l.two (omega (arith, up))) c.in_ok-root.ensures in
    record {
      within = omega (arith, l.within);
      trie = made.0;
      two = λ up. subst (HasTwoWords R path) (sym made.1) (l.two (omega (arith, up)));
      same = made.1 ∙ l.same;
    }

pub returns : goal.returns
returns g c =
    let none : c.loop-at.at ≡ 0 = omega (arith, c.loop-at-test.false) in
    (subst (λ n. IsTrie g.K.Ord.cmp g.K.PathKey.path_of n (tree c.loop-at.root)) none c.loop-at.invariant.trie, c.loop-at.invariant.same)
