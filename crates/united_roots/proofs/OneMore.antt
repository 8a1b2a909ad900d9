-- A root with one more child.
use Rattle.std.proofs.Common.{◌≡◌, ℕ, ◌+◌, ◌*◌, ◌-◌, ◌<◌, ◌==◌, ◌%◌, ◌^◌, Bool, true, false, cond, List, [], ◌∷◌, ◌++◌, length, Option, Some, None, is_some, sym, ap, ◌∙◌, subst, arith, refl}
use Rattle.std.proofs.lemmas.List.Edits.{insert-append_right}
use Rattle.std.proofs.lemmas.Nat.{or_lt}
use Rattle.std.proofs.lemmas.Nat.Bits.{bit_at_set_same, bit_at_set_other}
use Rattle.std.specs.declared.cmp.Ordering.{Ordering}
use Rattle.std.specs.declared.cmp.Ordering.TheVariants.{Equal}
use Rattle.std.specs.FinMap.{find}
use Rattle.std.specs.Int.{bit_at, w32}
use Rattle.std.specs.Int.RustNames.{count_ones, bit_or}
use Rattle.std.specs.List.{insert}
use Rattle.std.specs.Option.{option_or}
use Rattle.hash_path.specs.Digits.{fan_out}
use Rattle.trie_merging.specs.Merges.{AllStampsPass, StampsPass}
use Rattle.trie_shape.specs.Shape.{Lacks}
use Rattle.trie_shape.specs.Tree.{Tree, branch, trees, digits_of, entries, entries_of_all, IsTrie, AreTries}
use Rattle.trie_shape.proofs.Tries.{AtGap, or_else, at_gap, entries_append, find_append, find_lacking, join}
use Rattle.trie_copy.proofs.Branches.{length-three}
use Rattle.trie_merging.proofs.ChildAt.{IsBelow}

-- what the middle of three lists has is found there, where the first then has nothing
middle_first : {A : Type 0} (first middle last : Option A) → (is_some middle ≡ true → first ≡ None) → or_else first (or_else middle last) ≡ option_or middle (or_else first last)
middle_first first (Some x) last none = ap (λ o. or_else o (Some x)) (none refl)
middle_first first None last none = refl

pass_between : {K V : Type 0} (test : ℕ → Bool) (front back : List (Tree K V)) (c : Tree K V) → AllStampsPass test (trees (front ++ back)) → StampsPass test c → AllStampsPass test (trees (front ++ c ∷ back))
pass_between test [] back c h here = (here, h)
pass_between test (t ∷ front) back c h here = (h.0, pass_between test front back c h.1 here)

module _ {K V : Type 0} (R : K → K → Ordering) (path : K → ℕ) (exact : (x y : K) → R x y ≡ Equal → x ≡ y) (d : ℕ) (below : d < fan_out) (stamp size bitmap : ℕ) (ts : List (Tree K V)) (trie : IsTrie R path 0 (branch stamp size bitmap (trees ts))) (lacks : (bit_at bitmap d == 1) ≡ false) where
  gap : AtGap R path 0 bitmap d ts
  gap = at_gap R path 0 bitmap d below ts trie.3 lacks

  module _ (c : Tree K V) (known : IsBelow R path 0 d c) (us : List (Tree K V)) (made : us ≡ insert ts (count_ones (bitmap % 2 ^ d)) c) where
    between : us ≡ gap.parts.front ++ c ∷ gap.parts.back
    between =
        let i = count_ones (bitmap % 2 ^ d) in
        let p = gap.parts in
        made ∙ ap (λ xs. insert xs i c) p.whole ∙ insert-append_right p.front p.back i i c (p.long ∙ gap.around.place) (omega arith) ∙ ap (λ n. p.front ++ insert p.back n c) {x = i - i} {y = 0} (omega arith)

    -- it is a root with the child's digit too
    pub more_trie : (stamp2 size2 : ℕ) → size2 ≡ size + length (entries c) → IsTrie R path 0 (branch stamp2 size2 (bit_or bitmap (1 * 2 ^ d % 2 ^ 32)) (trees us))
    more_trie stamp2 size2 sized =
        let a = gap.around in
        let p = gap.parts in
        let wider = bit_or bitmap (1 * 2 ^ d % 2 ^ 32) in
        let digits : digits_of wider ≡ a.before ++ d ∷ a.after =
        a.changed wider (bit_at_set_other w32 bitmap d below) ∙ ap (λ n. a.before ++ cond (n == 1) (d ∷ a.after) a.after) (bit_at_set_same w32 bitmap d below) in
        let old : entries_of_all (trees ts) ≡ entries_of_all (trees p.front) ++ entries_of_all (trees p.back) = ap (λ xs. entries_of_all (trees xs)) p.whole ∙ entries_append R path p.front p.back in
        let new : entries_of_all (trees us) ≡ entries_of_all (trees p.front) ++ (entries c ++ entries_of_all (trees p.back)) = ap (λ xs. entries_of_all (trees xs)) between ∙ entries_append R path p.front (c ∷ p.back) in
        let counted : size2 ≡ length (entries_of_all (trees us)) = omega (
          arith,
          sized,
          trie.2,
          ap length old,
          length-three (entries_of_all (trees p.front)) [] (entries_of_all (trees p.back)),
          ap length new,
          length-three (entries_of_all (trees p.front)) (entries c) (entries_of_all (trees p.back)),
        ) in
        let all : AreTries R path 0 (digits_of wider) (trees us) = subst (λ ds. AreTries R path 0 ds (trees us)) (sym digits) (subst (λ xs. AreTries R path 0 (a.before ++ d ∷ a.after) (trees xs)) (sym between) (join R path 0 a.before (d ∷ a.after) p.front (c ∷ p.back) p.front_ok (known.keys, known.trie, p.back_ok))) in (
          trie.0,
          or_lt fan_out bitmap (1 * 2 ^ d % 2 ^ 32) trie.1 (omega arith),
          counted,
          all,
          λ up. absurd (omega (arith, up)),
        )

    -- a key is sought in the child, and else among the others
    pub more_finds : (q : K) → find R q (entries_of_all (trees us)) ≡ option_or (find R q (entries c)) (find R q (entries_of_all (trees ts)))
    more_finds q =
        let a = gap.around in
        let p = gap.parts in
        let first = find R q (entries_of_all (trees p.front)) in
        let last = find R q (entries_of_all (trees p.back)) in
        let nowhere : is_some (find R q (entries c)) ≡ true → first ≡ None =
        λ found. find_lacking R path exact 0 q a.before p.front (subst (λ k. Lacks k a.before) (sym (known.keys q found)) a.lacks_before) p.front_ok in
        ap (λ xs. find R q (entries_of_all (trees xs))) between
        ∙ ap (find R q) (entries_append R path p.front (c ∷ p.back))
        ∙ find_append R path q (entries_of_all (trees p.front)) (entries c ++ entries_of_all (trees p.back))
        ∙ ap (or_else first) (find_append R path q (entries c) (entries_of_all (trees p.back)))
        ∙ middle_first first (find R q (entries c)) last nowhere
        ∙ ap (option_or (find R q (entries c))) (sym (ap (λ xs. find R q (entries_of_all (trees xs))) p.whole ∙ ap (find R q) (entries_append R path p.front p.back) ∙ find_append R path q (entries_of_all (trees p.front)) (entries_of_all (trees p.back))))

    -- the child's stamps are all that come to those there are
    pub more_pass : (test : ℕ → Bool) → AllStampsPass test (trees ts) → StampsPass test c → AllStampsPass test (trees us)
    more_pass test h here = subst (λ xs. AllStampsPass test (trees xs)) (sym between) (pass_between test gap.parts.front gap.parts.back c (subst (λ xs. AllStampsPass test (trees xs)) gap.parts.whole h) here)
