use Rattle.std.proofs.Common.{◌+◌, ◌≤◌, false, not, List, length, arith, sym, ap, subst}
use Rattle.std.specs.List.Sorted.{IsPermutation}
use Rattle.std.proofs.lemmas.List.Sorted.{length_permutation}
use Rattle.bulk_ops.specs.Meanings.{MayAnswer}
use Rattle.map_view.specs.Questions.{failing}
use Rattle.map_view.proofs.Counting.{at_most_one, count_permuted, removal_step}
use Rattle.trie_map.proofs.Gone.{AreGone, all_gone, none_gone, one_more_gone}
use Rattle.trie_map.proofs.trie_map.TrieMap.remove_all_failing.Goals as goal

pub loop-key-init : goal.loop-key-init
loop-key-init g c =
    let same : IsPermutation c.args.view.now c.into_iter-key-iterator.result = subst (IsPermutation c.args.view.now) (sym c.into_iter-key-iterator.ensures.into_iter_gives) c.bunched-key-items.ensures.once in
    record {
      next = tt;
      finite = tt;
      callable = c.requires.callable;
      few = omega (arith, length_permutation _ _ same);
      gone = λ p means. omega (arith, count_permuted (λ k v. not (p k v)) _ _ same);
      sorted = c.len.ensures.sorted;
      failed = none_gone g.K.Ord.cmp c.args.view.now g.P.Keeps.holds (λ k v. MayAnswer g.F.Fn c.args.test.now k v false) _ same;
    }

pub loop-key-preserved : goal.loop-key-preserved
loop-key-preserved g c =
    let pair : g.row.K.Denot × g.row.V.Denot = (g.S.KeySlots.key_of c.in-Some.key.now, g.S.ValueSlots.value_of c.in-Some.value.now) in
    let few = subst (λ (rest : List (g.row.K.Denot × g.row.V.Denot)). c.loop-key.removed + length rest ≤ length c.args.view.now) c.in-Some.ensures.steps c.loop-key.invariant.few in
    record {
      next = tt;
      finite = tt;
      callable = c.requires.callable;
      few = omega (arith, few, at_most_one c.in_ok-gone.gone c.from-removed.result c.from-removed.ensures);
      gone = λ p means.
          let before = subst (λ (rest : List (g.row.K.Denot × g.row.V.Denot)). c.loop-key.removed + length (failing p rest) ≤ length (failing p c.args.view.now)) c.in-Some.ensures.steps (c.loop-key.invariant.gone p means) in
          removal_step (λ k v. not (p k v)) pair c.next.new.self c.loop-key.removed c.from-removed.result _ c.in_ok-gone.gone before c.from-removed.ensures (λ is. ap not (sym (means _ _ _ (c.in_ok-gone.ensures.seen is))));
      sorted = c.loop-key.invariant.sorted;
      failed =
          let before = subst (λ (rest : List (g.row.K.Denot × g.row.V.Denot)). AreGone g.K.Ord.cmp c.args.view.now g.P.Keeps.holds (λ k v. MayAnswer g.F.Fn c.args.test.now k v false) rest c.loop-key.removed) c.in-Some.ensures.steps c.loop-key.invariant.failed in
          one_more_gone g.K.Ord.cmp c.args.view.now g.P.Keeps.holds (λ k v. MayAnswer g.F.Fn c.args.test.now k v false) pair c.next.new.self c.in_ok-gone.gone c.loop-key.removed c.from-removed.result c.from-removed.ensures (λ is. c.in_ok-gone.ensures.failed is) before;
    }

-- at the end of the walk nothing is to come
pub returns-clause-failed : goal.returns-clause-failed
returns-clause-failed g c =
    let done = subst (λ (rest : List (g.row.K.Denot × g.row.V.Denot)). AreGone g.K.Ord.cmp c.args.view.now g.P.Keeps.holds (λ k v. MayAnswer g.F.Fn c.args.test.now k v false) rest c.loop-key.removed) c.in-None.ensures.steps.0 c.loop-key.invariant.failed in
    all_gone g.K.Ord.cmp c.args.view.now g.P.Keeps.holds (λ k v. MayAnswer g.F.Fn c.args.test.now k v false) g.met.K.Ord.total c.loop-key.removed c.loop-key.invariant.sorted done
