use Rattle.std.proofs.Common.{◌+◌, ◌≤◌, [], List, false, length, arith, rules, sym, subst, refl}
use Rattle.std.specs.List.Sorted.{IsPermutation}
use Rattle.bulk_ops.specs.Meanings.{MayAnswer}
use Rattle.map_session.specs.Sessions.{InTurn, Removes}
use Rattle.std.proofs.lemmas.List.Elements.{All-nil}
use Rattle.std.proofs.lemmas.List.Sorted.{length_permutation}
use Rattle.map_view.proofs.Counting.{at_most_one}
use Rattle.map_session.proofs.Turns.{goes_on_self, one_more_removed}
use Rattle.map_session.proofs.session.Session.remove_all_failing.Goals as goal

pub loop-key-init : goal.loop-key-init
loop-key-init g c =
    let same : IsPermutation c.args.view.now c.into_iter-key-iterator.result = subst (IsPermutation c.args.view.now) (sym c.into_iter-key-iterator.ensures.into_iter_gives) c.bunched-key-items.ensures.once in
    record {
      next = tt;
      finite = tt;
      callable = c.requires.callable;
      few = omega (arith, length_permutation _ _ same);
      told = ([], goes_on_self c.args.self.now, All-nil _, refl);
    }

pub loop-key-preserved : goal.loop-key-preserved
loop-key-preserved g c =
    let few = subst (λ (rest : List (g.row.K.Denot × g.row.V.Denot)). c.loop-key.removed + length rest ≤ length c.args.view.now) c.in-Some.ensures.steps c.loop-key.invariant.few in
    record {
      next = tt;
      finite = tt;
      callable = c.requires.callable;
      few = omega (arith, few, at_most_one c.in_ok-gone.gone c.from-removed.result c.from-removed.ensures);
      told = one_more_removed g.K.Ord.cmp g.K.PathKey.path_of (λ (k : g.row.K.Denot) (v : g.row.V.Denot). g.P.Keeps.holds k v × MayAnswer g.F.Fn c.args.test.now k v false) (g.S.KeySlots.key_of c.in-Some.key.now) c.args.self.now c.loop-key.self c.remove_if_both_fail.new.self c.in_ok-gone.gone c.loop-key.removed c.from-removed.result c.from-removed.ensures c.loop-key.invariant.told c.in_ok-gone.ensures.wrote;
    }

pub returns-in_err-gone : goal.returns-in_err-gone
returns-in_err-gone g c =
    let told = c.loop-key.invariant.told in
    record {
      wrote = (told.0, subst (InTurn (Removes g.K.Ord.cmp g.K.PathKey.path_of) told.0 c.args.self.now) (sym c.in_err-gone.ensures.refused) told.1, told.2, search rules);
    }
