use mir.Val.{bool_byte}
use Rattle.std.proofs.Common.{◌+◌, ◌≤◌, [], List, length, arith, rules, is_some, sym, subst, refl, ap, ◌∙◌}
use Rattle.std.specs.List.Sorted.{IsPermutation}
use Rattle.std.proofs.lemmas.List.Sorted.{length_permutation}
use Rattle.bulk_ops.specs.Meanings.{MayAnswer}
use Rattle.map_view.proofs.Counting.{at_most_one}
use Rattle.map_session.specs.Sessions.{InTurn, Replaces}
use Rattle.map_session.proofs.Turns.{goes_on_self, one_more_replaced}
use Rattle.map_session.proofs.session.Session.replace_each.Goals as goal

pub loop-key-init : goal.loop-key-init
loop-key-init g c =
    let same : IsPermutation c.args.view.now c.into_iter-key-iterator.result = subst (IsPermutation c.args.view.now) (sym c.into_iter-key-iterator.ensures.into_iter_gives) c.bunched-key-items.ensures.once in
    record {
      next = tt;
      finite = tt;
      few = omega (arith, length_permutation _ _ same);
      told = ([], goes_on_self c.args.self.now, refl);
    }

pub loop-key-preserved : goal.loop-key-preserved
loop-key-preserved g c =
    let few = subst (λ (rest : List (g.row.K.Denot × g.row.V.Denot)). c.loop-key.given + length rest ≤ length c.args.view.now) c.in-Some.ensures.steps c.loop-key.invariant.few in
    let may = λ (k : g.row.K.Denot) (old made : g.row.V.Denot). MayAnswer g.F.Fn c.args.change.now k old made in
    record {
      next = tt;
      finite = tt;
      few = omega (arith, few, at_most_one c.is_some.result c.from-given.result c.from-given.ensures);
      told = one_more_replaced g.K.Ord.cmp g.K.PathKey.path_of may (g.S.KeySlots.key_of c.in-Some.key.now) c.args.self.now c.loop-key.self c.replace_by.new.self (is_some c.in_ok-before.before) c.loop-key.given c.from-given.result (c.from-given.ensures ∙ ap bool_byte c.is_some.ensures) c.loop-key.invariant.told c.in_ok-before.ensures.wrote;
    }

pub loop-key-preserved-in_ok-before : goal.loop-key-preserved-in_ok-before
loop-key-preserved-in_ok-before g c =
    let few = subst (λ (rest : List (g.row.K.Denot × g.row.V.Denot)). c.loop-key.given + length rest ≤ length c.args.view.now) c.in-Some.ensures.steps c.loop-key.invariant.few in
    let may = λ (k : g.row.K.Denot) (old made : g.row.V.Denot). MayAnswer g.F.Fn c.args.change.now k old made in
    record {
      next = tt;
      finite = tt;
      few = omega (arith, few, at_most_one c.is_some.result c.from-given.result c.from-given.ensures);
      told = one_more_replaced g.K.Ord.cmp g.K.PathKey.path_of may (g.S.KeySlots.key_of c.in-Some.key.now) c.args.self.now c.loop-key.self c.replace_by.new.self (is_some c.in_ok-before.before) c.loop-key.given c.from-given.result (c.from-given.ensures ∙ ap bool_byte c.is_some.ensures) c.loop-key.invariant.told c.in_ok-before.ensures.wrote;
    }

pub returns-in_err-before : goal.returns-in_err-before
returns-in_err-before g c =
    let told = c.loop-key.invariant.told in
    record {
      wrote = (told.0, subst (InTurn (Replaces g.K.Ord.cmp g.K.PathKey.path_of (λ (k : g.row.K.Denot) (old made : g.row.V.Denot). MayAnswer g.F.Fn c.args.change.now k old made)) told.0 c.args.self.now) (sym c.in_err-before.ensures.refused) told.1, search rules);
    }
