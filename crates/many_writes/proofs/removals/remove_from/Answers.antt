use Rattle.std.proofs.Common.{Option, IfSome, ap, sym, ◌∙◌, subst}
use Rattle.std.proofs.lemmas.List.{get_or_default}
use Rattle.stripe.specs.Contents.{Content}
use Rattle.many_writes.specs.Turns.{HasDigit}
use Rattle.many_writes.proofs.Moves.{all_go_on, all_stay, done_then, on_ok, one_goes}
use Rattle.many_writes.proofs.removals.remove_from.Goals as goal

pub returns-in_default-clause-goes : goal.returns-in_default-clause-goes
returns-in_default-clause-goes g c =
    let R = λ (item : g.row.Q.Denot) (found : Option g.row.S-Value.Denot). IfSome found (λ value. g.P.Keeps.holds (g.Q.Sought.key_of item) (g.S.ValueSlots.value_of value)) in
    all_stay R c.args.turns.now

pub returns-in_err-remove_turn-clause-goes : goal.returns-in_err-remove_turn-clause-goes
returns-in_err-remove_turn-clause-goes g c =
    let R = λ (item : g.row.Q.Denot) (found : Option g.row.S-Value.Denot). IfSome found (λ value. g.P.Keeps.holds (g.Q.Sought.key_of item) (g.S.ValueSlots.value_of value)) in
    one_goes R c.args.turns.now c.args.place c.index-turns-place-2.result c.remove_turn.new.turn c.requires.place c.remove_turn.ensures.goes

pub returns-clause-goes : goal.returns-clause-goes
returns-clause-goes g c =
    let R = λ (item : g.row.Q.Denot) (found : Option g.row.S-Value.Denot). IfSome found (λ value. g.P.Keeps.holds (g.Q.Sought.key_of item) (g.S.ValueSlots.value_of value)) in
    all_go_on R c.args.turns.now _ c.remove_behind.new.turns (one_goes R c.args.turns.now c.args.place c.index-turns-place-2.result c.remove_turn.new.turn c.requires.place c.remove_turn.ensures.goes) c.remove_behind.ensures.goes

pub returns-clause-done : goal.returns-clause-done
returns-clause-done g c =
    let R = λ (item : g.row.Q.Denot) (found : Option g.row.S-Value.Denot). IfSome found (λ value. g.P.Keeps.holds (g.Q.Sought.key_of item) (g.S.ValueSlots.value_of value)) in
    let waits = get_or_default c.args.turns.now c.args.place c.index-turns-place-2.result c.index-turns-place.result c.requires.place ∙ c.in-Waits.is in
    let same = ap (λ (s : Content _ _). s.digit) c.deref_mut.ensures.value ∙ c.stripe_at-stripe.ensures in
    on_ok c.remove_behind.result _ (done_then R c.args.turns.now c.remove_behind.new.turns c.args.place c.remove_turn.new.turn c.requires.place (c.in_ok-remove_turn.ensures.done (subst (HasDigit c.deref_mut.result.now.digit) (sym waits) (sym same))) c.remove_behind.ensures.goes)
