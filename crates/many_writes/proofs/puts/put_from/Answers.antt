use Rattle.std.proofs.Common.{Option, IfSome, ap, sym, ◌∙◌, subst}
use Rattle.std.proofs.lemmas.List.{get_or_default}
use Rattle.stripe.specs.Contents.{Content}
use Rattle.many_writes.specs.Turns.{HasDigit}
use Rattle.many_writes.proofs.Moves.{all_go_on, all_stay, done_then, on_ok, one_goes}
use Rattle.many_writes.proofs.puts.put_from.Goals as goal

pub returns-in_default-clause-goes : goal.returns-in_default-clause-goes
returns-in_default-clause-goes g c =
    let R = λ (item : g.row.K.Denot × g.row.V.Denot) (found : Option g.row.S-Value.Denot). IfSome found (λ value. g.P.Keeps.holds item.0 (g.S.ValueSlots.value_of value)) in
    all_stay R c.args.turns.now

pub returns-in_err-put_turn-clause-goes : goal.returns-in_err-put_turn-clause-goes
returns-in_err-put_turn-clause-goes g c =
    let R = λ (item : g.row.K.Denot × g.row.V.Denot) (found : Option g.row.S-Value.Denot). IfSome found (λ value. g.P.Keeps.holds item.0 (g.S.ValueSlots.value_of value)) in
    one_goes R c.args.turns.now c.args.place c.index-turns-place-2.result c.put_turn.new.turn c.requires.place c.put_turn.ensures.goes

pub returns-clause-goes : goal.returns-clause-goes
returns-clause-goes g c =
    let R = λ (item : g.row.K.Denot × g.row.V.Denot) (found : Option g.row.S-Value.Denot). IfSome found (λ value. g.P.Keeps.holds item.0 (g.S.ValueSlots.value_of value)) in
    all_go_on R c.args.turns.now _ c.put_behind.new.turns (one_goes R c.args.turns.now c.args.place c.index-turns-place-2.result c.put_turn.new.turn c.requires.place c.put_turn.ensures.goes) c.put_behind.ensures.goes

pub returns-clause-done : goal.returns-clause-done
returns-clause-done g c =
    let R = λ (item : g.row.K.Denot × g.row.V.Denot) (found : Option g.row.S-Value.Denot). IfSome found (λ value. g.P.Keeps.holds item.0 (g.S.ValueSlots.value_of value)) in
    let waits = get_or_default c.args.turns.now c.args.place c.index-turns-place-2.result c.index-turns-place.result c.requires.place ∙ c.in-Waits.is in
    let same = ap (λ (s : Content _ _). s.digit) c.deref_mut.ensures.value ∙ c.stripe_at-stripe.ensures in
    on_ok c.put_behind.result _ (done_then R c.args.turns.now c.put_behind.new.turns c.args.place c.put_turn.new.turn c.requires.place (c.in_ok-put_turn.ensures.done (subst (HasDigit c.deref_mut.result.now.digit) (sym waits) (sym same))) c.put_behind.ensures.goes)
