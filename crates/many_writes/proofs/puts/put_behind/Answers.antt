use Rattle.std.proofs.Common.{Option, IfSome, refl, ◌∙◌}
use Rattle.many_writes.proofs.Moves.{all_stay, sound_at, then_goes}
use Rattle.many_writes.proofs.puts.put_behind.Goals as goal

pub loop-next-init : goal.loop-next-init
loop-next-init g c =
    let R = λ (item : g.row.K.Denot × g.row.V.Denot) (found : Option g.row.S-Value.Denot). IfSome found (λ value. g.P.Keeps.holds item.0 (g.S.ValueSlots.value_of value)) in
    record { goes = all_stay R c.args.turns.now; digit = refl }

pub put_turn-requires : goal.put_turn-requires
put_turn-requires g c =
    let R = λ (item : g.row.K.Denot × g.row.V.Denot) (found : Option g.row.S-Value.Denot). IfSome found (λ value. g.P.Keeps.holds item.0 (g.S.ValueSlots.value_of value)) in
    let path = λ (item : g.row.K.Denot × g.row.V.Denot). g.K.PathKey.path_of item.0 in
    let G = λ (item : g.row.K.Denot × g.row.V.Denot). g.P.Keeps.holds item.0 item.1 in
    record { sound = sound_at R path G c.args.turns.now c.loop-next.turns c.loop-next.invariant.goes c.requires.sound c.loop-next.next c.index-turns-next.result c.loop-next-test.true }

pub returns-in_err-put_turn-clause-goes : goal.returns-in_err-put_turn-clause-goes
returns-in_err-put_turn-clause-goes g c =
    let R = λ (item : g.row.K.Denot × g.row.V.Denot) (found : Option g.row.S-Value.Denot). IfSome found (λ value. g.P.Keeps.holds item.0 (g.S.ValueSlots.value_of value)) in
    then_goes R c.args.turns.now c.loop-next.turns c.loop-next.next c.index-turns-next.result c.put_turn.new.turn c.loop-next-test.true c.loop-next.invariant.goes c.put_turn.ensures.goes

pub loop-next-preserved : goal.loop-next-preserved
loop-next-preserved g c =
    let R = λ (item : g.row.K.Denot × g.row.V.Denot) (found : Option g.row.S-Value.Denot). IfSome found (λ value. g.P.Keeps.holds item.0 (g.S.ValueSlots.value_of value)) in
    record { goes = then_goes R c.args.turns.now c.loop-next.turns c.loop-next.next c.index-turns-next.result c.put_turn.new.turn c.loop-next-test.true c.loop-next.invariant.goes c.put_turn.ensures.goes; digit = c.put_turn.ensures.digit ∙ c.loop-next.invariant.digit }
