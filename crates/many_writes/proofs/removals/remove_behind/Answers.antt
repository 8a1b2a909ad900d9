use Rattle.std.proofs.Common.{Option, IfSome, refl, ◌∙◌}
use Rattle.std.specs.Prelude.{⊤}
use Rattle.many_writes.proofs.Moves.{all_stay, sound_at, then_goes}
use Rattle.many_writes.proofs.removals.remove_behind.Goals as goal

pub loop-next-init : goal.loop-next-init
loop-next-init g c =
    let R = λ (item : g.row.Q.Denot) (found : Option g.row.S-Value.Denot). IfSome found (λ value. g.P.Keeps.holds (g.Q.Sought.key_of item) (g.S.ValueSlots.value_of value)) in
    record { goes = all_stay R c.args.turns.now; digit = refl }

pub remove_turn-requires : goal.remove_turn-requires
remove_turn-requires g c =
    let R = λ (item : g.row.Q.Denot) (found : Option g.row.S-Value.Denot). IfSome found (λ value. g.P.Keeps.holds (g.Q.Sought.key_of item) (g.S.ValueSlots.value_of value)) in
    let path = λ (item : g.row.Q.Denot). g.K.PathKey.path_of (g.Q.Sought.key_of item) in
    let G = λ (item : g.row.Q.Denot). ⊤ in
    record { sound = sound_at R path G c.args.turns.now c.loop-next.turns c.loop-next.invariant.goes c.requires.sound c.loop-next.next c.index-turns-next.result c.loop-next-test.true }

pub returns-in_err-remove_turn-clause-goes : goal.returns-in_err-remove_turn-clause-goes
returns-in_err-remove_turn-clause-goes g c =
    let R = λ (item : g.row.Q.Denot) (found : Option g.row.S-Value.Denot). IfSome found (λ value. g.P.Keeps.holds (g.Q.Sought.key_of item) (g.S.ValueSlots.value_of value)) in
    then_goes R c.args.turns.now c.loop-next.turns c.loop-next.next c.index-turns-next.result c.remove_turn.new.turn c.loop-next-test.true c.loop-next.invariant.goes c.remove_turn.ensures.goes

pub loop-next-preserved : goal.loop-next-preserved
loop-next-preserved g c =
    let R = λ (item : g.row.Q.Denot) (found : Option g.row.S-Value.Denot). IfSome found (λ value. g.P.Keeps.holds (g.Q.Sought.key_of item) (g.S.ValueSlots.value_of value)) in
    record { goes = then_goes R c.args.turns.now c.loop-next.turns c.loop-next.next c.index-turns-next.result c.remove_turn.new.turn c.loop-next-test.true c.loop-next.invariant.goes c.remove_turn.ensures.goes; digit = c.remove_turn.ensures.digit ∙ c.loop-next.invariant.digit }
