use Rattle.std.proofs.Common.{Option, IfSome, get_or, below_more, arith}
use Rattle.std.specs.Prelude.{⊤}
use Rattle.many_writes.specs.Turns.{IsDone}
use Rattle.many_writes.proofs.Moves.{all_go_on, all_sound, all_stay, done_remains}
use Rattle.std.proofs.lemmas.Slice.Zip.{AllZip-long}
use Rattle.many_writes.specs.Turns.{Goes}
use Rattle.many_writes.proofs.removals.remove_turns.Goals as goal

pub loop-place-init : goal.loop-place-init
loop-place-init g c =
    let R = λ (item : g.row.Q.Denot) (found : Option g.row.S-Value.Denot). IfSome found (λ value. g.P.Keeps.holds (g.Q.Sought.key_of item) (g.S.ValueSlots.value_of value)) in
    record { goes = all_stay R c.args.turns.now; done = λ k h. absurd (omega (arith, h)) }

pub remove_from-requires-clause-sound : goal.remove_from-requires-clause-sound
remove_from-requires-clause-sound g c =
    let R = λ (item : g.row.Q.Denot) (found : Option g.row.S-Value.Denot). IfSome found (λ value. g.P.Keeps.holds (g.Q.Sought.key_of item) (g.S.ValueSlots.value_of value)) in
    let path = λ (item : g.row.Q.Denot). g.K.PathKey.path_of (g.Q.Sought.key_of item) in
    let G = λ (item : g.row.Q.Denot). ⊤ in
    all_sound R path G c.args.turns.now c.loop-place.turns c.loop-place.invariant.goes c.requires.sound

pub returns-in_err-remove_from-clause-goes : goal.returns-in_err-remove_from-clause-goes
returns-in_err-remove_from-clause-goes g c =
    let R = λ (item : g.row.Q.Denot) (found : Option g.row.S-Value.Denot). IfSome found (λ value. g.P.Keeps.holds (g.Q.Sought.key_of item) (g.S.ValueSlots.value_of value)) in
    all_go_on R c.args.turns.now c.loop-place.turns c.remove_from.new.turns c.loop-place.invariant.goes c.remove_from.ensures.goes

pub loop-place-preserved : goal.loop-place-preserved
loop-place-preserved g c =
    let R = λ (item : g.row.Q.Denot) (found : Option g.row.S-Value.Denot). IfSome found (λ value. g.P.Keeps.holds (g.Q.Sought.key_of item) (g.S.ValueSlots.value_of value)) in
    let now = c.remove_from.new.turns in
    record {
      goes = all_go_on R c.args.turns.now c.loop-place.turns now c.loop-place.invariant.goes c.remove_from.ensures.goes;
      done = below_more (λ k. (d : _) → IsDone (get_or now k d)) c.loop-place.place
          (λ k h. done_remains R c.loop-place.turns now k (omega (arith, h, c.loop-place-test.true, AllZip-long (Goes R) c.args.turns.now c.loop-place.turns c.loop-place.invariant.goes)) c.remove_from.ensures.goes (c.loop-place.invariant.done k h))
          c.in_ok-remove_from.ensures.done;
    }
