use Rattle.std.proofs.Common.{Option, IfSome, get_or, below_more, arith}
use Rattle.many_writes.specs.Turns.{IsDone}
use Rattle.many_writes.proofs.Moves.{all_go_on, all_sound, all_stay, done_remains}
use Rattle.std.proofs.lemmas.Slice.Zip.{AllZip-long}
use Rattle.many_writes.specs.Turns.{Goes}
use Rattle.many_writes.proofs.puts.put_turns.Goals as goal

pub loop-place-init : goal.loop-place-init
loop-place-init g c =
    let R = λ (item : g.row.K.Denot × g.row.V.Denot) (found : Option g.row.S-Value.Denot). IfSome found (λ value. g.P.Keeps.holds item.0 (g.S.ValueSlots.value_of value)) in
    record { goes = all_stay R c.args.turns.now; done = λ k h. absurd (omega (arith, h)) }

pub put_from-requires-clause-sound : goal.put_from-requires-clause-sound
put_from-requires-clause-sound g c =
    let R = λ (item : g.row.K.Denot × g.row.V.Denot) (found : Option g.row.S-Value.Denot). IfSome found (λ value. g.P.Keeps.holds item.0 (g.S.ValueSlots.value_of value)) in
    let path = λ (item : g.row.K.Denot × g.row.V.Denot). g.K.PathKey.path_of item.0 in
    let G = λ (item : g.row.K.Denot × g.row.V.Denot). g.P.Keeps.holds item.0 item.1 in
    all_sound R path G c.args.turns.now c.loop-place.turns c.loop-place.invariant.goes c.requires.sound

pub returns-in_err-put_from-clause-goes : goal.returns-in_err-put_from-clause-goes
returns-in_err-put_from-clause-goes g c =
    let R = λ (item : g.row.K.Denot × g.row.V.Denot) (found : Option g.row.S-Value.Denot). IfSome found (λ value. g.P.Keeps.holds item.0 (g.S.ValueSlots.value_of value)) in
    all_go_on R c.args.turns.now c.loop-place.turns c.put_from.new.turns c.loop-place.invariant.goes c.put_from.ensures.goes

pub loop-place-preserved : goal.loop-place-preserved
loop-place-preserved g c =
    let R = λ (item : g.row.K.Denot × g.row.V.Denot) (found : Option g.row.S-Value.Denot). IfSome found (λ value. g.P.Keeps.holds item.0 (g.S.ValueSlots.value_of value)) in
    let now = c.put_from.new.turns in
    record {
      goes = all_go_on R c.args.turns.now c.loop-place.turns now c.loop-place.invariant.goes c.put_from.ensures.goes;
      done = below_more (λ k. (d : _) → IsDone (get_or now k d)) c.loop-place.place
          (λ k h. done_remains R c.loop-place.turns now k (omega (arith, h, c.loop-place-test.true, AllZip-long (Goes R) c.args.turns.now c.loop-place.turns c.loop-place.invariant.goes)) c.put_from.ensures.goes (c.loop-place.invariant.done k h))
          c.in_ok-put_from.ensures.done;
    }
