use Rattle.std.proofs.Common.{◌+◌, ◌∷◌, ◌++◌, Vec, length, vec_len, vec_capacity, ap, sym, ◌∙◌, arith}
use Rattle.many_writes.specs.Turns.{done_from, left_in}
use Rattle.many_writes.proofs.Moves.{done_more, left_more}
use Rattle.many_writes.proofs.turn.parted.Goals as goal
use Rattle.many_writes.proofs.turn.parted.Goals.{in-Done, in-Waits}

pub loop-turn-preserved : goal.loop-turn-preserved
loop-turn-preserved g c =
    let left = c.next.new.self.rest.items in
    let rest = c.loop-turn.turn-iterator.rest.items in
    let before = c.loop-turn.invariant in
    elim c.match-turn.branch [
      | in-Done w ↦
          let is = c.in-Some.ensures.steps.0 ∙ ap (λ t. t ∷ left) w.in-Done.is in
          record {
            place = omega (arith, before.place, ap length is);
            done = done_more c.loop-turn.done.items c.match-turn.done.items _ c.loop-turn.place w.in-Done.answer rest left is (ap (λ (v : Vec _ _). v.items) w.done-is ∙ w.push_reserved.ensures.items) before.done;
            room = omega (arith, before.room, ap length is, ap vec_len w.done-is, ap vec_capacity w.done-is, w.push_reserved.ensures.len, w.push_reserved.ensures.capacity);
            left = ap (λ (v : Vec _ _). v.items ++ left_in left) w.rest-is ∙ (ap (λ ts. c.loop-turn.rest.items ++ left_in ts) (sym is) ∙ before.left);
            room_of_rest = omega (arith, before.room_of_rest, ap length is, ap vec_len w.rest-is, ap vec_capacity w.rest-is);
          }
      | in-Waits w ↦
          let is = c.in-Some.ensures.steps.0 ∙ ap (λ t. t ∷ left) w.in-Waits.is in
          record {
            place = omega (arith, before.place, ap length is);
            done = ap (λ (v : Vec _ _). v.items ++ done_from (c.loop-turn.place + 1) left) w.done-is ∙ (ap (λ ts. c.loop-turn.done.items ++ done_from c.loop-turn.place ts) (sym is) ∙ before.done);
            room = omega (arith, before.room, ap length is, ap vec_len w.done-is, ap vec_capacity w.done-is);
            left = left_more c.loop-turn.rest.items c.match-turn.rest.items _ _ w.in-Waits.item rest left is (ap (λ (v : Vec _ _). v.items) w.rest-is ∙ w.push_reserved-in-Waits.ensures.items) before.left;
            room_of_rest = omega (arith, before.room_of_rest, ap length is, ap vec_len w.rest-is, ap vec_capacity w.rest-is, w.push_reserved-in-Waits.ensures.len, w.push_reserved-in-Waits.ensures.capacity);
          }
    ]
