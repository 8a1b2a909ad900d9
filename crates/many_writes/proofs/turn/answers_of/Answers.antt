use Rattle.std.proofs.Common.{◌∷◌, length, ap, ◌∙◌, subst, arith, All}
use Rattle.std.proofs.lemmas.List.Elements.{All-tail}
use Rattle.many_writes.specs.Turns.{IsDone}
use Rattle.many_writes.proofs.Moves.{answers_more}
use Rattle.many_writes.proofs.turn.answers_of.Goals as goal

pub loop-turn-preserved : goal.loop-turn-preserved
loop-turn-preserved g c =
    let left = c.next.new.self.rest.items in
    let is = c.in-Some.ensures.steps.0 ∙ ap (λ t. t ∷ left) c.in-Done.is in
    let before = c.loop-turn.invariant in
    record {
      done = All-tail IsDone _ left (subst (All IsDone) is before.done);
      answers = answers_more c.loop-turn.answers.items c.push_reserved.new.self.items _ c.in-Done.answer c.loop-turn.turn-iterator.rest.items left is c.push_reserved.ensures.items before.answers;
      room = omega (arith, before.room, ap length is, c.push_reserved.ensures.len, c.push_reserved.ensures.capacity);
    }
