use Rattle.std.proofs.Common.{◌≡◌, ◌≤◌, ◌+◌, ◌++◌, length, vec_capacity, vec_len}
use Rattle.std.specs.Prelude.{All}
use Rattle.many_writes.specs.Turns.{IsDone, answers_in}
use Rattle.many_writes.proofs.turn.answers_of.Given as goal

-- the answers so far and those to come are all
abbrev pub invariant-loop-turn : goal.invariant-loop-turn
invariant-loop-turn g l = record {
  done : All IsDone l.turn-iterator.rest.items;
  answers : l.answers.items ++ answers_in l.turn-iterator.rest.items ≡ answers_in l.fn.turns.items;
  room : vec_len l.answers + length l.turn-iterator.rest.items ≤ vec_capacity l.answers;
}
