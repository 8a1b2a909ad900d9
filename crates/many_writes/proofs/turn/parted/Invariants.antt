use Rattle.std.proofs.Common.{◌≡◌, ◌≤◌, ◌+◌, ◌++◌, length, vec_capacity, vec_len}
use Rattle.many_writes.specs.Turns.{done_from, left_in}
use Rattle.many_writes.proofs.turn.parted.Given as goal

-- what is done or left so far and what comes are all
abbrev pub invariant-loop-turn : goal.invariant-loop-turn
invariant-loop-turn g l = record {
  place : l.place + length l.turn-iterator.rest.items ≡ length l.fn.turns.items;
  done : l.done.items ++ done_from l.place l.turn-iterator.rest.items ≡ done_from 0 l.fn.turns.items;
  room : vec_len l.done + length l.turn-iterator.rest.items ≤ vec_capacity l.done;
  left : l.rest.items ++ left_in l.turn-iterator.rest.items ≡ left_in l.fn.turns.items;
  room_of_rest : vec_len l.rest + length l.turn-iterator.rest.items ≤ vec_capacity l.rest;
}
