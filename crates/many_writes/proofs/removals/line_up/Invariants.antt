use Rattle.std.proofs.Common.{◌≡◌, ◌≤◌, length, take, vec_capacity, vec_len}
use Rattle.std.specs.List.{AllZip}
use Rattle.many_writes.specs.Turns.{Stands}
use Rattle.many_writes.proofs.removals.line_up.Given as goal

-- the keys so far wait
abbrev pub invariant-loop-key : goal.invariant-loop-key
invariant-loop-key g l = record {
  turns : AllZip (Stands (λ key. g.K.PathKey.path_of (g.Q.Sought.key_of key))) (take l.key-index l.keys) l.turns.items;
  count : vec_len l.turns ≡ l.key-index;
  room : length l.keys ≤ vec_capacity l.turns;
}
