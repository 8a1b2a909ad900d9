use Rattle.std.proofs.Common.{◌≡◌, ◌+◌, ◌≤◌, ◌++◌, List, length, vec_capacity, vec_len}
use Rattle.std.specs.List.{AllZip}
use Rattle.many_writes.specs.Turns.{Stands}
use Rattle.many_writes.proofs.puts.line_up.Given as goal

-- the pairs that came so far wait
abbrev pub invariant-loop-key : goal.invariant-loop-key
invariant-loop-key g l = record {
  turns : (came : List (g.row.K.Denot × g.row.V.Denot)) × (l.fn.pairs.items ≡ came ++ l.key-iterator.rest.items) × AllZip (Stands (λ pair. g.K.PathKey.path_of pair.0)) came l.turns.items;
  room : vec_len l.turns + length l.key-iterator.rest.items ≤ vec_capacity l.turns;
}
