use Rattle.std.proofs.Common.{◌<◌, ℕ, IfSome, get_or}
use Rattle.std.specs.List.{AllZip}
use Rattle.many_writes.specs.Turns.{Goes, IsDone}
use Rattle.many_writes.proofs.puts.put_turns.Given as goal

-- all have gone on, and those so far had their turn
abbrev pub invariant-loop-place : goal.invariant-loop-place
invariant-loop-place g l = record {
  goes : AllZip (Goes (λ pair found. IfSome found (λ value. g.P.Keeps.holds pair.0 (g.S.ValueSlots.value_of value)))) l.fn.turns l.turns;
  done : (k : ℕ) → k < l.place → (d : _) → IsDone (get_or l.turns k d);
}
