use Rattle.std.proofs.Common.{◌<◌, ℕ, IfSome, get_or}
use Rattle.std.specs.List.{AllZip}
use Rattle.many_writes.specs.Turns.{Goes, IsDone}
use Rattle.many_writes.proofs.removals.remove_turns.Given as goal

-- all have gone on, and those so far had their turn
abbrev pub invariant-loop-place : goal.invariant-loop-place
invariant-loop-place g l = record {
  goes : AllZip (Goes (λ key found. IfSome found (λ value. g.P.Keeps.holds (g.Q.Sought.key_of key) (g.S.ValueSlots.value_of value)))) l.fn.turns l.turns;
  done : (k : ℕ) → k < l.place → (d : _) → IsDone (get_or l.turns k d);
}
