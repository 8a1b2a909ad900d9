use Rattle.std.proofs.Common.{◌≡◌, ◌-◌, IfSome, length}
use Rattle.std.specs.List.{AllZip}
use Rattle.many_writes.specs.Turns.{Goes}
use Rattle.many_writes.proofs.puts.put_behind.Given as goal

-- all have gone on
abbrev pub invariant-loop-next : goal.invariant-loop-next
invariant-loop-next g l = record {
  goes : AllZip (Goes (λ pair found. IfSome found (λ value. g.P.Keeps.holds pair.0 (g.S.ValueSlots.value_of value)))) l.fn.turns l.turns;
  digit : l.stripe.digit ≡ l.fn.stripe.digit;
}

abbrev pub decreases-loop-next : goal.decreases-loop-next
decreases-loop-next g l = length l.turns - l.next
