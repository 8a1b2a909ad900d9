use Rattle.std.proofs.Common.{◌≡◌, ◌+◌, length}
use Rattle.hash_path.specs.Digits.{fan_out}
use Rattle.stripes.proofs.stripes.Stripes.new.Given as goal

abbrev pub invariant-loop-stripe : goal.invariant-loop-stripe
invariant-loop-stripe g l = length l.locks.items + length l.stripe-iterator.rest.items ≡ fan_out
