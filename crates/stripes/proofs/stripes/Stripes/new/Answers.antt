use Rattle.std.proofs.Common.{◌≡◌, ℕ, ◌+◌, length, ap, ◌∙◌, arith}
use Rattle.std.specs.Vec.Iter.{into_iter_items}
use Rattle.hash_path.specs.Digits.{fan_out}
use Rattle.stripes.proofs.Lending.{stripe_count}
use Rattle.stripes.proofs.stripes.Stripes.new.Goals as goal

none_and_all : (a b n : ℕ) → a ≡ 0 → b ≡ n → a + b ≡ n
none_and_all a b n none all = omega arith

pub loop-stripe-init : goal.loop-stripe-init
loop-stripe-init g c =
    none_and_all (length c.in_ok-locks.locks.items) (length (into_iter_items c.into_iter-stripe-iterator.result)) fan_out
    (ap length c.in_ok-locks.ensures.items) (ap length c.into_iter-stripe-iterator.ensures.into_iter_gives.0 ∙ stripe_count c.args.stripes.items fan_out c.requires)
