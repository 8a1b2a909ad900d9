-- Leases that have expired.
use Rattle.std.specs.Prelude.{ℕ, Bool, nat_le, nat_lt, if◌then◌else◌}

-- whether a lease passes: one that has expired by now, or one that has not
abbrev pub passes : ℕ → Bool → ℕ → Bool
passes now expired until = if expired then nat_le until now else nat_lt now until
