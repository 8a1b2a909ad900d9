use Rattle.std.proofs.Common.{◌≡◌, drop}
use Rattle.std.specs.Ordering.{nat_cmp}
use Rattle.versions.specs.Map.{value_at}
use Rattle.journal.specs.Kept.{openers_of}
use Rattle.journal.proofs.frozen.beside.Given as goal

-- the token is among those that are left
abbrev pub invariant-loop-frozen : goal.invariant-loop-frozen
invariant-loop-frozen g l = value_at nat_cmp (openers_of (drop l.frozen-index l.freezes)) l.number ≡ value_at nat_cmp (openers_of l.freezes) l.number
