-- The order of keys with a chosen path.
use Rattle.std.specs.declared.cmp.Ordering.{Ordering}
use Rattle.std.specs.Ordering.{nat_cmp, ordering_then}
use Rattle.test_keys.specs.declared.chosen.ChosenKey.{ChosenKey}

-- keys with a chosen path compare by the path, and then by the id
abbrev pub chosen_cmp : ChosenKey → ChosenKey → Ordering
chosen_cmp a b = ordering_then (nat_cmp a.path b.path) (nat_cmp a.id b.id)
