-- Which commands write.
use Rattle.std.specs.Prelude.{Bool, true, false, is_some, is_none}
use Rattle.std.specs.declared.cmp.Ordering.{Ordering}
use Rattle.versions.specs.Map.{Map, value_at}
use Rattle.versions.specs.Commands.{Command, get, put, put_if_absent, replace, replace_if, remove, remove_if, size, clear, is_equal}

module _ {K V : Type 0} (R : K → K → Ordering) (E : V → V → Bool) where
  -- whether the command writes to the map
  abbrev pub writes : Map K V → Command K V → Bool
  writes m (get k) = false
  writes m (put k v) = true
  writes m (put_if_absent k v) = is_none (value_at R m k)
  writes m (replace k v) = is_some (value_at R m k)
  writes m (replace_if k was v) = is_equal E (value_at R m k) was
  writes m (remove k) = is_some (value_at R m k)
  writes m (remove_if k v) = is_equal E (value_at R m k) v
  writes m size = false
  writes m clear = true
