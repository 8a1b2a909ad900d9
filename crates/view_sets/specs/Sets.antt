-- Two maps together.
use Rattle.std.specs.Prelude.{Bool, false, not, filter, is_some}
use Rattle.std.specs.Option.{option_map_or}
use Rattle.std.specs.declared.cmp.Ordering.{Ordering}
use Rattle.trie_shape.specs.Map.{Map, value_at}

-- the pairs of m whose keys are keys of n
abbrev pub common : {K V W : Type 0} → (K → K → Ordering) → Map K V → Map K W → Map K V
common R m n = filter (λ x. is_some (value_at R n x.0)) m

-- the pairs of m whose keys are no keys of n
abbrev pub apart : {K V W : Type 0} → (K → K → Ordering) → Map K V → Map K W → Map K V
apart R m n = filter (λ x. not (is_some (value_at R n x.0))) m

-- the pairs of m whose keys are keys of n with an unequal value
abbrev pub altered : {K V : Type 0} → (K → K → Ordering) → (V → V → Bool) → Map K V → Map K V → Map K V
altered R same m n = filter (λ x. option_map_or (λ before. not (same before x.1)) (value_at R n x.0) false) m
