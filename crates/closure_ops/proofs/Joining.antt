-- A part of a pair, and one of a root, are joined to a part.
use Rattle.std.proofs.Common.{[], ◌∷◌}
use Rattle.std.proofs.Math.Logic.{∥∥₁_map}
use Rattle.std.specs.declared.cmp.Ordering.{Ordering}
use Rattle.versions.specs.Map.{Map}
use Rattle.combiner.specs.Bulks.{Apart, CanAdd, CanJoin, CanJoinMap}
use Rattle.combiner.specs.Unions.{AreApart}

-- where a map can be joined, a part that answers it can
pub can_join_part : {K V P : Type 0} (R : K → K → Ordering) (answers : Map K V → P → Type 0) (a made : P) (n : Map K V) → answers n made → CanJoinMap R answers a n → CanJoin R answers a made
can_join_part {K} {V} R answers a made n is can =
    let beside : ((m : Map K V) × answers m a × AreApart R m n) → Apart R answers a made =
    λ found. record { first = found.0; second = n; first_is = found.1; second_is = is; apart = found.2 } in
    ∥∥₁_map can beside

-- where a pair can be added, the part of the pair can be joined
pub can_join_pair : {K V P : Type 0} (R : K → K → Ordering) (answers : Map K V → P → Type 0) (one a : P) (k : K) (v : V) → answers ((k, v) ∷ []) one → CanAdd R answers a k v → CanJoin R answers one a
can_join_pair {K} {V} R answers one a k v is can =
    let beside : ((m : Map K V) × answers m a × AreApart R ((k, v) ∷ []) m) → Apart R answers one a =
    λ found. record { first = (k, v) ∷ []; second = found.0; first_is = is; second_is = found.1; apart = found.2 } in
    ∥∥₁_map can beside
