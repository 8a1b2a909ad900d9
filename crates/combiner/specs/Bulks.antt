-- What the parts of a bulk operation answer when they are joined.
use Rattle.std.specs.Prelude.{[], ◌∷◌}
use Rattle.std.specs.declared.cmp.Ordering.{Ordering}
use Rattle.versions.specs.Map.{Map, union, with_pair}
use Rattle.combiner.specs.Unions.{AreApart}

module _ {K V P : Type 0} (R : K → K → Ordering) (answers : Map K V → P → Type 0) where
  -- the parts answer two maps that are apart
  pub record Apart (a b : P) : Type 0 where
    pub first : Map K V
    pub second : Map K V
    pub first_is : answers first a
    pub second_is : answers second b
    pub apart : AreApart R first second

  -- there are such maps
  abbrev pub CanJoin : P → P → Type 0
  CanJoin a b = ∥ Apart a b ∥₁

  -- c answers the union of any two maps that are apart and that a and b answer
  abbrev pub IsJoined : P → P → P → Type 0
  IsJoined a b c = (m n : Map K V) → answers m a → answers n b → AreApart R m n → answers (union R m n) c

  -- the part answers a map that the pair is apart from
  abbrev pub CanAdd : P → K → V → Type 0
  CanAdd a k v = ∥ ((m : Map K V) × answers m a × AreApart R ((k, v) ∷ []) m) ∥₁

  -- c answers, with the pair, any map that the pair is apart from and that a answers
  abbrev pub IsAdded : P → K → V → P → Type 0
  IsAdded a k v c = (m : Map K V) → answers m a → AreApart R ((k, v) ∷ []) m → answers (with_pair R m k v) c

  -- the part answers a map that the map n is apart from
  abbrev pub CanJoinMap : P → Map K V → Type 0
  CanJoinMap a n = ∥ ((m : Map K V) × answers m a × AreApart R m n) ∥₁

  -- c answers the union of n with any map that n is apart from and that a answers
  abbrev pub IsJoinedMap : P → Map K V → P → Type 0
  IsJoinedMap a n c = (m : Map K V) → answers m a → AreApart R m n → answers (union R m n) c
