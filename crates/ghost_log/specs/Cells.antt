-- Rights to count up cells of a book.
use Rattle.std.specs.Prelude.{◌≡◌, ℕ, ◌+◌, ◌<◌, ◌==◌, Bool, true, false, if◌then◌else◌, List, [], ◌∷◌, length, map, set}
use base.Share.{quarter}
use base.Fml.{Fml, ftrue, fsep}
use Rattle.logbook.specs.Pages.{Cell, cell}
use Rattle.logbook.specs.Kept.{part}

-- the key and the number of a cell
abbrev pub Count : Type 0
Count = ℕ × ℕ

-- a quarter of each cell is owned: so nobody else can change it
abbrev pub rights_own : ℕ → List Count → Fml
rights_own δ [] = ftrue
rights_own δ (c ∷ rest) = fsep (part δ c.0 quarter c.1) (rights_own δ rest)

-- the same cells, with numbers that are m higher
abbrev pub counted : ℕ → List Count → List Count
counted m rights = map (λ (c : Count). (c.0, c.1 + m)) rights

-- whether one of the cells has this key
abbrev pub has_key : ℕ → List Count → Bool
has_key k [] = false
has_key k (c ∷ rest) = if c.0 == k then true else has_key k rest

-- none of the cells has this key
abbrev pub HasOther : ℕ → List Count → Type 0
HasOther k [] = Unit {0}
HasOther k (c ∷ rest) = (c.0 ≡ k → ⊥) × HasOther k rest

-- no two of the cells have one key
abbrev pub AllDiffer : List Count → Type 0
AllDiffer [] = Unit {0}
AllDiffer (c ∷ rest) = HasOther c.0 rest × AllDiffer rest

-- the book holds each of the cells that it has
abbrev pub AreHome : List Cell → List Count → Type 0
AreHome cells [] = Unit {0}
AreHome cells (c ∷ rest) = (c.0 < length cells → (cell cells c.0).1 ≡ true) × AreHome cells rest

-- each of the cells has its number in the book
abbrev pub Agree : List Cell → List Count → Type 0
Agree cells [] = Unit {0}
Agree cells (c ∷ rest) = (cell cells c.0 ≡ (c.1, true)) × Agree cells rest

-- the cells of the book once each of these is m higher
abbrev pub cells_after : ℕ → List Cell → List Count → List Cell
cells_after m cells [] = cells
cells_after m cells (c ∷ rest) = cells_after m (set cells c.0 (c.1 + m, true)) rest
