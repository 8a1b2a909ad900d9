-- The rule of the book of a history, and what a part keeps.
use Rattle.std.specs.Prelude.{◌≡◌, ℕ, zero, suc, ◌≤◌, ◌<◌, ◌⊎◌, true, List, [], ◌∷◌, ◌++◌, length, map, Option, Some, None, IfSome}
use Rattle.hash_path.specs.Digits.{fan_out}
use Rattle.logbook.specs.Pages.{Cell, cell, Book}
use Rattle.ghost_log.specs.Cells.{Count}
use Rattle.write_history.specs.declared.entry.Entry.{Entry}
use Rattle.write_history.specs.Histories.{count_of}

-- each digit has a cell and so has each author, with the number of the entries that it counts
pub record IsKept {K V : Type 0} (path : K → ℕ) (cells : List Cell) (log : List (Entry K V)) : Type 0 where
  pub wide : fan_out ≤ length cells
  pub counts : (k : ℕ) → k < length cells → cell cells k ≡ (count_of path k log, true)

-- the map has a history
abbrev pub HasHistory : Option Book → Type 0
HasHistory name = (b : Book) × (name ≡ Some b)

-- a book that was opened, and how many authors it has
pub record NewBook : Type 0 where
  pub book : Book
  pub authors : ℕ

-- the digit of the next part, and how many authors there are
pub record Left : Type 0 where
  pub next : ℕ
  pub authors : ℕ

-- a first digit, or none, and a history in which its writes are all that there are of it
pub record Known (K V : Type 0) : Type 0 where
  pub digit : Option ℕ
  pub log : List (Entry K V)

-- the key of the first right
abbrev pub first_key : List Count → Option ℕ
first_key [] = None
first_key (c ∷ rest) = Some c.0

-- what a part has is of the book of the name; its right, if it has one, is that of a digit, with the number of the digit's writes in what the part has seen
pub record IsPart {K V : Type 0} (path : K → ℕ) (name : Option Book) (of_rights : Book) (rights : List Count) (of_seen : Book) (log : List (Entry K V)) : Type 0 where
  pub named : IfSome name (λ b. (of_seen ≡ b) × (of_rights ≡ b))
  pub right : (rights ≡ []) ⊎ ((d : ℕ) × (rights ≡ (d, count_of path d log) ∷ []) × (d < fan_out) × (name ≡ Some of_rights))

-- the numbers below n
abbrev pub up_to : ℕ → List ℕ
up_to zero = []
up_to (suc n) = up_to n ++ n ∷ []

-- a digit as a list
abbrev pub listed : Option ℕ → List ℕ
listed None = []
listed (Some d) = d ∷ []

-- digits whose parts have lent their rights, and a history that was seen
pub record Lent (K V : Type 0) : Type 0 where
  pub digits : List ℕ
  pub log : List (Entry K V)

-- the keys of cells
abbrev pub keys_of : List Count → List ℕ
keys_of cells = map (λ (c : Count). c.0) cells

-- rights that parts have lent, and what was seen, are of the book of the name
pub record AreLent (name : Option Book) (of_rights : Book) (rights : List Count) (of_seen : Book) : Type 0 where
  pub named : IfSome name (λ b. (of_seen ≡ b) × (of_rights ≡ b))
  pub told : (rights ≡ []) ⊎ (name ≡ Some of_rights)

-- each cell is that of a digit, with the number of the digit's writes in the history
abbrev pub AllCounted : {K V : Type 0} → (K → ℕ) → List (Entry K V) → List Count → Type 0
AllCounted path log [] = Unit {0}
AllCounted path log (c ∷ rest) = (c.1 ≡ count_of path c.0 log) × (c.0 < fan_out) × AllCounted path log rest
