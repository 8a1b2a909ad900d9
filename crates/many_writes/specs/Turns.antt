-- Items that wait for their turn, or had it.
use Rattle.std.specs.Prelude.{◌≡◌, ◌+◌, ℕ, List, [], ◌∷◌}
use Rattle.hash_path.specs.Digits.{digit}
use Rattle.many_writes.specs.declared.turn.Turn.{Turn}
use Rattle.many_writes.specs.declared.turn.Turn.TheVariants.{Waits, Done}

module _ {T B : Type 0} where
  -- the item had its turn
  abbrev pub IsDone : Turn T B → Type 0
  IsDone (Waits p x) = ⊥
  IsDone (Done b) = Unit {0}

  -- an item that waits has this path word, and that holds of it
  abbrev pub IsSound : (T → ℕ) → (T → Type 0) → Turn T B → Type 0
  IsSound path G (Waits p x) = (p.0 ≡ path x) × G x
  IsSound path G (Done b) = Unit {0}

  -- an item that waits has a path word with this first digit
  abbrev pub HasDigit : ℕ → Turn T B → Type 0
  HasDigit d (Waits p x) = digit p.0 0 ≡ d
  HasDigit d (Done b) = Unit {0}

  -- the item waits, with its path word
  abbrev pub Stands : (T → ℕ) → T → Turn T B → Type 0
  Stands path item (Waits p x) = (x ≡ item) × (p.0 ≡ path item)
  Stands path item (Done b) = ⊥

  -- an item that waits still waits, or that came of it which stands to it so; one that had its turn stays
  abbrev pub Goes : (T → B → Type 0) → Turn T B → Turn T B → Type 0
  Goes R (Waits p x) (Waits q y) = (q ≡ p) × (y ≡ x)
  Goes R (Waits p x) (Done b) = R x b
  Goes R (Done a) (Waits q y) = ⊥
  Goes R (Done a) (Done b) = b ≡ a

  -- what came of the items that had their turn
  abbrev pub answers_in : List (Turn T B) → List B
  answers_in [] = []
  answers_in (Waits p x ∷ ts) = answers_in ts
  answers_in (Done b ∷ ts) = b ∷ answers_in ts

  -- the same, each with its place, where the first has the place n
  abbrev pub done_from : ℕ → List (Turn T B) → List (ℕ × B)
  done_from n [] = []
  done_from n (Waits p x ∷ ts) = done_from (n + 1) ts
  done_from n (Done b ∷ ts) = (n, b) ∷ done_from (n + 1) ts

  -- the items that wait
  abbrev pub left_in : List (Turn T B) → List T
  left_in [] = []
  left_in (Waits p x ∷ ts) = x ∷ left_in ts
  left_in (Done b ∷ ts) = left_in ts
