-- Who signs writes.
use Rattle.std.specs.Prelude.{◌≡◌, ℕ, ◌+◌, ◌≤◌, ◌⊎◌, Bool, List, [], ◌∷◌, ◌++◌, Option, Some, None, IfSome, IsTrue, is_some, if◌then◌else◌}
use Rattle.std.specs.declared.cmp.Ordering.{Ordering}
use mathlib.Core.List.{IsPrefix}
use Rattle.hash_path.specs.Digits.{fan_out}
use Rattle.logbook.specs.Pages.{Book}
use Rattle.ghost_log.specs.Cells.{Count}
use Rattle.write_history.specs.declared.entry.Entry.{Entry}
use Rattle.write_history.specs.declared.entry.Write.{Write}
use Rattle.write_history.specs.Histories.{count_of, value_in}

-- an author, or nobody, and how many writes it has signed
pub record Signer : Type 0 where
  pub by : Option ℕ
  pub made : ℕ

-- who has these rights
abbrev pub signer_of : List Count → Signer
signer_of [] = record { by = None; made = 0 }
signer_of (c ∷ rest) = record { by = Some c.0; made = c.1 }

-- the right is that of an author of the book of the name, if there is one
abbrev pub IsAuthor : Option Book → Book → List Count → Type 0
IsAuthor name of_rights rights = (rights ≡ []) ⊎ ((a : ℕ) × (n : ℕ) × (rights ≡ (a, n) ∷ []) × (fan_out ≤ a) × (name ≡ Some of_rights))

-- the signer once it has signed one more
abbrev pub signed_once : Signer → Signer
signed_once s = record { by = s.by; made = (if is_some s.by then s.made + 1 else s.made) }

-- of the signer's writes the history has as many as it has signed
abbrev pub Made : {K V : Type 0} → (K → ℕ) → Signer → List (Entry K V) → Type 0
Made path s log = IfSome s.by (λ a. count_of path a log ≡ s.made)

-- the signer, where it has signed one more or has not
abbrev pub signed_if : Bool → Signer → Signer
signed_if done s = if done then signed_once s else s

module _ {K V : Type 0} (R : K → K → Ordering) (path : K → ℕ) where
  -- what was seen goes on to a history, in which the key has this value
  abbrev pub Read : K → Option V → List (Entry K V) → List (Entry K V) → Type 0
  Read k found old new = IsPrefix old new × (found ≡ value_in R path new k)

  -- what was seen goes on to a history, in which the key has this value, and of the signer as many writes as it had signed; the write is added to it, where it was done
  abbrev pub WroteIf : Bool → Write K V → K → Option V → Signer → List (Entry K V) → List (Entry K V) → Type 0
  WroteIf done w k before signer old new =
      (h : List (Entry K V)) × IsPrefix old h × (before ≡ value_in R path h k) × (IsTrue done → Made path signer h) × (new ≡ (if done then h ++ record { by = signer.by; write = w } ∷ [] else h))
