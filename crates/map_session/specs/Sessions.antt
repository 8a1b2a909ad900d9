-- What contracts see of a session, its writes one after another, and entries of a history that leave a key.
use Rattle.std.specs.Prelude.{◌≡◌, ℕ, Bool, true, false, List, [], ◌∷◌, Option, Some}
use Rattle.std.specs.declared.cmp.Ordering.{Ordering}
use Rattle.std.specs.Ordering.{eq_by_cmp}
use mathlib.Core.List.{IsPrefix}
use Rattle.write_history.specs.declared.entry.Entry.{Entry}
use Rattle.write_history.specs.declared.entry.Write.{Write}
use Rattle.write_history.specs.declared.entry.Write.TheVariants.{Put, Remove, Clear}
use Rattle.write_history.specs.Signers.{Signer, WroteIf, signed_once}

-- a beginning of the history, which was seen, and as whom writes are signed
pub record Seen (K V : Type 0) : Type 0 where
  pub log : List (Entry K V)
  pub signer : Signer

-- more is seen, and nothing was signed
abbrev pub GoesOn : {K V : Type 0} → Seen K V → Seen K V → Type 0
GoesOn s t = IsPrefix s.log t.log × (t.signer ≡ s.signer)

-- a step for each of the items, one behind another, with other writes between them or none
abbrev pub InTurn : {A K V : Type 0} → (A → Seen K V → Seen K V → Type 0) → List A → Seen K V → Seen K V → Type 0
InTurn step [] s t = GoesOn s t
InTurn {A} {K} {V} step (x ∷ xs) s u = (t : Seen K V) × step x s t × InTurn step xs t u

module _ {K V : Type 0} (R : K → K → Ordering) (path : K → ℕ) where
  -- the pair is put, as an entry that is signed
  abbrev pub Puts : K × V → Seen K V → Seen K V → Type 0
  Puts pair s t = (before : Option V) × WroteIf R path true (Put pair.0 pair.1) pair.0 before s.signer s.log t.log × (t.signer ≡ signed_once s.signer)

  -- the pair is removed, as an entry that is signed
  abbrev pub Removes : K × V → Seen K V → Seen K V → Type 0
  Removes pair s t = WroteIf R path true (Remove pair.0) pair.0 (Some pair.1) s.signer s.log t.log × (t.signer ≡ signed_once s.signer)

  -- the key of three is given the last of them, made of its value, as an entry that is signed
  abbrev pub Replaces : (K → V → V → Type 0) → K × V × V → Seen K V → Seen K V → Type 0
  Replaces may x s t = may x.0 x.1 x.2 × WroteIf R path true (Put x.0 x.2) x.0 (Some x.1) s.signer s.log t.log × (t.signer ≡ signed_once s.signer)

  -- the key is given a value, made of its own, where it is said so
  abbrev pub ReplacesIf : Bool → K → (K → V → V → Type 0) → Seen K V → Seen K V → Type 0
  ReplacesIf true k may s t = (old : V) × (made : V) × Replaces may (k, old, made) s t
  ReplacesIf false k may s t = GoesOn s t

  -- the key is removed where it is said so, and had then a value of which P holds
  abbrev pub RemovesIf : Bool → K → (V → Type 0) → Seen K V → Seen K V → Type 0
  RemovesIf true k P s t = (v : V) × P v × Removes (k, v) s t
  RemovesIf false k P s t = GoesOn s t

module _ {K V : Type 0} (R : K → K → Ordering) (q : K) where
  -- whether the write is of the key
  abbrev pub is_write_of : Write K V → Bool
  is_write_of (Put k v) = eq_by_cmp R q k
  is_write_of (Remove k) = eq_by_cmp R k q
  is_write_of Clear = true

  -- no entry writes the key
  abbrev pub Untouched : List (Entry K V) → Type 0
  Untouched [] = Unit {0}
  Untouched (e ∷ es) = (is_write_of e.write ≡ false) × Untouched es
