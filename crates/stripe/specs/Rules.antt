-- Maps whose pairs keep a rule.
use Rattle.std.specs.Prelude.{◌≡◌, ℕ, Option, Some}
use Rattle.std.specs.declared.cmp.Ordering.{Ordering}
use Rattle.hash_path.specs.Digits.{digit}
use Rattle.logbook.specs.Pages.{Book}
use Rattle.stripe.specs.Told.{Tells, as_digit}
use Rattle.stripe.specs.declared.stripe.TheConstants.{MOST_PAIRS_OF_STRIPE}
use Rattle.versions.specs.Contents.{Contents}
use Rattle.versions.specs.Map.{Map, value_at}
use Rattle.write_history.specs.Rules.{HasHistory, Known}
use Rattle.versions.specs.declared.refusal.Refusal.{Refusal}
use Rattle.versions.specs.declared.refusal.Refusal.TheVariants.{Full, NoMemory}

-- each pair of the map keeps the rule
abbrev pub AllKeep : {K V : Type 0} → (K → K → Ordering) → (K → V → Type 0) → Map K V → Type 0
AllKeep {K} {V} R H m = (k : K) (v : V) → value_at R m k ≡ Some v → H k v

-- the first digit of a key's word
abbrev pub first_digit : {K : Type 0} → (K → ℕ) → K → ℕ
first_digit path k = digit (path k) 0

-- the pair keeps the rule, and its key's word has this first digit
abbrev pub Belongs : {K V : Type 0} → (K → ℕ) → (K → V → Type 0) → ℕ → K → V → Type 0
Belongs path H d k v = H k v × (first_digit path k ≡ d)

-- what the pairs, the limit and the history of a stripe keep: it has the limit of a stripe, each pair belongs there, and its part of the history, if there is one, is that of its digit and says what its keys have
pub record IsStripe {K V : Type 0} (R : K → K → Ordering) (path : K → ℕ) (H : K → V → Type 0) (name : Option Book) (d : ℕ) (c : Contents K V) (part : Known K V) : Type 0 where
  pub limit : c.limit ≡ MOST_PAIRS_OF_STRIPE
  pub belongs : AllKeep R (Belongs path H d) c.entries
  pub told : HasHistory name → (part.digit ≡ as_digit d) × Tells R path d c.entries part.log

-- why a put may be refused: there are as many pairs as there may be, or memory runs out
abbrev pub IsPutRefusal : Refusal → Type 0
IsPutRefusal Full = Unit {0}
IsPutRefusal NoMemory = Unit {0}
IsPutRefusal e = ⊥
