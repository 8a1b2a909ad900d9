-- What questions about a map may be answered.
use Rattle.std.specs.Prelude.{◌≡◌, ◌&&◌, ℕ, Bool, true, false, not, Option, Some, None, Contains, IfSome, map}
use Rattle.std.specs.List.{list_any}
use Rattle.std.specs.declared.cmp.Ordering.{Ordering}
use Rattle.bulk_work.specs.Answers as plain
use Rattle.bulk_ops.specs.Meanings.{Means}
use Rattle.bulk_work.specs.Summaries.{IsAnswered}
use Rattle.bulk_work.specs.declared.asks.Answer.{Answer}
use Rattle.stripe.specs.Rules.{AllKeep}
use Rattle.versions.specs.Contents.{Contents}
use Rattle.versions.specs.Map.{Map}

-- a pair of the map that passes, or none where none does
abbrev pub IsFound : {K V : Type 0} → (K → V → Bool) → Map K V → Option (K × V) → Type 0
IsFound p m None = list_any (plain.passes p) m ≡ false
IsFound p m (Some x) = Contains m x × (plain.passes p x ≡ true)

-- what is found is a pair of the map; for each meaning of the closure it passes, and where none is found none passes
pub record IsFoundBy {K V : Type 0} (gives : K → V → Bool → Type 0) (m : Map K V) (found : Option (K × V)) : Type 0 where
  pub there : IfSome found (Contains m)
  pub exact : (p : K → V → Bool) → Means gives p → IsFound p m found

-- the pairs that fail the test
abbrev pub failing : {K V : Type 0} → (K → V → Bool) → Map K V → Map K V
failing p m = plain.passing (λ k v. not (p k v)) m

-- the map of the same keys, each with what f makes of its pair
abbrev pub changed : {K V W : Type 0} → (K → V → W) → Map K V → Map K W
changed f m = map (λ x. (x.0, f x.0 x.1)) m

-- this answer is returned, and the map `made`, for a map each pair of which keeps the rule
abbrev pub IsAnsweredOfKept : {K V I : Type 0} → (K → K → Ordering) → (K → V → Type 0) → (Map K V → plain.Answer K V I → Type 0) → Option ℕ → Answer K V I → Option (Contents K V) → Type 0
IsAnsweredOfKept {K} {V} R H answered to answer made = (m : Map K V) × AllKeep R H m × IsAnswered (answered m) to answer made

-- the keys are equal, and so are the values
abbrev pub same_pair : {K V : Type 0} → (K → K → Bool) → (V → V → Bool) → K × V → K × V → Bool
same_pair E F x y = E x.0 y.0 && F x.1 y.1

-- a pair as it lies in the rows of a map, without where its parts lie
abbrev pub pair_of : {K V X Y : Type 0} → (X → K) → (Y → V) → X × Y → K × V
pair_of key_of value_of x = (key_of x.0, value_of x.1)
