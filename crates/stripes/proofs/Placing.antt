-- Stripes that are taken into one map, one after another.
use Rattle.std.proofs.Common.{◌≡◌, ℕ, Bool, true, false, not, cond, ◌||◌, eqb, List, [], ◌∷◌, Option, Some, None, is_some, refl, sym, ◌∙◌, ap, subst, true≢false}
use Rattle.std.proofs.lemmas.Bool.{eqb-true, eq-eqb, and_parts}
use Rattle.std.specs.declared.cmp.Ordering.{Ordering}
use Rattle.std.specs.List.{list_any}
use Rattle.std.specs.Option.{option_or}
use Rattle.united_roots.specs.Rows.{EachHasDigit}
use Rattle.versions.specs.Map.{Map, IsMap, value_at, union}
use Rattle.stripe.specs.Rules.{AllKeep, Belongs, first_digit}
use Rattle.stripe.specs.Contents.{Content}
use Rattle.stripes.specs.Stripes.{all_differ, digits_of, map_of_digit, maps_of, unions}
use Rattle.stripes.proofs.Keeping.{kept_union}

not_true : (b : Bool) → not b ≡ true → b ≡ false
not_true true e = sym e
not_true false e = refl

first_false : (a b : Bool) → a || b ≡ false → a ≡ false
first_false true b e = e
first_false false b e = refl

second_false : (a b : Bool) → a || b ≡ false → b ≡ false
second_false true b e = absurd (true≢false e)
second_false false b e = e

or_none : {A : Type 0} (a : Option A) → option_or a None ≡ a
or_none (Some x) = refl
or_none None = refl

-- what a stripe and a map have, where the map has nothing at the keys of the stripe's digit: `mine` says whether the key is one
at_digit : {A : Type 0} (mine : Bool) (here before behind : Option A) → (is_some here ≡ true → mine ≡ true) → (is_some before ≡ true → mine ≡ false) → (mine ≡ true → behind ≡ None) → option_or (option_or here before) behind ≡ option_or before (cond mine here behind)
at_digit true here (Some x) behind own other none = absurd (true≢false (other refl))
at_digit true (Some x) None behind own other none = refl
at_digit true None None behind own other none = none refl
at_digit false (Some x) before behind own other none = absurd (true≢false (sym (own refl)))
at_digit false None before behind own other none = refl

-- of two maps of which one alone has the key, either may come first
either_first : {A : Type 0} (here before behind : Option A) → (is_some here ≡ true → is_some before ≡ true → ⊥) → option_or (option_or here before) behind ≡ option_or before (option_or here behind)
either_first None before behind apart = refl
either_first (Some x) None behind apart = refl
either_first (Some x) (Some y) behind apart = absurd (apart refl refl)

some_value : {V : Type 0} (P : Type 0) (o : Option V) → ((v : V) → o ≡ Some v → P) → is_some o ≡ true → P
some_value P (Some v) h there = h v refl
some_value P None h there = absurd (true≢false (sym there))

-- the unions of maps are maps
pub unions_map : {K V : Type 0} (R : K → K → Ordering) → ((m n : Map K V) → IsMap R n → IsMap R (union R m n)) → (ms : List (Map K V)) → IsMap R (unions R ms)
unions_map R law [] = refl
unions_map R law (m ∷ ms) = law m (unions R ms) (unions_map R law ms)

-- a map of the stripes before the rest of all: with the rest's it makes what all have
pub record Joins {K V : Type 0} (R : K → K → Ordering) (path : K → ℕ) (H : K → V → Type 0) (whole : Map K V) (rest all : List (Content K V)) : Type 0 where
  pub differ : all_differ (digits_of rest) ≡ true
  pub apart : (k : K) → is_some (value_at R whole k) ≡ true → list_any (eqb (first_digit path k)) (digits_of rest) ≡ false
  pub at_key : (k : K) → option_or (value_at R whole k) (value_at R (map_of_digit (first_digit path k) rest) k) ≡ value_at R (map_of_digit (first_digit path k) all) k
  pub in_unions : (k : K) → option_or (value_at R whole k) (value_at R (unions R (maps_of rest)) k) ≡ value_at R (unions R (maps_of all)) k
  pub kept : AllKeep R H whole

module _ {K V : Type 0} (R : K → K → Ordering) (path : K → ℕ) (H : K → V → Type 0) where
  -- where no stripe has the digit there is no pair
  nowhere : (d : ℕ) (stripes : List (Content K V)) → list_any (eqb d) (digits_of stripes) ≡ false → map_of_digit d stripes ≡ []
  nowhere d [] none = refl
  nowhere d (s ∷ ss) none =
      let rest = nowhere d ss (second_false (eqb d s.digit) (list_any (eqb d) (digits_of ss)) none) in
      ap (λ (here : Bool). cond here s.entries (map_of_digit d ss)) (first_false (eqb d s.digit) (list_any (eqb d) (digits_of ss)) none) ∙ rest

  value_at-cond : (here : Bool) (m n : Map K V) (k : K) → value_at R (cond here m n) k ≡ cond here (value_at R m k) (value_at R n k)
  value_at-cond true m n k = refl
  value_at-cond false m n k = refl

  -- the keys of a stripe's map have its digit
  pub each_has_digit : (d e : ℕ) (m n : Map K V) → e ≡ d → n ≡ m → AllKeep R (Belongs path H d) m → EachHasDigit R path e n
  each_has_digit d e m n same is belongs k there = some_value (first_digit path k ≡ e) (value_at R n k) (λ v found. (belongs k v (ap (λ (x : Map K V). value_at R x k) (sym is) ∙ found)).1 ∙ sym same) there

  -- before any stripe
  pub joins_none : (whole : Map K V) (all : List (Content K V)) → whole ≡ [] → all_differ (digits_of all) ≡ true → Joins R path H whole all all
  joins_none whole all none differ = record {
    differ = differ;
    apart = λ k there. absurd (true≢false (sym there ∙ ap (λ (m : Map K V). is_some (value_at R m k)) none));
    at_key = λ k. ap (λ (m : Map K V). option_or (value_at R m k) (value_at R (map_of_digit (first_digit path k) all) k)) none;
    in_unions = λ k. ap (λ (m : Map K V). option_or (value_at R m k) (value_at R (unions R (maps_of all)) k)) none;
    kept = λ k v found. absurd (true≢false (sym (ap is_some found) ∙ ap (λ (m : Map K V). is_some (value_at R m k)) none));
  }

  module _ (whole : Map K V) (s : Content K V) (rest all : List (Content K V)) (h : Joins R path H whole (s ∷ rest) all) (belongs : AllKeep R (Belongs path H s.digit) s.entries) where
    -- the stripe's keys have its digit, and no key of the map has
    stripe_digit : (k : K) → is_some (value_at R s.entries k) ≡ true → first_digit path k ≡ s.digit
    stripe_digit k = some_value (first_digit path k ≡ s.digit) (value_at R s.entries k) (λ v found. (belongs k v found).1)

    other_digit : (k : K) → is_some (value_at R whole k) ≡ true → eqb (first_digit path k) s.digit ≡ false
    other_digit k there = first_false (eqb (first_digit path k) s.digit) (list_any (eqb (first_digit path k)) (digits_of rest)) (h.apart k there)

    pub no_digit : (k : K) → is_some (value_at R whole k) ≡ true → first_digit path k ≡ s.digit → ⊥
    no_digit k there same = true≢false (sym (eq-eqb (first_digit path k) s.digit same) ∙ other_digit k there)

    absent : (k : K) → first_digit path k ≡ s.digit → list_any (eqb (first_digit path k)) (digits_of rest) ≡ false
    absent k same =
        let parts = and_parts (not (list_any (eqb s.digit) (digits_of rest))) (all_differ (digits_of rest)) h.differ in
        subst (λ (d : ℕ). list_any (eqb d) (digits_of rest) ≡ false) (sym same) (not_true (list_any (eqb s.digit) (digits_of rest)) parts.0)

    -- the stripe is taken
    pub joins_more : ((m n : Map K V) (q : K) → value_at R (union R m n) q ≡ option_or (value_at R m q) (value_at R n q)) → (new : Map K V) → new ≡ union R s.entries whole → Joins R path H new rest all
    joins_more law new is =
        let now : (k : K) → value_at R new k ≡ option_or (value_at R s.entries k) (value_at R whole k) = λ k. ap (λ (m : Map K V). value_at R m k) is ∙ law s.entries whole k in
        record {
          differ = (and_parts (not (list_any (eqb s.digit) (digits_of rest))) (all_differ (digits_of rest)) h.differ).1;
          apart = λ k there. still_apart k (value_at R s.entries k) refl (sym (ap is_some (now k)) ∙ there);
          at_key = λ k.
              let d = first_digit path k in
              let behind = value_at R (map_of_digit d rest) k in
              ap (λ (o : Option V). option_or o behind) (now k)
              ∙ at_digit (eqb d s.digit) (value_at R s.entries k) (value_at R whole k) behind (λ there. eq-eqb d s.digit (stripe_digit k there)) (other_digit k) (λ mine. ap (λ (m : Map K V). value_at R m k) (nowhere d rest (absent k (eqb-true d s.digit mine))))
              ∙ ap (option_or (value_at R whole k)) (sym (value_at-cond (eqb d s.digit) s.entries (map_of_digit d rest) k))
              ∙ h.at_key k;
          in_unions = λ k.
              ap (λ (o : Option V). option_or o (value_at R (unions R (maps_of rest)) k)) (now k)
              ∙ either_first (value_at R s.entries k) (value_at R whole k) (value_at R (unions R (maps_of rest)) k) (λ there before. no_digit k before (stripe_digit k there))
              ∙ ap (option_or (value_at R whole k)) (sym (law s.entries (unions R (maps_of rest)) k))
              ∙ h.in_unions k;
          kept = kept_union R H law s.entries whole new is (λ k v found. (belongs k v found).0) h.kept;
        }
      where
        still_apart : (k : K) (o : Option V) → value_at R s.entries k ≡ o → is_some (option_or o (value_at R whole k)) ≡ true → list_any (eqb (first_digit path k)) (digits_of rest) ≡ false
        still_apart k (Some v) found there = absent k (belongs k v found).1
        still_apart k None found there = second_false (eqb (first_digit path k) s.digit) (list_any (eqb (first_digit path k)) (digits_of rest)) (h.apart k there)

  -- all are taken
  pub joined_at : (whole : Map K V) (all : List (Content K V)) → Joins R path H whole [] all → (k : K) → value_at R whole k ≡ value_at R (map_of_digit (first_digit path k) all) k
  joined_at whole all h k = sym (or_none (value_at R whole k)) ∙ h.at_key k

  pub joined_unions : (whole : Map K V) (all : List (Content K V)) → Joins R path H whole [] all → (k : K) → value_at R whole k ≡ value_at R (unions R (maps_of all)) k
  joined_unions whole all h k = sym (or_none (value_at R whole k)) ∙ h.in_unions k
