-- The pairs of a map in the order of a walk: each of them once.
use Rattle.std.proofs.Common.{◌≡◌, Bool, true, false, cond, is_some, List, [], ◌∷◌, ◌++◌, Option, Some, None, refl, sym, ap, subst, ◌∙◌}
use Rattle.std.specs.declared.cmp.Ordering.{Ordering}
use Rattle.std.specs.declared.cmp.Ordering.TheVariants.{Less, Equal, Greater}
use Rattle.std.specs.Ordering.{eq_by_cmp, is_eq}
use Rattle.std.specs.Cmp.{IsTotalOrder, Equal-is, tied_itself}
use Rattle.std.specs.FinMap.Entries.{by_order, find-put, find_tied}
use Rattle.std.specs.List.Sorted.{IsPermutation}
use Rattle.std.proofs.lemmas.List.{append-nil}
use Rattle.std.proofs.lemmas.List.Sorted.{IsPermutation-refl, IsPermutation-cons, IsPermutation-sym, IsPermutation-trans, IsPermutation-append_right, IsPermutation-middle}
use Rattle.trie_shape.specs.Listings.{IsListing, gathered}
use Rattle.versions.specs.Map.{Map, value_at, with_pair}

module _ {K V : Type 0} (R : K → K → Ordering) (total : IsTotalOrder R) where
  put_step : (order : Ordering) (k : K) (v : V) (x : K × V) (m : Map K V)
      → cond (is_eq order) (Some x.1) (value_at R m k) ≡ None
      → (value_at R m k ≡ None → IsPermutation ((k, v) ∷ m) (with_pair R m k v))
      → IsPermutation ((k, v) ∷ x ∷ m) (by_order order ((k, v) ∷ x ∷ m) ((x.0, v) ∷ m) (x ∷ with_pair R m k v))
  put_step Less k v x m new rest = IsPermutation-refl ((k, v) ∷ x ∷ m)
  put_step Equal k v x m new rest = absurd (cc)
  put_step Greater k v x m new rest =
      IsPermutation-trans ((k, v) ∷ x ∷ m) (x ∷ (k, v) ∷ m) (x ∷ with_pair R m k v)
      (IsPermutation-middle ((k, v) ∷ []) x m)
      (IsPermutation-cons x ((k, v) ∷ m) (with_pair R m k v) (rest new))

  -- a new pair is put among the others
  put_permutes : (k : K) (v : V) (m : Map K V) → value_at R m k ≡ None → IsPermutation ((k, v) ∷ m) (with_pair R m k v)
  put_permutes k v [] new = IsPermutation-refl ((k, v) ∷ [])
  put_permutes k v (x ∷ m) new = put_step (R k x.0) k v x m new (put_permutes k v m)

  -- none of the pairs has a key of the map
  abbrev AreNew : List (K × V) → Map K V → Type 0
  AreNew xs m = (k : K) → is_some (value_at R xs k) ≡ true → value_at R m k ≡ None

  later : (b : Bool) (v : V) (a : Option V) → is_some a ≡ true → is_some (cond b (Some v) a) ≡ true
  later true v a e = refl
  later false v a e = e

  first_new : (x : K × V) (xs : List (K × V)) (m : Map K V) → AreNew (x ∷ xs) m → value_at R m x.0 ≡ None
  first_new x xs m new = new x.0 (ap (λ (b : Ordering). is_some (cond (is_eq b) (Some x.1) (value_at R xs x.0))) (tied_itself total x.0))

  rest_new : (x : K × V) (xs : List (K × V)) (m : Map K V) → value_at R xs x.0 ≡ None → AreNew (x ∷ xs) m → AreNew xs (with_pair R m x.0 x.1)
  rest_new x xs m once new k e =
      find-put R total k x.0 x.1 m ∙ elim (eq_by_cmp R k x.0) as (λ (b : Bool). eq_by_cmp R k x.0 ≡ b → cond b (Some x.1) (value_at R m k) ≡ None) [
        | true ↦ λ is. let gone : value_at R xs k ≡ None = sym (find_tied R total k x.0 ((Equal-is (R k x.0)).0 is) xs) ∙ once in absurd (cc)
        | false ↦ λ is. new k (later (eq_by_cmp R k x.0) x.1 (value_at R xs k) e)
      ] refl

  gathered_permutes : (xs : List (K × V)) (m : Map K V) → IsListing R xs → AreNew xs m → IsPermutation (xs ++ m) (gathered R m xs)
  gathered_permutes [] m once new = IsPermutation-refl m
  gathered_permutes (x ∷ xs) m once new =
      IsPermutation-trans (x ∷ (xs ++ m)) (xs ++ x ∷ m) (gathered R (with_pair R m x.0 x.1) xs)
      (IsPermutation-sym (xs ++ x ∷ m) (x ∷ (xs ++ m)) (IsPermutation-middle xs x m))
      (IsPermutation-trans (xs ++ x ∷ m) (xs ++ with_pair R m x.0 x.1) (gathered R (with_pair R m x.0 x.1) xs)
      (IsPermutation-append_right xs (x ∷ m) (with_pair R m x.0 x.1) (put_permutes x.0 x.1 m (first_new x xs m new)))
      (gathered_permutes xs (with_pair R m x.0 x.1) once.1 (rest_new x xs m once.0 new)))

  pub listing_permutes : (xs : List (K × V)) → IsListing R xs → IsPermutation xs (gathered R [] xs)
  listing_permutes xs once =
      subst (λ (ys : List (K × V)). IsPermutation ys (gathered R [] xs)) (append-nil xs) (gathered_permutes xs [] once (λ k e. refl))
