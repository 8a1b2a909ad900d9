-- Seats of clients, before and after they ran.
use Rattle.std.proofs.Common.{◌≡◌, ℕ, zero, suc, ◌<◌, length, arith, List, [], ◌∷◌, ◌++◌, ap, subst, sym, ◌∙◌, map, slice_index_or}
use Rattle.std.proofs.lemmas.List.{map-append}
use Rattle.locked_map.specs.Seats.{Seated, AllFresh, fresh}

-- what holds of each element of a list at its place, with one element more
pub listed_more : {X : Type 0} (P : ℕ → X → Type 0) (xs : List X) (y : X) → P (length xs) y → ((k : ℕ) (d : X) → k < length xs → P k (slice_index_or xs k d)) → (k : ℕ) (d : X) → k < length (xs ++ y ∷ []) → P k (slice_index_or (xs ++ y ∷ []) k d)
listed_more P [] y is h zero d l = is
listed_more P [] y is h (suc k) d l = absurd (omega arith)
listed_more P (x ∷ xs) y is h zero d l = h 0 d (omega arith)
listed_more P (x ∷ xs) y is h (suc k) d l = listed_more (λ n. P (suc n)) xs y is (λ k d l. h (suc k) d (omega arith)) k d (omega arith)

pub maps_more : {A B : Type 0} (f : A → B) (xs ys : List A) (y : A) → ys ≡ xs ++ y ∷ [] → map f ys ≡ map f xs ++ f y ∷ []
maps_more f xs ys y is = ap (map f) is ∙ map-append f xs (y ∷ [])

-- one seat more
pub fresh_more : {K V Q B : Type 0} (seats : List (Seated K V Q B)) (s : Seated K V Q B) → s ≡ fresh (length seats) → AllFresh seats → AllFresh (seats ++ s ∷ [])
fresh_more seats s is all = listed_more (λ k x. x ≡ fresh k) seats s is all

-- a seat that has filed nothing has the number that it has
pub fresh_by_number : {K V Q B : Type 0} (s : Seated K V Q B) (k : ℕ) → s ≡ fresh k → s ≡ fresh s.number
fresh_by_number {K} {V} {Q} {B} s k is = is ∙ ap fresh (sym (ap (λ (x : Seated K V Q B). x.number) is))

-- three things may be exchanged for equal ones
pub moved : {A B C : Type 0} (P : A → B → C → Type 0) (a a' : A) (b b' : B) (c c' : C) → a ≡ a' → b ≡ b' → c ≡ c' → P a b c → P a' b' c'
moved P a a' b b' c c' p q r h = subst (λ x. P x b' c') p (subst (λ y. P a y c') q (subst (λ z. P a b z) r h))

-- an element of a list that has some
pub some_of : {X : Type 0} (xs : List X) (k : ℕ) → k < length xs → X
some_of [] k h = absurd (omega arith)
some_of (x ∷ xs) k h = x
