-- Lists whose items stand to one another.
use Rattle.std.proofs.Common.{ℕ, ◌+◌, ◌<◌, List, [], ◌∷◌, length, get_or, set, refl, suc, zero, arith, inr}
use Rattle.std.proofs.lemmas.List.Elements.{All-nil, All-cons, All-head, All-tail}
use Rattle.std.specs.Prelude.{All}
use Rattle.std.specs.List.{AllZip}
use Rattle.many_writes.specs.Parts.{IsParted}

pub zip_self : {A : Type 0} (R : A → A → Type 0) → ((x : A) → R x x) → (xs : List A) → AllZip R xs xs
zip_self R same [] = tt
zip_self R same (x ∷ xs) = (same x, zip_self R same xs)

pub zip_on : {A B C : Type 0} (R : A → B → Type 0) (S : B → C → Type 0) (T : A → C → Type 0) → ((x : A) (y : B) (z : C) → R x y → S y z → T x z) → (xs : List A) (ys : List B) (zs : List C) → AllZip R xs ys → AllZip S ys zs → AllZip T xs zs
zip_on R S T on [] [] [] p q = tt
zip_on R S T on [] [] (z ∷ zs) p q = q
zip_on R S T on [] (y ∷ ys) zs p q = absurd p
zip_on R S T on (x ∷ xs) [] zs p q = absurd p
zip_on R S T on (x ∷ xs) (y ∷ ys) [] p q = q
zip_on R S T on (x ∷ xs) (y ∷ ys) (z ∷ zs) p q = (on x y z p.0 q.0, zip_on R S T on xs ys zs p.1 q.1)

pub zip_set : {A B : Type 0} (R : A → B → Type 0) (xs : List A) (ys : List B) (i : ℕ) (z : B) → ((x : A) → R x (get_or ys i z) → R x z) → AllZip R xs ys → AllZip R xs (set ys i z)
zip_set R [] [] i z on p = tt
zip_set R [] (y ∷ ys) i z on p = absurd p
zip_set R (x ∷ xs) [] i z on p = p
zip_set R (x ∷ xs) (y ∷ ys) zero z on p = (on x p.0, p.1)
zip_set R (x ∷ xs) (y ∷ ys) (suc i) z on p = (p.0, zip_set R xs ys i z on p.1)

-- what holds of an item holds of the one at its place
pub zip_at : {A B : Type 0} (R : A → B → Type 0) (P : A → Type 0) (Q : B → Type 0) → ((x : A) (y : B) → R x y → P x → Q y) → (xs : List A) (ys : List B) (i : ℕ) (a : A) (b : B) → i < length ys → AllZip R xs ys → P (get_or xs i a) → Q (get_or ys i b)
zip_at R P Q on [] [] i a b h p q = absurd (omega (arith, h))
zip_at R P Q on [] (y ∷ ys) i a b h p q = absurd p
zip_at R P Q on (x ∷ xs) [] i a b h p q = absurd p
zip_at R P Q on (x ∷ xs) (y ∷ ys) zero a b h p q = on x y p.0 q
zip_at R P Q on (x ∷ xs) (y ∷ ys) (suc i) a b h p q = zip_at R P Q on xs ys i a b (omega (arith, h)) p.1 q

pub zip_all : {A B : Type 0} (R : A → B → Type 0) (P : A → Type 0) (Q : B → Type 0) → ((x : A) (y : B) → R x y → P x → Q y) → (xs : List A) (ys : List B) → AllZip R xs ys → All P xs → All Q ys
zip_all R P Q on [] [] p q = All-nil Q
zip_all R P Q on [] (y ∷ ys) p q = absurd p
zip_all R P Q on (x ∷ xs) [] p q = absurd p
zip_all R P Q on (x ∷ xs) (y ∷ ys) p q = All-cons Q y ys (on x y p.0 (All-head P x xs q)) (zip_all R P Q on xs ys p.1 (All-tail P x xs q))

-- where nothing is done, all is left
pub none_parted : {A B : Type 0} (R : A → B → Type 0) (n : ℕ) (xs : List A) → IsParted R n xs [] xs
none_parted R n [] = (refl, refl)
none_parted R n (x ∷ xs) = inr (xs, refl, none_parted R (n + 1) xs)
