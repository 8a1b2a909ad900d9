-- The digits of the stripes that are held, from the last one on.
use Rattle.std.proofs.Common.{◌≡◌, ℕ, zero, suc, ◌+◌, ◌<◌, ◌≤◌, List, [], ◌∷◌, ◌++◌, length, map, drop, take, get_or, refl, ap, sym, ◌∙◌, subst, arith, ⊎_elim, eq-or-lt_of_le}
use Rattle.std.proofs.lemmas.List.{drop_more, take_more}
use Rattle.stripe.specs.Contents.{Content}
use Rattle.stripes.specs.Stripes.{digits_of}
use Rattle.write_history.specs.Rules.{up_to}

pub length_snoc : {A : Type 0} (xs : List A) (x : A) → length (xs ++ x ∷ []) ≡ suc (length xs)
length_snoc [] x = refl
length_snoc (y ∷ xs) x = ap suc (length_snoc xs x)

length_up_to : (n : ℕ) → length (up_to n) ≡ n
length_up_to zero = refl
length_up_to (suc n) = length_snoc (up_to n) n ∙ ap suc (length_up_to n)

get_front : (xs : List ℕ) (x k : ℕ) → k < length xs → get_or (xs ++ x ∷ []) k 0 ≡ get_or xs k 0
get_front [] x k l = absurd (omega (arith, l))
get_front (y ∷ xs) x zero l = refl
get_front (y ∷ xs) x (suc k) l = get_front xs x k (omega (arith, l))

get_last : (xs : List ℕ) (x : ℕ) → get_or (xs ++ x ∷ []) (length xs) 0 ≡ x
get_last [] x = refl
get_last (y ∷ xs) x = get_last xs x

get_up_to : (m n : ℕ) → n < m → get_or (up_to m) n 0 ≡ n
get_up_to zero n l = absurd (omega (arith, l))
get_up_to (suc m) n l =
    ⊎_elim
    (λ here. subst (λ (k : ℕ). get_or (up_to m ++ m ∷ []) k 0 ≡ k) (sym here) (subst (λ (k : ℕ). get_or (up_to m ++ m ∷ []) k 0 ≡ m) (length_up_to m) (get_last (up_to m) m)))
    (λ less. get_front (up_to m) m n (omega (arith, less, length_up_to m)) ∙ get_up_to m n less)
    (eq-or-lt_of_le (let le : n ≤ m = omega (arith, l) in le))

-- the numbers from n on begin with n
pub from_next : (m n : ℕ) → n < m → drop n (up_to m) ≡ n ∷ drop (n + 1) (up_to m)
from_next m n less = drop_more (up_to m) n 0 (omega (arith, less, length_up_to m)) ∙ ap (λ (k : ℕ). k ∷ drop (n + 1) (up_to m)) (get_up_to m n less)

-- the last of the stripes that are held has the last digit
abbrev last_of : ℕ → List ℕ → ℕ
last_of d [] = d
last_of d (x ∷ xs) = last_of x xs

abbrev front_of : List ℕ → List ℕ
front_of [] = []
front_of (x ∷ []) = []
front_of (x ∷ (y ∷ xs)) = x ∷ front_of (y ∷ xs)

last_snoc : (d : ℕ) (xs : List ℕ) (x : ℕ) → last_of d (xs ++ x ∷ []) ≡ x
last_snoc d [] x = refl
last_snoc d (y ∷ xs) x = last_snoc y xs x

front_snoc : (xs : List ℕ) (x : ℕ) → front_of (xs ++ x ∷ []) ≡ xs
front_snoc [] x = refl
front_snoc (y ∷ []) x = refl
front_snoc (y ∷ (z ∷ xs)) x = ap (λ (ks : List ℕ). y ∷ ks) (front_snoc (z ∷ xs) x)

-- a list that ends with x and is the numbers below its length: x is the last of them, and the others are those below
pub split_last : (xs : List ℕ) (x n : ℕ) → xs ++ x ∷ [] ≡ up_to (suc n) → (x ≡ n) × (xs ≡ up_to n)
split_last xs x n is = (
  sym (last_snoc 0 xs x) ∙ (ap (last_of 0) is ∙ last_snoc 0 (up_to n) n),
  sym (front_snoc xs x) ∙ (ap front_of is ∙ front_snoc (up_to n) n),
)

up_more : (n : ℕ) → up_to (n + 1) ≡ up_to n ++ n ∷ []
up_more n = let next : n + 1 ≡ suc n = omega arith in ap up_to next

digits_snoc : {K V : Type 0} (ss : List (Content K V)) (s : Content K V) → digits_of (ss ++ s ∷ []) ≡ digits_of ss ++ s.digit ∷ []
digits_snoc [] s = refl
digits_snoc (x ∷ xs) s = ap (λ (ds : List ℕ). x.digit ∷ ds) (digits_snoc xs s)

-- the stripe of the next digit
pub digits_more : {K V : Type 0} (ss all : List (Content K V)) (s : Content K V) (n : ℕ) → all ≡ ss ++ s ∷ [] → digits_of ss ≡ up_to n → s.digit ≡ n → digits_of all ≡ up_to (n + 1)
digits_more ss all s n more is here = ap digits_of more ∙ (digits_snoc ss s ∙ (ap (λ (ds : List ℕ). ds ++ s.digit ∷ []) is ∙ (ap (λ (d : ℕ). up_to n ++ d ∷ []) here ∙ sym (up_more n))))

pub each_snoc : {A X : Type 0} (h : A → X) (xs : List A) (x : A) → map h (xs ++ x ∷ []) ≡ map h xs ++ h x ∷ []
each_snoc h [] x = refl
each_snoc h (y ∷ xs) x = ap (λ ys. h y ∷ ys) (each_snoc h xs x)

-- stripes of the digits below m are m
count_of : {K V : Type 0} (ss : List (Content K V)) → length (digits_of ss) ≡ length ss
count_of [] = refl
count_of (s ∷ ss) = ap suc (count_of ss)

pub stripe_count : {K V : Type 0} (ss : List (Content K V)) (m : ℕ) → digits_of ss ≡ up_to m → length ss ≡ m
stripe_count ss m is = sym (count_of ss) ∙ (ap length is ∙ length_up_to m)

-- stripes that are held, by their guards
module _ {G K V : Type 0} (f : G → Content K V) where
  map_snoc : (gs : List G) (s : G) → map f (gs ++ s ∷ []) ≡ map f gs ++ f s ∷ []
  map_snoc [] s = refl
  map_snoc (x ∷ xs) s = ap (λ (ys : List (Content K V)). f x ∷ ys) (map_snoc xs s)

  -- the copies have what the stripes have, once a copy of the next one is among them
  pub copied : {X : Type 0} (h : Content K V → X) (gs : List G) (copies all : List (Content K V)) (copy : Content K V) (i : ℕ) (d : G) → i < length gs → all ≡ copies ++ copy ∷ [] → map h copies ≡ map h (map f (take i gs)) → h copy ≡ h (f (get_or gs i d)) → map h all ≡ map h (map f (take (i + 1) gs))
  copied {X} h gs copies all copy i d less more before same =
      ap (map h) more ∙ (each_snoc h copies copy ∙ (ap (λ (xs : List X). xs ++ h copy ∷ []) before ∙ (ap (λ (x : X). map h (map f (take i gs)) ++ x ∷ []) same
      ∙ (sym (each_snoc h (map f (take i gs)) (f (get_or gs i d))) ∙ (ap (map h) (sym (map_snoc (take i gs) (get_or gs i d))) ∙ ap (λ (ys : List G). map h (map f ys)) (sym (take_more gs i d less)))))))

  count_digits : (gs : List G) → length (digits_of (map f gs)) ≡ length gs
  count_digits [] = refl
  count_digits (x ∷ xs) = ap suc (count_digits xs)

  -- there are as many as digits
  pub held_count : (all : List G) (m : ℕ) → digits_of (map f all) ≡ up_to m → length all ≡ m
  held_count all m is = sym (count_digits all) ∙ (ap length is ∙ length_up_to m)

  module _ (all rest : List G) (s : G) (popped : all ≡ rest ++ s ∷ []) where
    pub one_longer : length all ≡ length rest + 1
    one_longer = let more = ap length popped ∙ length_snoc rest s in omega (arith, more)

    parts : digits_of (map f all) ≡ up_to (length all) → digits_of (map f rest) ++ (f s).digit ∷ [] ≡ up_to (suc (length rest))
    parts digits = sym (digits_snoc (map f rest) (f s)) ∙ (ap digits_of (sym (map_snoc rest s)) ∙ (ap (λ (gs : List G). digits_of (map f gs)) (sym popped) ∙ (digits ∙ ap up_to (ap length popped ∙ length_snoc rest s))))

    -- the last of them has the last digit, and the others have those below it
    pub last_digit : digits_of (map f all) ≡ up_to (length all) → (f s).digit ≡ length rest
    last_digit digits = (split_last (digits_of (map f rest)) (f s).digit (length rest) (parts digits)).0

    pub rest_digits : digits_of (map f all) ≡ up_to (length all) → digits_of (map f rest) ≡ up_to (length rest)
    rest_digits digits = (split_last (digits_of (map f rest)) (f s).digit (length rest) (parts digits)).1
