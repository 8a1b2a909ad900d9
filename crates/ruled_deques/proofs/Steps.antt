-- Lists that grow or lose their first.
use Rattle.std.proofs.Common.{◌≡◌, ◌≢◌, ℕ, zero, suc, ◌+◌, ◌*◌, ◌<◌, ◌≤◌, Option, Some, None, MatchOption, List, [], ◌∷◌, ◌++◌, length, set, get_or, sym, refl, ap, ◌∙◌, subst, ⊎_elim, arith, length-append}
use Rattle.std.proofs.lemmas.List.{get_or_push, get_or_append_left, get_or-set_other}
use Rattle.std.proofs.lemmas.Grind.{get_or-set_at}
use Rattle.std.proofs.Math.ListN.{length-set}
use Rattle.std.proofs.lemmas.Bool.{cases_eq, cases_lt}
use Rattle.std.proofs.lemmas.List.Sums.{sum_by-cons, sum_by-set}
use Rattle.std.specs.List.{sum_by}

pub match_map : {T : Type 0} (o : Option T) (N M : Type 0) (P Q : T → Type 0) → (N → M) → ((t : T) → P t → Q t) → MatchOption o N P → MatchOption o M Q
match_map None N M P Q f g n = f n
match_map (Some t) N M P Q f g p = g t p

pub sum_short : {T : Type 0} (f : T → ℕ) (xs : List T) → length xs ≡ 0 → sum_by f xs ≡ 0
sum_short f [] e = refl
sum_short f (x ∷ xs) e = absurd (omega (arith, e))

pub places_push : {T : Type 0} (f : T → ℕ) (xs ys : List T) (x : T) → ys ≡ xs ++ x ∷ [] → f x ≡ length xs
    → ((i : ℕ) (d : T) → i < length xs → f (get_or xs i d) ≡ i)
    → (i : ℕ) (d : T) → i < length ys → f (get_or ys i d) ≡ i
places_push {T} f xs ys x e last h i d lt =
    let len : length ys ≡ length xs + 1 = ap length e ∙ length-append xs (x ∷ []) in
    rw e (⊎_elim (λ (low : i < length xs). rw (get_or_append_left xs (x ∷ []) d i low) (h i d low))
    (λ (high : length xs ≤ i). let at : length xs ≡ i = omega arith in rw (get_or_push xs x d i at) (last ∙ at))
    (cases_lt i (length xs)))

-- each at most m
sum_at_most : {T : Type 0} (f : T → ℕ) (m : ℕ) (xs : List T) → ((i : ℕ) (d : T) → i < length xs → f (get_or xs i d) ≤ m) → sum_by f xs ≤ m * length xs
sum_at_most f m [] h = omega arith
sum_at_most f m (x ∷ xs) h =
    let one : f x ≤ m = h 0 x (omega arith) in
    let rest : sum_by f xs ≤ m * length xs = sum_at_most f m xs (λ i d lt. h (suc i) d (omega arith)) in
    omega (arith, sum_by-cons f x xs)

-- each at most m, and all together as many as can be: each is m
pub settled_sum : {T : Type 0} (f a b : T → ℕ) (m : ℕ) (xs : List T) → ((i : ℕ) (d : T) → i < length xs → (f (get_or xs i d) ≤ m) × (f (get_or xs i d) ≡ m → a (get_or xs i d) ≡ b (get_or xs i d))) → sum_by f xs ≡ m * length xs → sum_by a xs ≡ sum_by b xs
settled_sum f a b m [] h all = refl
settled_sum f a b m (x ∷ xs) h all =
    let here = h 0 x (omega arith) in
    let rest : sum_by f xs ≤ m * length xs = sum_at_most f m xs (λ i d lt. (h (suc i) d (omega arith)).0) in
    let full : f x ≡ m = omega (arith, sum_by-cons f x xs, here.0) in
    let tail : sum_by f xs ≡ m * length xs = omega (arith, sum_by-cons f x xs) in
    let same : sum_by a xs ≡ sum_by b xs = settled_sum f a b m xs (λ i d lt. h (suc i) d (omega arith)) tail in
    omega (arith, sum_by-cons a x xs, sum_by-cons b x xs, here.1 full)

-- what holds of each by its place, as the first leaves
pub rest_at : {T : Type 0} (P : ℕ → T → Type 0) (xs ys : List T) (x : T) (n m : ℕ) → xs ≡ x ∷ ys → m ≡ n + 1
    → ((i : ℕ) (d : T) → i < length xs → P (n + i) (get_or xs i d))
    → P n x × ((i : ℕ) (d : T) → i < length ys → P (m + i) (get_or ys i d))
rest_at {T} P xs ys x n m e s h =
    let Q : List T → Type 0 = λ zs. (i : ℕ) (d : T) → i < length zs → P (n + i) (get_or zs i d) in
    let k : Q (x ∷ ys) = subst Q e h in
    let zero_too : n + 0 ≡ n = omega arith in
    let first : P n x = subst (λ j. P j x) zero_too (k 0 x (omega arith)) in (
      first,
      λ i d lt.
          let more : n + suc i ≡ m + i = omega arith in
          subst (λ j. P j (get_or ys i d)) more (k (suc i) d (omega arith)),
    )

-- as one joins at the end
pub push_at : {T : Type 0} (Q : ℕ → T → Type 0) (xs ys : List T) (x : T) → ys ≡ xs ++ x ∷ [] → Q (length xs) x
    → ((i : ℕ) (d : T) → i < length xs → Q i (get_or xs i d))
    → (i : ℕ) (d : T) → i < length ys → Q i (get_or ys i d)
push_at {T} Q xs ys x e last h i d lt =
    let len : length ys ≡ length xs + 1 = ap length e ∙ length-append xs (x ∷ []) in
    rw e (⊎_elim (λ (low : i < length xs). rw (get_or_append_left xs (x ∷ []) d i low) (h i d low))
    (λ (high : length xs ≤ i). let at : length xs ≡ i = omega arith in rw (get_or_push xs x d i at) (subst (λ j. Q j x) at last))
    (cases_lt i (length xs)))

-- a place is the one that was written, or another
written : {T : Type 0} (P : T → Type 0) (xs : List T) (k : ℕ) (y : T) (i : ℕ) (d : T) → k < length xs → (i ≡ k → P y) → (i ≢ k → P (get_or xs i d)) → P (get_or (set xs k y) i d)
written P xs k y i d lt here other = ⊎_elim (λ (e : i ≡ k). subst P (sym (get_or-set_at xs k i y d e lt)) (here e)) (λ (n : i ≢ k). subst P (sym (get_or-set_other xs k i y d n)) (other n)) (cases_eq i k)

-- a sum, with more at one place
pub set_sum : {T : Type 0} (f : T → ℕ) (xs : List T) (k : ℕ) (y x : T) (n : ℕ) → k < length xs → x ≡ get_or xs k x → f y ≡ f x + n → sum_by f (set xs k y) ≡ sum_by f xs + n
set_sum f xs k y x n lt e h = omega (arith, sum_by-set f xs k y x lt, ap f e, h)

-- each stands at its place, one of them changed
pub set_places : {T : Type 0} (f : T → ℕ) (xs : List T) (k : ℕ) (y x : T) → k < length xs → x ≡ get_or xs k x → f y ≡ f x
    → ((i : ℕ) (d : T) → i < length xs → f (get_or xs i d) ≡ i)
    → (i : ℕ) (d : T) → i < length (set xs k y) → f (get_or (set xs k y) i d) ≡ i
set_places {T} f xs k y x lt e same h i d inside =
    let within : i < length xs = omega (arith, length-set xs k y) in
    written (λ z. f z ≡ i) xs k y i d lt (λ at. same ∙ ap f e ∙ h k x lt ∙ sym at) (λ other. h i d within)

-- what holds below a place and of what was written there
pub below_set : {T : Type 0} (P : T → Type 0) (xs : List T) (k : ℕ) (y : T) → k < length xs → P y
    → ((i : ℕ) (d : T) → i < k → P (get_or xs i d))
    → (i : ℕ) (d : T) → i < k + 1 → P (get_or (set xs k y) i d)
below_set P xs k y lt here h i d low = written P xs k y i d lt (λ _. here) (λ other. h i d (omega arith))

-- what holds from a place on, above it
pub above_set : {T : Type 0} (P : T → Type 0) (xs : List T) (k : ℕ) (y : T) → k < length xs
    → ((i : ℕ) (d : T) → k ≤ i → i < length xs → P (get_or xs i d))
    → (i : ℕ) (d : T) → k + 1 ≤ i → i < length (set xs k y) → P (get_or (set xs k y) i d)
above_set P xs k y lt h i d high inside =
    let within : i < length xs = omega (arith, length-set xs k y) in
    written P xs k y i d lt (λ at. absurd (omega arith)) (λ other. h i d (omega arith) within)

-- the same numbers as before
pub same_set : {T : Type 0} (f : T → ℕ) (xs zs : List T) (k : ℕ) (y x : T) → k < length xs → length xs ≡ length zs → x ≡ get_or xs k x → f y ≡ f x
    → ((i : ℕ) (d : T) → i < length zs → f (get_or xs i d) ≡ f (get_or zs i d))
    → (i : ℕ) (d : T) → i < length zs → f (get_or (set xs k y) i d) ≡ f (get_or zs i d)
same_set f xs zs k y x lt len e same h i d inside =
    written (λ z. f z ≡ f (get_or zs i d)) xs k y i d lt
    (λ at. same ∙ ap f e ∙ h k x (omega (arith, len)) ∙ (let there : k < length zs = omega (arith, len) in ap f (any_default zs k x d there) ∙ ap (λ n. f (get_or zs n d)) (sym at)))
    (λ other. h i d inside)
  where
    any_default : {T : Type 0} (xs : List T) (k : ℕ) (x d : T) → k < length xs → get_or xs k x ≡ get_or xs k d
    any_default [] k x d lt = absurd (omega arith)
    any_default (y ∷ ys) zero x d lt = refl
    any_default (y ∷ ys) (suc k) x d lt = any_default ys k x d (omega arith)
