-- What is found in two maps together, and in a map with one pair more.
use Rattle.std.proofs.Common.{◌≡◌, ℕ, zero, suc, ◌<◌, ◌==◌, Bool, true, false, ◌||◌, ◌&&◌, cond, List, [], ◌∷◌, length, filter, Option, Some, None, is_some, refl, sym, ap, subst, ◌∙◌, arith, inl, inr, true≢false}
use Rattle.std.proofs.Math.Bool.{or-true}
use Rattle.std.proofs.lemmas.Bool.{eq-eqb}
use Rattle.std.proofs.lemmas.Bool.Decides.{eqb_tells}
use Rattle.std.specs.Prelude.{Contains, IfSome}
use Rattle.std.specs.Cmp.{IsTotalOrder}
use Rattle.std.specs.declared.cmp.Ordering.{Ordering}
use Rattle.std.specs.List.{list_all, list_any}
use Rattle.std.specs.Option.{option_or}
use Rattle.versions.specs.Map.{Map, union, with_pair}
use Rattle.combiner.specs.Bulks.{IsAdded, IsJoined}
use Rattle.combiner.specs.Unions.{AreApart}
use Rattle.bulk_work.specs.Answers.{passes, passing}
use Rattle.bulk_ops.specs.Meanings.{Means}
use Rattle.bulk_work.proofs.Made.{in_left, in_right}
use Rattle.bulk_ops.proofs.Totals.{any_union}
use Rattle.bulk_work.proofs.Unions.{truth_of}
use Rattle.map_view.specs.Questions.{IsFound, IsFoundBy}

-- where one passes, some pass
member_any : {A : Type 0} (p : A → Bool) (xs : List A) (y : A) → Contains xs y → p y ≡ true → list_any p xs ≡ true
member_any p [] y (k, lt, e) is = absurd (omega arith)
member_any p (x ∷ xs) y (zero, lt, e) is = ap (λ b. b || list_any p xs) (ap p e ∙ is)
member_any p (x ∷ xs) y (suc k, lt, e) is = ap (λ b. p x || b) (member_any p xs y (k, omega arith, e) is) ∙ or-true (p x)

module _ {K V : Type 0} where
  module _ (R : K → K → Ordering) (o : IsTotalOrder R) where
    -- what is found in one of two maps is found in both together
    pub one_of_both : (p : K → V → Bool) (a b : Option (K × V)) (m n : Map K V) → AreApart R m n → IsFound p m a → IsFound p n b → IsFound p (union R m n) (option_or a b)
    one_of_both p None None m n apart x y = any_union R o p m n (truth_of _ apart.left) apart.apart ∙ (λ i. x i || y i)
    one_of_both p None (Some b) m n apart x y = (in_right R o m n b (truth_of _ apart.left) apart.apart y.0, y.1)
    one_of_both p (Some a) b m n apart x y = (in_left R o m n a (truth_of _ apart.left) apart.apart x.0, x.1)

    -- and is a pair of both together
    pub there_of_both : (a b : Option (K × V)) (m n : Map K V) → AreApart R m n → IfSome a (Contains m) → IfSome b (Contains n) → IfSome (option_or a b) (Contains (union R m n))
    there_of_both None None m n apart x y = tt
    there_of_both None (Some b) m n apart x y = in_right R o m n b (truth_of _ apart.left) apart.apart y
    there_of_both (Some a) b m n apart x y = in_left R o m n a (truth_of _ apart.left) apart.apart x

    module _ (gives : K → V → Bool → Type 0) where
      -- what is joined
      pub both_found : (a b c : Option (K × V)) → c ≡ option_or a b → IsJoined R (IsFoundBy gives) a b c
      both_found a b c is m n x y apart = subst (IsFoundBy gives (union R m n)) (sym is) (record {
        there = there_of_both a b m n apart x.there y.there;
        exact = λ p means. one_of_both p a b m n apart (x.exact p means) (y.exact p means);
      })

  -- a pair that passes is found, and of one that does not none is
  pub one_of_one : (p : K → V → Bool) (k : K) (v : V) (b : Bool) → b ≡ p k v → IsFound p ((k, v) ∷ []) (cond b (Some (k, v)) None)
  one_of_one p k v true says = ((0, omega arith, refl), sym says)
  one_of_one p k v false says = ap (λ b. b || false) (sym says)

  there_of_one : (k : K) (v : V) (b : Bool) → IfSome {T = K × V} (cond b (Some (k, v)) None) (Contains ((k, v) ∷ []))
  there_of_one k v true = (0, omega arith, refl)
  there_of_one k v false = tt

  module _ (gives : K → V → Bool → Type 0) where
    -- of no pairs none is found
    pub none_found : IsFoundBy gives [] None
    none_found = record { there = tt; exact = λ p means. refl }

    -- of one pair, what the closure answers there
    pub one_found : (k : K) (v : V) (b : Bool) (found : Option (K × V)) → gives k v b → found ≡ cond b (Some (k, v)) None → IsFoundBy gives ((k, v) ∷ []) found
    one_found k v b found says is = subst (IsFoundBy gives ((k, v) ∷ [])) (sym is) (record {
      there = there_of_one k v b;
      exact = λ p means. one_of_one p k v b (means k v b says);
    })

    module _ (R : K → K → Ordering) (o : IsTotalOrder R) where
      -- what was found stays found with a pair more
      kept_found : (k : K) (v : V) (x : K × V) → IsAdded R (IsFoundBy gives) (Some x) k v (Some x)
      kept_found k v x m y apart =
          let among : Contains m x → Contains (with_pair R m k v) x = in_right R o ((k, v) ∷ []) m x (truth_of _ apart.left) apart.apart in
          record { there = among y.there; exact = λ p means. (among (y.exact p means).0, (y.exact p means).1) }

      -- where none was found, the pair is, or none is still
      next_found : (k : K) (v : V) (b : Bool) → gives k v b → IsAdded R (IsFoundBy gives) None k v (cond b (Some (k, v)) None)
      next_found k v true says m y apart = both_found R o gives (Some (k, v)) None (Some (k, v)) refl ((k, v) ∷ []) m (one_found k v true (Some (k, v)) says refl) y apart
      next_found k v false says m y apart = both_found R o gives None None None refl ((k, v) ∷ []) m (one_found k v false None says refl) y apart

      pub kept_if : (k : K) (v : V) (found : Option (K × V)) (x : K × V) → found ≡ Some x → IsAdded R (IsFoundBy gives) found k v found
      kept_if k v found x is = subst (λ o. IsAdded R (IsFoundBy gives) o k v o) (sym is) (kept_found k v x)

      pub next_if : (k : K) (v : V) (b : Bool) → gives k v b → (before after : Option (K × V)) → before ≡ None → after ≡ cond b (Some (k, v)) None → IsAdded R (IsFoundBy gives) before k v after
      next_if k v b says before after none is = subst (λ o. IsAdded R (IsFoundBy gives) o k v after) (sym none) (subst (λ o. IsAdded R (IsFoundBy gives) None k v o) (sym is) (next_found k v b says))

  -- a pair is found exactly where some pair passes
  pub is_there : (p : K → V → Bool) (m : Map K V) (found : Option (K × V)) → IsFound p m found → is_some found ≡ list_any (passes p) m
  is_there p m None none = sym none
  is_there p m (Some x) one = sym (member_any (passes p) m x one.0 one.1)

-- how many elements pass, where all do and where not all do
record Passing (all : Bool) (passed every : ℕ) : Type 0 where
  yes : all ≡ true → passed ≡ every
  no : all ≡ false → passed < every

one_more : {A : Type 0} (passes all : Bool) (x : A) (ys xs : List A) → Passing all (length ys) (length xs) → Passing (passes && all) (length (cond passes (x ∷ ys) ys)) (length (x ∷ xs))
one_more true all x ys xs h = record { yes = λ e. omega (arith, h.yes e); no = λ e. omega (arith, h.no e) }
one_more false true x ys xs h = record { yes = λ e. absurd (true≢false (sym e)); no = λ e. omega (arith, h.yes refl) }
one_more false false x ys xs h = record { yes = λ e. absurd (true≢false (sym e)); no = λ e. omega (arith, h.no refl) }

passing_of : {A : Type 0} (p : A → Bool) (xs : List A) → Passing (list_all p xs) (length (filter p xs)) (length xs)
passing_of p [] = record { yes = λ e. refl; no = λ e. absurd (true≢false e) }
passing_of p (x ∷ xs) = one_more (p x) (list_all p xs) x (filter p xs) xs (passing_of p xs)

equal_if : (all : Bool) (n m : ℕ) → Passing all n m → (n == m) ≡ all
equal_if true n m h = eq-eqb n m (h.yes refl)
equal_if false n m h = elim (eqb_tells n m) as (λ _. (n == m) ≡ false) [
  | inl e ↦ absurd (omega (arith, h.no refl, e.1))
  | inr e ↦ e.0
]

-- as many pairs pass as there are exactly where all do
pub are_all : {K V : Type 0} (p : K → V → Bool) (m : Map K V) → (length (passing p m) == length m) ≡ list_all (passes p) m
are_all p m = equal_if (list_all (passes p) m) (length (passing p m)) (length m) (passing_of (passes p) m)
