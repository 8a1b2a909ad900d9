-- What a union of two maps without a common key does to counts, tests, folds and maps.
use Rattle.std.proofs.Common.{◌≡◌, Bool, true, false, ◌&&◌, cond, is_some, T, [], ◌∷◌, ◌++◌, length, ◌≤◌, Option, Some, None, refl, sym, ap, subst, ◌∙◌, arith}
use Rattle.std.specs.declared.cmp.Ordering.{Ordering}
use Rattle.std.specs.declared.cmp.Ordering.TheVariants.{Less, Equal, Greater}
use Rattle.std.specs.Ordering.{eq_by_cmp, is_eq, is_lt}
use Rattle.std.specs.Cmp.{IsTotalOrder, tied_itself}
use Rattle.std.specs.FinMap.{is_sorted}
use Rattle.std.specs.FinMap.Entries.{by_order, below_all, find-put, is_sorted-put}
use Rattle.versions.specs.Map.{Map, ShareNoKey, value_at, with_pair, union}
use Rattle.std.specs.Option.{option_or}
use Rattle.bulk_work.specs.Answers.{passes, passing}

pub true_of : (b : Bool) → T b → b ≡ true
true_of true h = refl
true_of false h = absurd h

pub truth_of : (b : Bool) → b ≡ true → T b
truth_of b e = subst T (sym e) tt

pub left_of : (a b : Bool) → T (a && b) → T a
left_of true b h = tt
left_of false b h = h

pub right_of : (a b : Bool) → T (a && b) → T b
right_of true b h = h
right_of false b h = absurd h

pub and_of : (a b : Bool) → T a → T b → T (a && b)
and_of true b h k = k
and_of false b h k = absurd h

pub less_of : (o : Ordering) → T (is_lt o) → o ≡ Less
less_of Less h = refl
less_of Equal h = absurd h
less_of Greater h = absurd h

-- as many pairs pass as there are, or fewer
pub passing_le : {K V : Type 0} (p : K → V → Bool) (m : Map K V) → length (passing p m) ≤ length m
passing_le p [] = omega arith
passing_le p (x ∷ m) = elim (passes p x) as (λ b. length (cond b (x ∷ passing p m) (passing p m)) ≤ length (x ∷ m)) [ true ↦ omega (arith, passing_le p m) | false ↦ omega (arith, passing_le p m) ]

cond_first : {V : Type 0} (t : Bool) (v : V) (a b : Option V) → cond t (Some v) (option_or a b) ≡ option_or (cond t (Some v) a) b
cond_first true v a b = refl
cond_first false v a b = refl

module _ {K V : Type 0} (R : K → K → Ordering) where
  -- where a new pair is put
  pub record Split (x : K × V) (old new : Map K V) : Type 0 where
    pub before : Map K V
    pub behind : Map K V
    pub was : old ≡ before ++ behind
    pub is : new ≡ before ++ x ∷ behind

  split_step : (o : Ordering) (k : K) (v : V) (x : K × V) (r : Map K V)
      → cond (is_eq o) (Some x.1) (value_at R r k) ≡ None
      → (value_at R r k ≡ None → Split (k, v) r (with_pair R r k v))
      → Split (k, v) (x ∷ r) (by_order o ((k, v) ∷ x ∷ r) ((x.0, v) ∷ r) (x ∷ with_pair R r k v))
  split_step Less k v x r e h = record { before = []; behind = x ∷ r; was = refl; is = refl }
  split_step Equal k v x r e h = absurd (cc)
  split_step Greater k v x r e h =
      let s = h e in record {
        before = x ∷ s.before;
        behind = s.behind;
        was = ap (λ (m : Map K V). x ∷ m) s.was;
        is = ap (λ (m : Map K V). x ∷ m) s.is;
      }

  -- a new pair stands between those before it and those behind it
  pub put_splits : (k : K) (v : V) (r : Map K V) → value_at R r k ≡ None → Split (k, v) r (with_pair R r k v)
  put_splits k v [] e = record { before = []; behind = []; was = refl; is = refl }
  put_splits k v (x ∷ r) e = split_step (R k x.0) k v x r e (put_splits k v r)

  absent_step : (o : Ordering) (v : V) (rest : Option V) → T (is_lt o) → rest ≡ None → cond (is_eq o) (Some v) rest ≡ None
  absent_step Less v rest h e = e
  absent_step Equal v rest h e = absurd h
  absent_step Greater v rest h e = absurd h

  -- a key below all has no value
  pub absent_below : (k : K) (m : Map K V) → T (below_all R k m) → value_at R m k ≡ None
  absent_below k [] h = refl
  absent_below k (x ∷ m) h = absent_step (R k x.0) x.1 (value_at R m k) (left_of _ _ h) (absent_below k m (right_of _ _ h))

  put_front_step : (o : Ordering) (k : K) (v : V) (x : K × V) (m : Map K V) → T (is_lt o) → by_order o ((k, v) ∷ x ∷ m) ((x.0, v) ∷ m) (x ∷ with_pair R m k v) ≡ (k, v) ∷ x ∷ m
  put_front_step Less k v x m h = refl
  put_front_step Equal k v x m h = absurd h
  put_front_step Greater k v x m h = absurd h

  -- a key below all is put in front
  pub put_front : (k : K) (v : V) (m : Map K V) → T (below_all R k m) → with_pair R m k v ≡ (k, v) ∷ m
  put_front k v [] h = refl
  put_front k v (x ∷ m) h = put_front_step (R k x.0) k v x m (left_of _ _ h)

  pub below_passing : (p : K → V → Bool) (k : K) (m : Map K V) → T (below_all R k m) → T (below_all R k (passing p m))
  below_passing p k [] h = tt
  below_passing p k (x ∷ m) h =
      elim (p x.0 x.1) as (λ b. T (below_all R k (cond b (x ∷ passing p m) (passing p m)))) [
        | true ↦ and_of _ _ (left_of _ _ h) (below_passing p k m (right_of _ _ h))
        | false ↦ below_passing p k m (right_of _ _ h)
      ]

  pub sorted_passing : (p : K → V → Bool) (m : Map K V) → T (is_sorted R m) → T (is_sorted R (passing p m))
  sorted_passing p [] h = tt
  sorted_passing p (x ∷ m) h =
      elim (p x.0 x.1) as (λ b. T (is_sorted R (cond b (x ∷ passing p m) (passing p m)))) [
        | true ↦ and_of _ _ (below_passing p x.0 m (left_of _ _ h)) (sorted_passing p m (right_of _ _ h))
        | false ↦ sorted_passing p m (right_of _ _ h)
      ]

  module _ (o : IsTotalOrder R) where
    pub below_less : (k y : K) (m : Map K V) → R k y ≡ Less → T (below_all R y m) → T (below_all R k m)
    below_less k y [] e h = tt
    below_less k y (x ∷ m) e h =
        and_of _ _ (subst (λ r. T (is_lt r)) (sym (o.trans k y x.0 e (less_of _ (left_of _ _ h)))) tt) (below_less k y m e (right_of _ _ h))

    -- the value in a union
    pub at_union : (m n : Map K V) (q : K) → value_at R (union R m n) q ≡ option_or (value_at R m q) (value_at R n q)
    at_union [] n q = refl
    at_union (x ∷ m) n q =
        find-put R o q x.0 x.1 (union R m n)
        ∙ ap (λ r. cond (eq_by_cmp R q x.0) (Some x.1) r) (at_union m n q)
        ∙ cond_first (eq_by_cmp R q x.0) x.1 (value_at R m q) (value_at R n q)

    pub sorted_union : (m n : Map K V) → T (is_sorted R n) → T (is_sorted R (union R m n))
    sorted_union [] n h = h
    sorted_union (x ∷ m) n h = is_sorted-put R o x.0 x.1 (union R m n) (sorted_union m n h)

    pub there : (x : K × V) (m : Map K V) → is_some (value_at R (x ∷ m) x.0) ≡ true
    there x m = ap (λ r. is_some (cond (is_eq r) (Some x.1) (value_at R m x.0))) (tied_itself o x.0)

    none_both : (a b : Option V) → a ≡ None → b ≡ None → option_or a b ≡ None
    none_both a b e h = ap (λ x. option_or x b) e ∙ h

    -- the first of a map's pairs is not in the union of the rest with a map that has not its key
    pub fresh : (x : K × V) (m n : Map K V) → T (is_sorted R (x ∷ m)) → ShareNoKey R (x ∷ m) n → value_at R (union R m n) x.0 ≡ None
    fresh x m n h apart =
        at_union m n x.0 ∙ none_both _ _ (absent_below x.0 m (left_of _ _ h)) (apart x.0 (there x m))

    some_later : (t : Bool) (v : V) (a : Option V) → is_some a ≡ true → is_some (cond t (Some v) a) ≡ true
    some_later true v a e = refl
    some_later false v a e = e

    pub apart_rest : (x : K × V) (m n : Map K V) → ShareNoKey R (x ∷ m) n → ShareNoKey R m n
    apart_rest x m n apart k e = apart k (some_later (eq_by_cmp R k x.0) x.1 (value_at R m k) e)

    split_value : {A : Type 0} (S : Map K V → A) (step : K × V → A → A) → ((a b : Map K V) (x : K × V) → S (a ++ x ∷ b) ≡ step x (S (a ++ b)))
        → (x : K × V) (old new : Map K V) → Split x old new → S new ≡ step x (S old)
    split_value S step by x old new s = ap S s.is ∙ by s.before s.behind x ∙ ap (λ m. step x (S m)) (sym s.was)

    -- what grows by a step with each pair, wherever it stands, is for a union what it is for the right map, grown by the pairs of the left one
    pub union_value : {A : Type 0} (S : Map K V → A) (step : K × V → A → A) → ((a b : Map K V) (x : K × V) → S (a ++ x ∷ b) ≡ step x (S (a ++ b)))
        → (both : A → A → A) → ((s : Map K V) → both (S []) (S s) ≡ S s) → ((x : K × V) (m : Map K V) (b : A) → both (S (x ∷ m)) b ≡ step x (both (S m) b))
        → (m n : Map K V) → T (is_sorted R m) → ShareNoKey R m n → S (union R m n) ≡ both (S m) (S n)
    union_value S step by both none more [] n h apart = sym (none n)
    union_value S step by both none more (x ∷ m) n h apart =
        split_value S step by x (union R m n) (with_pair R (union R m n) x.0 x.1) (put_splits x.0 x.1 (union R m n) (fresh x m n h apart))
        ∙ ap (step x) (union_value S step by both none more m n (right_of _ _ h) (apart_rest x m n apart))
        ∙ sym (more x m (S n))
