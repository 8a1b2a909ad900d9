-- Which groups a closure named, and at which pairs.
use Rattle.std.proofs.Common.{◌≡◌, Bool, true, false, cond, is_some, ◌⊎◌, inl, inr, T, [], ◌∷◌, Option, Some, None, refl, sym, subst, ap, arith}
use Rattle.std.specs.Prelude.{Contains, IsSome}
use Rattle.std.specs.Cmp.{IsTotalOrder, tied_itself}
use Rattle.std.specs.Ordering.{eq_by_cmp, is_eq}
use Rattle.std.specs.FinMap.{is_sorted}
use Rattle.std.specs.FinMap.Entries.{find-put}
use Rattle.std.specs.declared.cmp.Ordering.{Ordering}
use Rattle.trie_shape.specs.Map.{IsAntisymmetric}
use Rattle.versions.specs.Map.{Map, ShareNoKey, union, value_at, with_pair}
use Rattle.bulk_work.proofs.Made.{in_left, in_right}
use Rattle.bulk_ops.proofs.Images.{first, union_from, which}
use Rattle.group_counts.specs.Sums.{combined}
use Rattle.group_counts.proofs.Joins.{equal_of}

-- what has a value has it of one or of the other
some_either : {I : Type 0} (op : I → I → I) (unit : I) (a b : Option I) → IsSome (combined op unit a b) → IsSome a ⊎ IsSome b
some_either op unit None b some = inr some
some_either op unit (Some a) b some = inl refl

some_left : {I : Type 0} (op : I → I → I) (unit : I) (a b : Option I) → IsSome a → IsSome (combined op unit a b)
some_left op unit None b some = absurd (cc)
some_left op unit (Some a) b some = refl

some_right : {I : Type 0} (op : I → I → I) (unit : I) (a b : Option I) → IsSome b → IsSome (combined op unit a b)
some_right op unit None b some = some
some_right op unit (Some a) b some = refl

-- of two choices that which is there
some_cond : {I : Type 0} (b : Bool) (x : I) (o : Option I) → IsSome (cond b (Some x) o) → (b ≡ true) ⊎ IsSome o
some_cond true x o some = inl refl
some_cond false x o some = inr some

some_chosen : {I : Type 0} (b : Bool) (x : I) (o : Option I) → b ≡ true → IsSome (cond b (Some x) o)
some_chosen true x o is = refl
some_chosen false x o is = absurd (cc)

some_kept : {I : Type 0} (b : Bool) (x : I) (o : Option I) → IsSome o → IsSome (cond b (Some x) o)
some_kept true x o some = refl
some_kept false x o some = some

only : {A : Type 0} (x y : A) → Contains (x ∷ []) y → x ≡ y
only x y c = elim (which x y [] c) as (λ u. x ≡ y) [ inl e ↦ e | inr none ↦ absurd (omega (arith, none.1)) ]

-- what is not there has no value
pub not_there : {I X : Type 0} (o : Option I) → o ≡ None → IsSome o → X
not_there None e some = absurd (cc)
not_there (Some a) e some = absurd (cc)

-- a pair of the map at which the closure named the group
abbrev pub NamedIn : {K V G : Type 0} → (K → V → G → Type 0) → Map K V → G → Type 0
NamedIn {K} {V} gives m g = (x : K × V) × Contains m x × gives x.0 x.1 g

module _ {K V G I : Type 0} (R : G → G → Ordering) (gives : K → V → G → Type 0) where
  -- what it named at the pair is there
  abbrev pub Names : Map G I → K × V → Type 0
  Names sums x = (g : G) × gives x.0 x.1 g × IsSome (value_at R sums g)

  module _ (o : IsTotalOrder R) (same : IsAntisymmetric R) where
    -- a group that is there once one more is put was named before, or is that one
    pub some_put : (g q : G) (i : I) (sums : Map G I) → IsSome (value_at R (with_pair R sums g i) q) → (q ≡ g) ⊎ IsSome (value_at R sums q)
    some_put g q i sums some =
        elim (some_cond (eq_by_cmp R q g) i (value_at R sums q) (subst IsSome (find-put R o q g i sums) some)) as (λ u. (q ≡ g) ⊎ IsSome (value_at R sums q)) [
          | inl is ↦ inl (same q g (equal_of _ is))
          | inr before ↦ inr before
        ]

    pub put_there : (g : G) (i : I) (sums : Map G I) → IsSome (value_at R (with_pair R sums g i) g)
    put_there g i sums =
        subst IsSome (sym (find-put R o g g i sums)) (some_chosen (eq_by_cmp R g g) i (value_at R sums g) (ap is_eq (tied_itself o g)))

    pub put_keeps : (g q : G) (i : I) (sums : Map G I) → IsSome (value_at R sums q) → IsSome (value_at R (with_pair R sums g i) q)
    put_keeps g q i sums some =
        subst IsSome (sym (find-put R o q g i sums)) (some_kept (eq_by_cmp R q g) i (value_at R sums q) some)

    -- at one pair one group was named
    pub named_one : (k : K) (v : V) (g q : G) (i : I) → gives k v g → IsSome (value_at R ((g, i) ∷ []) q) → NamedIn gives ((k, v) ∷ []) q
    named_one k v g q i gave some =
        elim (some_put g q i [] some) as (λ u. NamedIn gives ((k, v) ∷ []) q) [
          | inl is ↦ ((k, v), first (k, v) [], subst (gives k v) (sym is) gave)
          | inr none ↦ absurd (cc)
        ]

    pub there_one : (k : K) (v : V) (g : G) (i : I) (x : K × V) → gives k v g → Contains ((k, v) ∷ []) x → Names ((g, i) ∷ []) x
    there_one k v g i x gave among = subst (Names ((g, i) ∷ [])) (only (k, v) x among) (g, gave, put_there g i [])

  module _ (RK : K → K → Ordering) (ok : IsTotalOrder RK) (exact : IsAntisymmetric RK) where
    -- what was named at pairs of either map was at pairs of both
    pub named_both : (op : I → I → I) (unit : I) (a b : Option I) (m n : Map K V) (g : G) → T (is_sorted RK m) → ShareNoKey RK m n
        → (IsSome a → NamedIn gives m g) → (IsSome b → NamedIn gives n g) → IsSome (combined op unit a b) → NamedIn gives (union RK m n) g
    named_both op unit a b m n g sorted apart left right some =
        elim (some_either op unit a b some) as (λ u. NamedIn gives (union RK m n) g) [
          | inl l ↦ let x = left l in (x.0, in_left RK ok m n x.0 sorted apart x.1, x.2)
          | inr r ↦ let x = right r in (x.0, in_right RK ok m n x.0 sorted apart x.1, x.2)
        ]

    pub there_both : (op : I → I → I) (unit : I) (a b c : Map G I) (m n : Map K V) (x : K × V)
        → ((g : G) → value_at R c g ≡ combined op unit (value_at R a g) (value_at R b g))
        → (Contains m x → Names a x) → (Contains n x → Names b x) → Contains (union RK m n) x → Names c x
    there_both op unit a b c m n x each left right among =
        elim (union_from RK exact m n x among) as (λ u. Names c x) [
          | inl l ↦ let w = left l in (w.0, w.1, subst IsSome (sym (each w.0)) (some_left op unit (value_at R a w.0) (value_at R b w.0) w.2))
          | inr r ↦ let w = right r in (w.0, w.1, subst IsSome (sym (each w.0)) (some_right op unit (value_at R a w.0) (value_at R b w.0) w.2))
        ]

    module _ (o : IsTotalOrder R) (same : IsAntisymmetric R) where
      -- and so with a pair more
      pub named_more : (k : K) (v : V) (g q : G) (i : I) (m : Map K V) (sums : Map G I) → gives k v g → T (is_sorted RK ((k, v) ∷ [])) → ShareNoKey RK ((k, v) ∷ []) m
          → (IsSome (value_at R sums q) → NamedIn gives m q) → IsSome (value_at R (with_pair R sums g i) q) → NamedIn gives (with_pair RK m k v) q
      named_more k v g q i m sums gave sorted apart before some =
          elim (some_put o same g q i sums some) as (λ u. NamedIn gives (with_pair RK m k v) q) [
            | inl is ↦ ((k, v), in_left RK ok ((k, v) ∷ []) m (k, v) sorted apart (first (k, v) []), subst (gives k v) (sym is) gave)
            | inr there ↦ let x = before there in (x.0, in_right RK ok ((k, v) ∷ []) m x.0 sorted apart x.1, x.2)
          ]

      pub there_more : (k : K) (v : V) (g : G) (i : I) (m : Map K V) (sums : Map G I) (x : K × V) → gives k v g
          → (Contains m x → Names sums x) → Contains (with_pair RK m k v) x → Names (with_pair R sums g i) x
      there_more k v g i m sums x gave before among =
          elim (union_from RK exact ((k, v) ∷ []) m x among) as (λ u. Names (with_pair R sums g i) x) [
            | inl l ↦ subst (Names (with_pair R sums g i)) (only (k, v) x l) (g, gave, put_there o same g i sums)
            | inr r ↦ let w = before r in (w.0, w.1, put_keeps o same g w.0 i sums w.2)
          ]
