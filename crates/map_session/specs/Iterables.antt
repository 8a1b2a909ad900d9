-- Pairs that come by an iterator.
use Rattle.std.proofs.Common.{List, [], ◌∷◌, ◌≡◌, Option, Some, None, sym, subst}
use Rattle.std.proofs.lemmas.List.Elements.{All-head, All-tail}
use Rattle.std.specs.Prelude.{All}
use Rattle.std.specs.Iterator.{Yields, YieldsThen}
use Rattle.std.specs.Vec.Iter.{into_iter_items, into_iter_steps}
use Rattle.std.specs.declared.vec.IntoIter.{IntoIter}

module _ {K V S : Type 0} (H : K → V → Type 0) (gives : S → Option (K × V) → S → Type 0) where
  -- each pair that an iterator gives from here on keeps the rule
  abbrev pub KeepsFrom : S → Type 0
  KeepsFrom s = (before : List (K × V)) (pair : K × V) (behind : S) → YieldsThen gives s before (Some pair) behind → H pair.0 pair.1

-- each pair that any iterator over these gives keeps the rule
abbrev pub EachKeeps : {K V S U : Type 0} → (K → V → Type 0) → (U → S → Type 0) → (S → Option (K × V) → S → Type 0) → U → Type 0
EachKeeps {K} {V} {S} H becomes gives pairs = (s : S) → becomes pairs s → KeepsFrom H gives s

-- of what an iterator over these gives, so much came first, and that holds of what is left
abbrev pub CameFirst : {A S U : Type 0} → (U → S → Type 0) → (S → Option A → S → Type 0) → U → List A → (S → Type 0) → Type 0
CameFirst {A} {S} becomes gives pairs came left = (s : S) × (t : S) × becomes pairs s × Yields gives s came t × left t

-- nothing is left
abbrev pub IsAtEnd : {A S : Type 0} → (S → Option A → S → Type 0) → S → Type 0
IsAtEnd {A} {S} gives s = (t : S) × gives s None t

module _ {K V S : Type 0} (H : K → V → Type 0) (gives : S → Option (K × V) → S → Type 0) (rest : S → List (K × V)) (first : (s t : S) (x : K × V) → gives s (Some x) t → rest s ≡ x ∷ rest t) where
  left_keeps : (s t : S) (xs : List (K × V)) → Yields gives s xs t → All (λ (x : K × V). H x.0 x.1) (rest s) → All (λ (x : K × V). H x.0 x.1) (rest t)
  left_keeps s t [] same all = subst (λ (u : S). All (λ (x : K × V). H x.0 x.1) (rest u)) same all
  left_keeps s t (x ∷ xs) (j, step, more) all =
      left_keeps j t xs more (All-tail (λ (y : K × V). H y.0 y.1) x (rest j) (subst (All (λ (y : K × V). H y.0 y.1)) (first s j x step) all))

  -- of an iterator that gives a list in order: where each pair of the list keeps the rule, so does each that it gives
  pub list_keeps : (s : S) → All (λ (x : K × V). H x.0 x.1) (rest s) → KeepsFrom H gives s
  list_keeps s all before x behind (t, some, step) =
      All-head (λ (y : K × V). H y.0 y.1) x (rest behind) (subst (All (λ (y : K × V). H y.0 y.1)) (first t behind x step) (left_keeps s t before some all))

-- where each pair of a vector keeps the rule, so does each that an iterator over it gives
pub vec_keeps : {K V Z : Type 0} (H : K → V → Type 0) (pairs : List (K × V)) → All (λ (x : K × V). H x.0 x.1) pairs → (s : IntoIter (K × V) Z) → into_iter_items s ≡ pairs → KeepsFrom H into_iter_steps s
vec_keeps H pairs all s is =
    list_keeps H into_iter_steps into_iter_items (λ t u x step. step.0) s (subst (All (λ x. H x.0 x.1)) (sym is) all)
