-- Each pair of a listing keeps the rule that the value of each key keeps.
use Rattle.std.proofs.Common.{◌≡◌, Bool, true, false, cond, [], ◌∷◌, Option, Some, None, IfSome, refl, sym, ◌∙◌, ap}
use Rattle.std.proofs.lemmas.Option.{none-some}
use Rattle.std.specs.declared.cmp.Ordering.{Ordering}
use Rattle.std.proofs.lemmas.List.Elements.{All-nil, All-cons}
use Rattle.std.specs.Cmp.{Equal-is, IsTotalOrder, tied_itself}
use Rattle.std.specs.Ordering.{eq_by_cmp, is_eq}
use Rattle.std.specs.Prelude.{All, option_map}
use Rattle.versions.specs.Map.{Map, IsAntisymmetric, value_at}
use Rattle.trie_shape.specs.Listings.{IsListing}
use Rattle.stripe.specs.Rules.{AllKeep}

-- where each value that is there holds, one that may be there does
pub some_keeps : {V : Type 0} (P : V → Type 0) (o : Option V) → ((v : V) → o ≡ Some v → P v) → IfSome o P
some_keeps P None h = tt
some_keeps P (Some v) h = h v refl

-- what holds of what a handle has, where there is one, holds of the value
pub mapped_keeps : {A V : Type 0} (f : A → V) (P : V → Type 0) (o : Option A) → IfSome o (λ a. P (f a)) → IfSome (option_map f o) P
mapped_keeps f P None h = tt
mapped_keeps f P (Some a) h = h

module _ {K V : Type 0} (R : K → K → Ordering) (H : K → V → Type 0) where
  -- what stands behind the first pair of a listing keeps the rule
  kept_behind : IsAntisymmetric R → (e : K × V) (es : Map K V) → value_at R es e.0 ≡ None → AllKeep R H (e ∷ es) → AllKeep R H es
  kept_behind exact e es none kept q w found =
      elim (eq_by_cmp R q e.0) as (λ (b : Bool). eq_by_cmp R q e.0 ≡ b → H q w) [
        | true ↦ λ same. absurd (none-some w (sym none ∙ ap (value_at R es) (sym (exact q e.0 ((Equal-is (R q e.0)).0 same))) ∙ found))
        | false ↦ λ other. kept q w (ap (λ (b : Bool). cond b (Some e.1) (value_at R es q)) other ∙ found)
      ] refl

  -- each pair of a listing keeps the rule that the value of each key keeps
  pub kept_listing : IsTotalOrder R → IsAntisymmetric R → (es : Map K V) → IsListing R es → AllKeep R H es → All (λ (e : K × V). H e.0 e.1) es
  kept_listing total exact [] once kept = All-nil (λ (e : K × V). H e.0 e.1)
  kept_listing total exact (e ∷ es) once kept =
      All-cons (λ (x : K × V). H x.0 x.1) e es
      (kept e.0 e.1 (ap (λ (b : Bool). cond b (Some e.1) (value_at R es e.0)) (ap is_eq (tied_itself total e.0))))
      (kept_listing total exact es once.1 (kept_behind exact e es once.0 kept))
