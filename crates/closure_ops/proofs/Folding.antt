-- Folds of two maps together, and of a map with one pair more.
use Rattle.std.proofs.Common.{◌≡◌, [], ◌∷◌, sym, ap, ◌∙◌}
use Rattle.std.specs.Cmp.{IsTotalOrder}
use Rattle.std.specs.declared.cmp.Ordering.{Ordering}
use Rattle.versions.specs.Map.{Map}
use Rattle.combiner.specs.Bulks.{IsAdded, IsJoined}
use Rattle.combiner.specs.Monoids.{IsAssociative, IsCommutative, IsNeutral, IsClosed, folded}
use Rattle.bulk_ops.proofs.Totals.{fold_union, folded_is_item}
use Rattle.bulk_work.proofs.Unions.{truth_of}
use Rattle.bulk_work.specs.Answers.{items_of}
use Rattle.closure_ops.specs.Parts.{IsFold}

module _ {K V I : Type 0} (op : I → I → I) (unit : I) (gives : K → V → I → Type 0) where
  abbrev Folded : Map K V → I → Type 0
  Folded m all = IsFold op unit gives m all

  -- the item of one pair
  pub one_folded : (k : K) (v : V) (a all : I) → gives k v a → all ≡ op a unit → Folded ((k, v) ∷ []) all
  one_folded k v a all says is i means = is ∙ ap (λ (b : I). op b unit) (means k v a says)

  module _ (R : K → K → Ordering) (o : IsTotalOrder R) (is_item : I → Type 0)
      (assoc : IsAssociative op) (comm : IsCommutative op) (neutral : IsNeutral op is_item unit) (closed : IsClosed op is_item) (unit_is : is_item unit) where
    -- two folds joined
    pub both_folded : (a b all : I) → all ≡ op a b → IsJoined R Folded a b all
    both_folded a b all is m n x y apart i means =
        is ∙ (λ j. op (x i means j) (y i means j))
        ∙ sym (fold_union R o op is_item unit assoc comm neutral closed unit_is i m n (truth_of _ apart.left) apart.apart)

    -- an item combined with those before it
    pub one_more : (k : K) (v : V) (a was all : I) → gives k v a → all ≡ op a was → IsAdded R Folded was k v all
    one_more k v a was all says is m x apart i means =
        let rest = folded op unit (items_of i m) in
        let item = folded_is_item op is_item unit assoc comm neutral closed unit_is (items_of i m) in
        is ∙ (λ j. op (means k v a says j) (x i means j))
        ∙ ap (op (i k v)) (sym (comm unit rest ∙ neutral rest item))
        ∙ sym (assoc (i k v) unit rest)
        ∙ sym (fold_union R o op is_item unit assoc comm neutral closed unit_is i ((k, v) ∷ []) m (truth_of _ apart.left) apart.apart)
