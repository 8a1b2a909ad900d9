-- The summary of a part that is lent.
use Rattle.std.proofs.Common.{◌≡◌, Bool, Option, refl, sym, ap, subst, ◌∙◌}
use Rattle.std.specs.Prelude.{option_map}
use Rattle.std.specs.declared.sync.Arc.{Arc}
use Rattle.std.specs.declared.alloc.Global.{Global}
use Rattle.std.proofs.Math.Logic.{∥∥₁_elim}
use Rattle.std.specs.declared.cmp.Ordering.{Ordering}
use Rattle.versions.specs.Map.{Map}
use Rattle.combiner.specs.Monoids.{IsAssociative, IsCommutative, IsNeutral, IsClosed}
use Rattle.bulk_work.specs.Answers as plain
use Rattle.bulk_work.specs.Answers.{fold, items_of, summary}
use Rattle.bulk_work.specs.Pairs.{pair_of}
use Rattle.bulk_ops.specs.Queries.{PartAnswers, answer_of}
use Rattle.bulk_work.specs.Summaries.{summary_of}
use Rattle.bulk_work.specs.declared.asks.Answer.TheVariants as tells
use Rattle.bulk_ops.specs.declared.closure.PairFn.{Ghosts}
use Rattle.bulk_ops.specs.declared.closure.ImageFn.{Ghosts as ImageGhosts}
use Rattle.bulk_ops.specs.declared.stored.Stored.{Stored}
use Rattle.bulk_ops.specs.declared.query.Query.{Query}
use Rattle.bulk_ops.specs.declared.query.Query.TheVariants.{Fold}
use Rattle.bulk_ops.specs.declared.part.Part.{Part}
use Rattle.bulk_ops.specs.declared.part.Part.TheVariants as parts
use Rattle.bulk_ops.proofs.Totals.{folded_is_item}

-- another handle on the pair tells the same
pub pair_told : {K V I : Type 0} (part : Part K V I) (x y : Option (Arc K Global × Arc V Global)) → part ≡ parts.Found y → option_map pair_of x ≡ option_map pair_of y
    → summary_of {I = I} (tells.Found x) ≡ summary (answer_of part)
pair_told part x y is same = (λ i. plain.Summary.found (same i)) ∙ ap (λ p. summary (answer_of p)) (sym is)

module _ {K V C D M E P I : Type 0} {t : Ghosts C K V Bool} {f : Ghosts D K V V} {g : Ghosts E K V I} {h : ImageGhosts P K V} (combine : M → I → I → I) (unit_of : M → I) (R : K → K → Ordering) where
  abbrev Known : Query K V C D M E P I t f g h → Part K V I → Type 0
  Known q part = ∥ ((m : Map K V) × PartAnswers combine unit_of R q m part) ∥₁

  module _ (is_item : M → I → Type 0) (assoc : (m : M) → IsAssociative (combine m)) (comm : (m : M) → IsCommutative (combine m))
      (neutral : (m : M) → IsNeutral (combine m) (is_item m) (unit_of m)) (closed : (m : M) → IsClosed (combine m) (is_item m)) (unit_is : (m : M) → is_item m (unit_of m)) (set : IsSet I) where
    -- the item of a part that answers some map, combined with the unit, tells the same
    pub item_told : (q : Query K V C D M E P I t f g h) (w : M) (s : Stored K V I E g) (part : Part K V I) (a u r : I) → q ≡ Fold w s → part ≡ parts.Item a → u ≡ unit_of w → r ≡ combine w a u
        → Known q part → summary_of {K = K} {V = V} (tells.Item r) ≡ summary (answer_of part)
    item_told q w s part a u r is second unit made known =
        let there : Known (Fold w s) (parts.Item a) = subst (λ x. Known (Fold w s) x) second (subst (λ x. Known x part) is known) in
        let again : combine w a (unit_of w) ≡ a =
        ∥∥₁_elim there (set _ _) (λ x. ∥∥₁_elim s.means (set _ _) (λ p.
        neutral w a (subst (is_item w) (sym (x.1.answer (fold (combine w) (unit_of w) p.0) (refl, refl, p.1))) (folded_is_item (combine w) (is_item w) (unit_of w) (assoc w) (comm w) (neutral w) (closed w) (unit_is w) (items_of p.0 x.0))))) in
        (λ i. plain.Summary.item ((made ∙ ap (combine w a) unit ∙ again) i)) ∙ ap (λ p. summary (answer_of p)) (sym second)
