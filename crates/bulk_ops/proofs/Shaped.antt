-- Parts that are made of whole roots.
use Rattle.std.proofs.Common.{◌≡◌, ℕ, Bool, sym, subst}
use Rattle.std.specs.declared.cmp.Ordering.{Ordering}
use Rattle.versions.specs.Map.{Map}
use Rattle.versions.specs.Contents.{Contents}
use Rattle.versions.specs.declared.version.TheConstants.{MOST_PAIRS}
use Rattle.bulk_ops.specs.Meanings.{Means, MeansImages}
use Rattle.bulk_work.specs.Answers.{Question, filtered, mapped, paired, Answer, IsImage, answers, passing, with_values}
use Rattle.bulk_ops.specs.Queries.{Asks, PartAnswers}
use Rattle.bulk_ops.specs.declared.closure.PairFn.{Ghosts}
use Rattle.bulk_ops.specs.declared.closure.ImageFn.{Ghosts as ImageGhosts}
use Rattle.bulk_ops.specs.declared.stored.Stored.{Stored}
use Rattle.bulk_ops.specs.declared.stored.StoredPairs.{StoredPairs}
use Rattle.bulk_ops.specs.declared.query.Query.{Query}
use Rattle.bulk_ops.specs.declared.query.Query.TheVariants.{Filter, MapValues, MapPairs}
use Rattle.bulk_ops.specs.declared.part.Part.TheVariants as parts

-- the map has the pairs that pass by each meaning of the closure
abbrev pub HasPassing : {K V C : Type 0} {t : Ghosts C K V Bool} → Stored K V Bool C t → Map K V → Contents K V → Type 0
HasPassing {K} {V} {C} {t} s m w = (p : K → V → Bool) → Means (t.gives s.call) p → w.entries ≡ passing p m

-- the map has the new values of each meaning of the closure
abbrev pub HasValues : {K V D : Type 0} {f : Ghosts D K V V} → Stored K V V D f → Map K V → Contents K V → Type 0
HasValues {K} {V} {D} {f} s m w = (p : K → V → V) → Means (f.gives s.call) p → w.entries ≡ with_values p m

module _ {K V C D M E P I : Type 0} {t : Ghosts C K V Bool} (f : Ghosts D K V V) (g : Ghosts E K V I) (h : ImageGhosts P K V) (combine : M → I → I → I) (unit_of : M → I) (R : K → K → Ordering) where
  abbrev AskedOf : Query K V C D M E P I t f g h → Question K V I → Type 0
  AskedOf q z = Asks combine unit_of q z

  passing_answer : (s : Stored K V Bool C t) (to : ℕ) (m : Map K V) (w : Contents K V) → HasPassing s m w → (z : Question K V I) → AskedOf (Filter s to) z → answers R z m (Answer.made w.entries)
  passing_answer s to m w made (filtered p n) asks = made p asks.0
  passing_answer s to m w made z asks = absurd asks

  -- it is the part of a filter
  pub passing_shaped : (q : Query K V C D M E P I t f g h) (s : Stored K V Bool C t) (to : ℕ) (m : Map K V) (w : Contents K V) → q ≡ Filter s to
      → HasPassing s m w → w.limit ≡ MOST_PAIRS → w.stamp ≡ 0 → PartAnswers combine unit_of R q m (parts.Made w)
  passing_shaped q s to m w is made limit stamp =
      subst (λ q. PartAnswers combine unit_of R q m (parts.Made w)) (sym is) (record { kind = (limit, stamp); answer = passing_answer s to m w made })

module _ {K V C D M E P I : Type 0} (t : Ghosts C K V Bool) {f : Ghosts D K V V} (g : Ghosts E K V I) (h : ImageGhosts P K V) (combine : M → I → I → I) (unit_of : M → I) (R : K → K → Ordering) where
  abbrev Asked : Query K V C D M E P I t f g h → Question K V I → Type 0
  Asked q z = Asks combine unit_of q z

  values_answer : (s : Stored K V V D f) (to : ℕ) (m : Map K V) (w : Contents K V) → HasValues s m w → (z : Question K V I) → Asked (MapValues s to) z → answers R z m (Answer.made w.entries)
  values_answer s to m w made (mapped p n) asks = made p asks.0
  values_answer s to m w made z asks = absurd asks

  -- it is the part of a map of values
  pub values_shaped : (q : Query K V C D M E P I t f g h) (s : Stored K V V D f) (to : ℕ) (m : Map K V) (w : Contents K V) → q ≡ MapValues s to
      → HasValues s m w → w.limit ≡ MOST_PAIRS → w.stamp ≡ 0 → PartAnswers combine unit_of R q m (parts.Made w)
  values_shaped q s to m w is made limit stamp =
      subst (λ q. PartAnswers combine unit_of R q m (parts.Made w)) (sym is) (record { kind = (limit, stamp); answer = values_answer s to m w made })

-- the map has the images by each meaning of the closure
abbrev pub HasImagesOf : {K V P : Type 0} {h : ImageGhosts P K V} → (K → K → Ordering) → StoredPairs K V P h → Map K V → Map K V → Type 0
HasImagesOf {K} {V} {P} {h} R s m w = (p : K → V → K × V) → MeansImages (h.gives s.call) p → IsImage R p m w

module _ {K V C D M E P I : Type 0} (t : Ghosts C K V Bool) (f : Ghosts D K V V) (g : Ghosts E K V I) {h : ImageGhosts P K V} (combine : M → I → I → I) (unit_of : M → I) (R : K → K → Ordering) where
  abbrev AskedImages : Query K V C D M E P I t f g h → Question K V I → Type 0
  AskedImages q z = Asks combine unit_of q z

  images_answer : (s : StoredPairs K V P h) (to : ℕ) (m w : Map K V) → HasImagesOf R s m w → (z : Question K V I) → AskedImages (MapPairs s to) z → answers R z m (Answer.images w)
  images_answer s to m w made (paired p n) asks = made p asks.0
  images_answer s to m w made z asks = absurd asks

  -- it is the part of a map of images
  pub images_shaped : (q : Query K V C D M E P I t f g h) (s : StoredPairs K V P h) (to : ℕ) (m : Map K V) (v : Contents K V) (w : Map K V) → q ≡ MapPairs s to
      → HasImagesOf R s m w → v.limit ≡ MOST_PAIRS → v.stamp ≡ 0 → v.entries ≡ w → PartAnswers combine unit_of R q m (parts.Images v w)
  images_shaped q s to m v w is made limit stamp same =
      subst (λ q. PartAnswers combine unit_of R q m (parts.Images v w)) (sym is) (record { kind = (limit, stamp, same); answer = images_answer s to m w made })
