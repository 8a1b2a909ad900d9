-- What is known of a part that answers some map.
use Rattle.std.proofs.Common.{◌≡◌, ℕ, ◌+◌, ◌≤◌, ◌<◌, Bool, length, refl, ap, subst, arith, [], ◌∷◌}
use Rattle.std.proofs.lemmas.List.{length-map}
use Rattle.std.proofs.Math.Nat.{ℕ_set}
use Rattle.std.proofs.Math.Logic.{∥∥₁_elim, ∥∥₁_map}
use Rattle.std.proofs.Math.Bridge.{le_prop}
use Rattle.std.specs.declared.cmp.Ordering.{Ordering}
use Rattle.std.specs.Cmp.{IsTotalOrder}
use Rattle.versions.specs.Map.{Map}
use Rattle.versions.specs.Contents.{Contents}
use Rattle.versions.specs.declared.version.TheConstants.{MOST_PAIRS}
use Rattle.combiner.specs.Unions.{AreApart}
use Rattle.combiner.specs.Bulks.{Apart, CanAdd, CanJoin, CanJoinMap}
use Rattle.bulk_work.specs.Answers.{count, filtered, mapped, paired, with_values}
use Rattle.bulk_ops.specs.Parts.{HasNumber, HasTruth, HasPair, HasMap, HasImages, HasItem, HasRoom, HasImageRoom}
use Rattle.bulk_ops.specs.Queries.{IsPartOf, PartAnswers}
use Rattle.bulk_ops.specs.declared.closure.PairFn.{Ghosts}
use Rattle.bulk_ops.specs.declared.closure.ImageFn.{Ghosts as ImageGhosts}
use Rattle.bulk_ops.specs.declared.query.Query.{Query}
use Rattle.bulk_ops.specs.declared.query.Query.TheVariants.{Count, Exists, ForAll, Find, Filter, MapValues, MapPairs, Fold}
use Rattle.bulk_ops.specs.declared.part.Part.{Part}
use Rattle.bulk_ops.specs.declared.part.Part.TheVariants as parts
use Rattle.bulk_work.proofs.Unions.{passing_le}
use Rattle.bulk_ops.proofs.Images.{images_le}

unit_prop : (x y : Unit {0}) → x ≡ y
unit_prop x y = refl

none_prop : (x y : ⊥) → x ≡ y
none_prop x y = absurd x

pub values_len : {K V : Type 0} (p : K → V → V) (m : Map K V) → length (with_values p m) ≡ length m
values_len p m = length-map m (λ x. (x.0, p x.0 x.1))

module _ {K V I : Type 0} where
  HasNumber-prop : (a : Part K V I) (x y : HasNumber a) → x ≡ y
  HasNumber-prop (parts.Number n) = unit_prop
  HasNumber-prop _ = none_prop

  HasTruth-prop : (a : Part K V I) (x y : HasTruth a) → x ≡ y
  HasTruth-prop (parts.Truth b) = unit_prop
  HasTruth-prop _ = none_prop

  HasPair-prop : (a : Part K V I) (x y : HasPair a) → x ≡ y
  HasPair-prop (parts.Found o) = unit_prop
  HasPair-prop _ = none_prop

  HasMap-prop : (a : Part K V I) (x y : HasMap a) → x ≡ y
  HasMap-prop (parts.Made v) = unit_prop
  HasMap-prop _ = none_prop

  HasImages-prop : (a : Part K V I) (x y : HasImages a) → x ≡ y
  HasImages-prop (parts.Images v w) = unit_prop
  HasImages-prop _ = none_prop

  HasItem-prop : (a : Part K V I) (x y : HasItem a) → x ≡ y
  HasItem-prop (parts.Item i) = unit_prop
  HasItem-prop _ = none_prop

  HasRoom-prop : (a : Part K V I) (x y : HasRoom a) → x ≡ y
  HasRoom-prop (parts.Made v) = le_prop
  HasRoom-prop _ = none_prop

  HasImageRoom-prop : (a : Part K V I) (x y : HasImageRoom a) → x ≡ y
  HasImageRoom-prop (parts.Images v w) = λ x y i. (le_prop x.0 y.0 i, ℕ_set _ _ x.1 y.1 i)
  HasImageRoom-prop _ = none_prop

module _ {K V C D M E P I : Type 0} {t : Ghosts C K V Bool} {f : Ghosts D K V V} {g : Ghosts E K V I} {h : ImageGhosts P K V} (combine : M → I → I → I) (unit_of : M → I) (R : K → K → Ordering) where
  -- the part answers the map
  abbrev pub Answered : Query K V C D M E P I t f g h → Map K V → Part K V I → Type 0
  Answered q m part = PartAnswers combine unit_of R q m part

  -- it answers some map
  abbrev pub Known : Query K V C D M E P I t f g h → Part K V I → Type 0
  Known q a = ∥ ((m : Map K V) × Answered q m a) ∥₁

  -- so it is a part of the query
  kind : {H : Type 0} (q : Query K V C D M E P I t f g h) (a : Part K V I) → ((x y : H) → x ≡ y) → (IsPartOf q a → H) → Known q a → H
  kind q a prop h known = ∥∥₁_elim known prop (λ x. h x.1.kind)

  abbrev IsPart : Query K V C D M E P I t f g h → Part K V I → Type 0
  IsPart q a = IsPartOf q a

  number_kind : (q : Query K V C D M E P I t f g h) (s : _) (a : Part K V I) → q ≡ Count s → IsPart q a → HasNumber a
  number_kind q s (parts.Number n) is k = tt
  number_kind q s a is k = absurd (subst (λ q. IsPartOf q a) is k)

  pub number_of : (q : Query K V C D M E P I t f g h) (s : _) (a : Part K V I) → q ≡ Count s → Known q a → HasNumber a
  number_of q s a is known = kind q a (HasNumber-prop a) (number_kind q s a is) known

  exists_kind : (q : Query K V C D M E P I t f g h) (s : _) (a : Part K V I) → q ≡ Exists s → IsPart q a → HasTruth a
  exists_kind q s (parts.Truth b) is k = tt
  exists_kind q s a is k = absurd (subst (λ q. IsPartOf q a) is k)

  pub exists_truth : (q : Query K V C D M E P I t f g h) (s : _) (a : Part K V I) → q ≡ Exists s → Known q a → HasTruth a
  exists_truth q s a is known = kind q a (HasTruth-prop a) (exists_kind q s a is) known

  for_all_kind : (q : Query K V C D M E P I t f g h) (s : _) (a : Part K V I) → q ≡ ForAll s → IsPart q a → HasTruth a
  for_all_kind q s (parts.Truth b) is k = tt
  for_all_kind q s a is k = absurd (subst (λ q. IsPartOf q a) is k)

  pub for_all_truth : (q : Query K V C D M E P I t f g h) (s : _) (a : Part K V I) → q ≡ ForAll s → Known q a → HasTruth a
  for_all_truth q s a is known = kind q a (HasTruth-prop a) (for_all_kind q s a is) known

  find_kind : (q : Query K V C D M E P I t f g h) (s : _) (a : Part K V I) → q ≡ Find s → IsPart q a → HasPair a
  find_kind q s (parts.Found x) is k = tt
  find_kind q s a is k = absurd (subst (λ q. IsPartOf q a) is k)

  pub pair_found : (q : Query K V C D M E P I t f g h) (s : _) (a : Part K V I) → q ≡ Find s → Known q a → HasPair a
  pair_found q s a is known = kind q a (HasPair-prop a) (find_kind q s a is) known

  filter_kind : (q : Query K V C D M E P I t f g h) (s : _) (to : ℕ) (a : Part K V I) → q ≡ Filter s to → IsPart q a → HasMap a
  filter_kind q s to (parts.Made v) is k = tt
  filter_kind q s to a is k = absurd (subst (λ q. IsPartOf q a) is k)

  pub filter_map : (q : Query K V C D M E P I t f g h) (s : _) (to : ℕ) (a : Part K V I) → q ≡ Filter s to → Known q a → HasMap a
  filter_map q s to a is known = kind q a (HasMap-prop a) (filter_kind q s to a is) known

  values_kind : (q : Query K V C D M E P I t f g h) (s : _) (to : ℕ) (a : Part K V I) → q ≡ MapValues s to → IsPart q a → HasMap a
  values_kind q s to (parts.Made v) is k = tt
  values_kind q s to a is k = absurd (subst (λ q. IsPartOf q a) is k)

  pub values_map : (q : Query K V C D M E P I t f g h) (s : _) (to : ℕ) (a : Part K V I) → q ≡ MapValues s to → Known q a → HasMap a
  values_map q s to a is known = kind q a (HasMap-prop a) (values_kind q s to a is) known

  pairs_kind : (q : Query K V C D M E P I t f g h) (s : _) (to : ℕ) (a : Part K V I) → q ≡ MapPairs s to → IsPart q a → HasImages a
  pairs_kind q s to (parts.Images v w) is k = tt
  pairs_kind q s to a is k = absurd (subst (λ q. IsPartOf q a) is k)

  pub pairs_map : (q : Query K V C D M E P I t f g h) (s : _) (to : ℕ) (a : Part K V I) → q ≡ MapPairs s to → Known q a → HasImages a
  pairs_map q s to a is known = kind q a (HasImages-prop a) (pairs_kind q s to a is) known

  fold_kind : (q : Query K V C D M E P I t f g h) (w : M) (s : _) (a : Part K V I) → q ≡ Fold w s → IsPart q a → HasItem a
  fold_kind q w s (parts.Item i) is k = tt
  fold_kind q w s a is k = absurd (subst (λ q. IsPartOf q a) is k)

  pub item_of : (q : Query K V C D M E P I t f g h) (w : M) (s : _) (a : Part K V I) → q ≡ Fold w s → Known q a → HasItem a
  item_of q w s a is known = kind q a (HasItem-prop a) (fold_kind q w s a is) known

  module _ (o : IsTotalOrder R) where
    abbrev Can : Query K V C D M E P I t f g h → Part K V I → Part K V I → Type 0
    Can q a b = CanJoin R (λ m part. PartAnswers combine unit_of R q m part) a b

    -- parts that can be joined answer some maps
    pub first_known : (q : Query K V C D M E P I t f g h) (a b : Part K V I) → Can q a b → Known q a
    first_known q a b can =
        let answer : Apart R (Answered q) a b → (m : Map K V) × Answered q m a = λ x. (x.first, x.first_is) in
        ∥∥₁_map can answer

    pub second_known : (q : Query K V C D M E P I t f g h) (a b : Part K V I) → Can q a b → Known q b
    second_known q a b can =
        let answer : Apart R (Answered q) a b → (m : Map K V) × Answered q m b = λ x. (x.second, x.second_is) in
        ∥∥₁_map can answer

    at : (q r : Query K V C D M E P I t f g h) (a b c d : Part K V I) → q ≡ r → a ≡ c → b ≡ d → Can q a b → Can r c d
    at q r a b c d is first second can = subst (λ x. Can r c x) second (subst (λ x. Can r x b) first (subst (λ x. Can x a b) is can))

    -- two counts that can be joined count no more than a map may have
    pub count_few : (q : Query K V C D M E P I t f g h) (s : _) (a b : Part K V I) (i j : ℕ) → q ≡ Count s → a ≡ parts.Number i → b ≡ parts.Number j → Can q a b → i + j ≤ MOST_PAIRS
    count_few q s a b i j is first second can =
        ∥∥₁_elim (at q (Count s) a b (parts.Number i) (parts.Number j) is first second can) le_prop (λ x. ∥∥₁_elim s.means le_prop (λ w.
        omega (arith, x.first_is.answer (count w.0) w.1, x.second_is.answer (count w.0) w.1, passing_le w.0 x.first, passing_le w.0 x.second, x.apart.few)))

    -- two maps that can be joined have no more pairs together than a map may have
    pub filter_few : (q : Query K V C D M E P I t f g h) (s : _) (to : ℕ) (a b : Part K V I) (i j : Contents K V) → q ≡ Filter s to → a ≡ parts.Made i → b ≡ parts.Made j → Can q a b → length i.entries + length j.entries ≤ MOST_PAIRS
    filter_few q s to a b i j is first second can =
        ∥∥₁_elim (at q (Filter s to) a b (parts.Made i) (parts.Made j) is first second can) le_prop (λ x. ∥∥₁_elim s.means le_prop (λ w.
        omega (arith, ap length (x.first_is.answer (filtered w.0 to) (w.1, refl)), ap length (x.second_is.answer (filtered w.0 to) (w.1, refl)), passing_le w.0 x.first, passing_le w.0 x.second, x.apart.few)))

    pub values_few : (q : Query K V C D M E P I t f g h) (s : _) (to : ℕ) (a b : Part K V I) (i j : Contents K V) → q ≡ MapValues s to → a ≡ parts.Made i → b ≡ parts.Made j → Can q a b → length i.entries + length j.entries ≤ MOST_PAIRS
    values_few q s to a b i j is first second can =
        ∥∥₁_elim (at q (MapValues s to) a b (parts.Made i) (parts.Made j) is first second can) le_prop (λ x. ∥∥₁_elim s.means le_prop (λ w.
        omega (arith, ap length (x.first_is.answer (mapped w.0 to) (w.1, refl)), ap length (x.second_is.answer (mapped w.0 to) (w.1, refl)), values_len w.0 x.first, values_len w.0 x.second, x.apart.few)))

    pub pairs_few : (q : Query K V C D M E P I t f g h) (s : _) (to : ℕ) (a b : Part K V I) (i j : Contents K V) (y z : Map K V) → q ≡ MapPairs s to → a ≡ parts.Images i y → b ≡ parts.Images j z → Can q a b → length i.entries + length j.entries ≤ MOST_PAIRS
    pairs_few q s to a b i j y z is first second can =
        ∥∥₁_elim (at q (MapPairs s to) a b (parts.Images i y) (parts.Images j z) is first second can) le_prop (λ x. ∥∥₁_elim s.means le_prop (λ w.
        omega (arith, ap length x.first_is.kind.2, ap length x.second_is.kind.2, images_le R o w.0 x.first y (x.first_is.answer (paired w.0 to) (w.1, refl)), images_le R o w.0 x.second z (x.second_is.answer (paired w.0 to) (w.1, refl)), x.apart.few)))

    pub pairs_limits : (q : Query K V C D M E P I t f g h) (s : _) (to : ℕ) (a b : Part K V I) (i j : Contents K V) (y z : Map K V) → q ≡ MapPairs s to → a ≡ parts.Images i y → b ≡ parts.Images j z → Can q a b → (i.limit ≡ MOST_PAIRS) × (j.limit ≡ MOST_PAIRS)
    pairs_limits q s to a b i j y z is first second can =
        let there = at q (MapPairs s to) a b (parts.Images i y) (parts.Images j z) is first second can in (
          ∥∥₁_elim there (λ u v. ℕ_set _ _ u v) (λ x. x.first_is.kind.0),
          ∥∥₁_elim there (λ u v. ℕ_set _ _ u v) (λ x. x.second_is.kind.0),
        )

    pub pairs_stamps : (q : Query K V C D M E P I t f g h) (s : _) (to : ℕ) (a b : Part K V I) (i j : Contents K V) (y z : Map K V) → q ≡ MapPairs s to → a ≡ parts.Images i y → b ≡ parts.Images j z → Can q a b → (i.stamp ≡ 0) × (j.stamp ≡ 0)
    pairs_stamps q s to a b i j y z is first second can =
        let there = at q (MapPairs s to) a b (parts.Images i y) (parts.Images j z) is first second can in (
          ∥∥₁_elim there (λ u v. ℕ_set _ _ u v) (λ x. x.first_is.kind.1),
          ∥∥₁_elim there (λ u v. ℕ_set _ _ u v) (λ x. x.second_is.kind.1),
        )

    -- the maps of parts have the limit of a part
    pub filter_limits : (q : Query K V C D M E P I t f g h) (s : _) (to : ℕ) (a b : Part K V I) (i j : Contents K V) → q ≡ Filter s to → a ≡ parts.Made i → b ≡ parts.Made j → Can q a b → (i.limit ≡ MOST_PAIRS) × (j.limit ≡ MOST_PAIRS)
    filter_limits q s to a b i j is first second can =
        let there = at q (Filter s to) a b (parts.Made i) (parts.Made j) is first second can in (
          ∥∥₁_elim there (λ x y. ℕ_set _ _ x y) (λ x. x.first_is.kind.0),
          ∥∥₁_elim there (λ x y. ℕ_set _ _ x y) (λ x. x.second_is.kind.0),
        )

    pub values_limits : (q : Query K V C D M E P I t f g h) (s : _) (to : ℕ) (a b : Part K V I) (i j : Contents K V) → q ≡ MapValues s to → a ≡ parts.Made i → b ≡ parts.Made j → Can q a b → (i.limit ≡ MOST_PAIRS) × (j.limit ≡ MOST_PAIRS)
    values_limits q s to a b i j is first second can =
        let there = at q (MapValues s to) a b (parts.Made i) (parts.Made j) is first second can in (
          ∥∥₁_elim there (λ x y. ℕ_set _ _ x y) (λ x. x.first_is.kind.0),
          ∥∥₁_elim there (λ x y. ℕ_set _ _ x y) (λ x. x.second_is.kind.0),
        )

    module _ (n : Map K V) where
      abbrev CanTakeMap : Query K V C D M E P I t f g h → Part K V I → Type 0
      CanTakeMap q a = CanJoinMap R (λ m part. PartAnswers combine unit_of R q m part) a n

      -- a part that a map can be joined to answers some map
      pub map_known : (q : Query K V C D M E P I t f g h) (a : Part K V I) → CanTakeMap q a → Known q a
      map_known q a can =
          let answer : ((m : Map K V) × Answered q m a × AreApart R m n) → (m : Map K V) × Answered q m a = λ x. (x.0, x.1) in
          ∥∥₁_map can answer

      -- a part that answers the map can be joined to it too
      pub made_joins : (q : Query K V C D M E P I t f g h) (a made : Part K V I) → Answered q n made → CanTakeMap q a → Can q a made
      made_joins q a made is can =
          let beside : ((m : Map K V) × Answered q m a × AreApart R m n) → Apart R (Answered q) a made = λ x. record { first = x.0; second = n; first_is = x.1; second_is = is; apart = x.2 } in
          ∥∥₁_map can beside

      -- of a part of images it is known which limit and stamp it has, and that there is room for as many images as the map has pairs
      pub images_can : (q : Query K V C D M E P I t f g h) (s : _) (to : ℕ) (a : Part K V I) (i : Contents K V) (y : Map K V) → q ≡ MapPairs s to → a ≡ parts.Images i y → CanTakeMap q a
          → (i.limit ≡ MOST_PAIRS) × (i.stamp ≡ 0) × (length i.entries + length n ≤ MOST_PAIRS)
      images_can q s to a i y is are can =
          let there : CanTakeMap (MapPairs s to) (parts.Images i y) = subst (λ x. CanTakeMap (MapPairs s to) x) are (subst (λ x. CanTakeMap x a) is can) in (
            ∥∥₁_elim there (λ u v. ℕ_set _ _ u v) (λ x. x.1.kind.0),
            ∥∥₁_elim there (λ u v. ℕ_set _ _ u v) (λ x. x.1.kind.1),
            ∥∥₁_elim there le_prop (λ x. ∥∥₁_elim s.means le_prop (λ p. omega (arith, ap length x.1.kind.2, images_le R o p.0 x.0 y (x.1.answer (paired p.0 to) (p.1, refl)), x.2.few))),
          )

    module _ (k : K) (v : V) where
      abbrev CanTake : Query K V C D M E P I t f g h → Part K V I → Type 0
      CanTake q a = CanAdd R (λ m part. PartAnswers combine unit_of R q m part) a k v

      -- a part that a pair can be added to answers some map
      pub added_known : (q : Query K V C D M E P I t f g h) (a : Part K V I) → CanTake q a → Known q a
      added_known q a can =
          let answer : ((m : Map K V) × Answered q m a × AreApart R ((k, v) ∷ []) m) → (m : Map K V) × Answered q m a = λ x. (x.0, x.1) in
          ∥∥₁_map can answer

      -- it counts fewer pairs than a map may have
      pub count_room : (q : Query K V C D M E P I t f g h) (s : _) (a : Part K V I) (j : ℕ) → q ≡ Count s → a ≡ parts.Number j → CanTake q a → j < MOST_PAIRS
      count_room q s a j is second can =
          ∥∥₁_elim (subst (λ x. CanTake (Count s) x) second (subst (λ x. CanTake x a) is can)) le_prop (λ x. ∥∥₁_elim s.means le_prop (λ w.
          omega (arith, x.1.answer (count w.0) w.1, passing_le w.0 x.0, x.2.few)))

      filter_kind_room : (s : _) (to : ℕ) (a : Part K V I) (m : Map K V) → Answered (Filter s to) m a → AreApart R ((k, v) ∷ []) m → HasRoom a
      filter_kind_room s to (parts.Made w) m x apart =
          ∥∥₁_elim s.means le_prop (λ p. omega (arith, ap length (x.answer (filtered p.0 to) (p.1, refl)), passing_le p.0 m, apart.few, x.kind.0))
      filter_kind_room s to a m x apart = absurd x.kind

      values_kind_room : (s : _) (to : ℕ) (a : Part K V I) (m : Map K V) → Answered (MapValues s to) m a → AreApart R ((k, v) ∷ []) m → HasRoom a
      values_kind_room s to (parts.Made w) m x apart =
          ∥∥₁_elim s.means le_prop (λ p. omega (arith, ap length (x.answer (mapped p.0 to) (p.1, refl)), values_len p.0 m, apart.few, x.kind.0))
      values_kind_room s to a m x apart = absurd x.kind

      pairs_kind_room : (s : _) (to : ℕ) (a : Part K V I) (m : Map K V) → Answered (MapPairs s to) m a → AreApart R ((k, v) ∷ []) m → HasImageRoom a
      pairs_kind_room s to (parts.Images u w) m x apart =
          (∥∥₁_elim s.means le_prop (λ p. omega (arith, ap length x.kind.2, images_le R o p.0 m w (x.answer (paired p.0 to) (p.1, refl)), apart.few)), x.kind.1)
      pairs_kind_room s to a m x apart = absurd x.kind

      -- its map has fewer pairs than it may have
      pub filter_room : (q : Query K V C D M E P I t f g h) (s : _) (to : ℕ) (a : Part K V I) → q ≡ Filter s to → CanTake q a → HasRoom a
      filter_room q s to a is can =
          ∥∥₁_elim (subst (λ x. CanTake x a) is can) (HasRoom-prop a) (λ x. filter_kind_room s to a x.0 x.1 x.2)

      pub values_room : (q : Query K V C D M E P I t f g h) (s : _) (to : ℕ) (a : Part K V I) → q ≡ MapValues s to → CanTake q a → HasRoom a
      values_room q s to a is can =
          ∥∥₁_elim (subst (λ x. CanTake x a) is can) (HasRoom-prop a) (λ x. values_kind_room s to a x.0 x.1 x.2)

      pub pairs_room : (q : Query K V C D M E P I t f g h) (s : _) (to : ℕ) (a : Part K V I) → q ≡ MapPairs s to → CanTake q a → HasImageRoom a
      pairs_room q s to a is can =
          ∥∥₁_elim (subst (λ x. CanTake x a) is can) (HasImageRoom-prop a) (λ x. pairs_kind_room s to a x.0 x.1 x.2)
