-- Parts that are joined answer the union.
use Rattle.std.proofs.Common.{◌≡◌, ℕ, ◌+◌, Bool, ◌&&◌, ◌||◌, T, sym, subst, ◌∙◌, arith, Option, None, Some}
use Rattle.std.specs.Prelude.{option_map, max}
use Rattle.std.specs.declared.cmp.Ordering.{Ordering}
use Rattle.std.specs.Cmp.{IsTotalOrder}
use Rattle.std.specs.FinMap.{is_sorted}
use Rattle.versions.specs.Map.{Map, IsAntisymmetric, IsMap, union}
use Rattle.std.specs.Option.{option_or}
use Rattle.versions.specs.Contents.{Contents}
use Rattle.versions.specs.declared.version.TheConstants.{MOST_PAIRS}
use Rattle.combiner.specs.Unions.{AreApart}
use Rattle.combiner.specs.Bulks.{IsJoined, IsJoinedMap}
use Rattle.combiner.specs.Monoids.{IsAssociative, IsCommutative, IsNeutral, IsClosed, folded}
use Rattle.bulk_work.specs.Answers.{Question, count, exists, for_all, find, filtered, mapped, paired, fold, Answer, answers, IsImage, items_of}
use Rattle.bulk_ops.specs.Meanings.{MeansImages}
use Rattle.bulk_work.specs.Pairs.{pair_of}
use Rattle.bulk_ops.specs.Queries.{Asks, PartAnswers}
use Rattle.bulk_ops.specs.declared.closure.PairFn.{Ghosts}
use Rattle.bulk_ops.specs.declared.closure.ImageFn.{Ghosts as ImageGhosts}
use Rattle.bulk_ops.specs.declared.stored.StoredPairs.{StoredPairs}
use Rattle.bulk_ops.specs.declared.query.Query.{Query}
use Rattle.bulk_ops.specs.declared.query.Query.TheVariants.{Count, Exists, ForAll, Find, Filter, MapValues, MapPairs, Fold}
use Rattle.bulk_ops.specs.declared.part.Part.{Part}
use Rattle.bulk_ops.specs.declared.part.Part.TheVariants as parts
use Rattle.bulk_work.proofs.Unions.{truth_of}
use Rattle.bulk_ops.proofs.Totals.{count_union, any_union, all_union, fold_union}
use Rattle.bulk_work.proofs.Made.{passing_union, values_union, in_left, in_right}
use Rattle.bulk_ops.proofs.Images.{image_union}

-- w has the images of the pairs of n, beside those that v has, by each meaning of the closure
abbrev pub HasMoreImages : {K V P : Type 0} {h : ImageGhosts P K V} → (K → K → Ordering) → StoredPairs K V P h → Map K V → Map K V → Map K V → Type 0
HasMoreImages {K} {V} {P} {h} R s n v w = (p : K → V → K × V) (m : Map K V) → MeansImages (h.gives s.call) p → IsImage R p m v → AreApart R m n → IsImage R p (union R m n) w

module _ {K V : Type 0} (R : K → K → Ordering) where
  left_sorted : (m n : Map K V) → AreApart R m n → T (is_sorted R m)
  left_sorted m n apart = truth_of _ apart.left

  right_sorted : (m n : Map K V) → AreApart R m n → T (is_sorted R n)
  right_sorted m n apart = truth_of _ apart.right

  module _ (I : Type 0) (o : IsTotalOrder R) where
    found_both : (p : K → V → Bool) (a b : Option (K × V)) (m n : Map K V) → AreApart R m n
        → answers {I = I} R (find p) m (Answer.found a) → answers {I = I} R (find p) n (Answer.found b) → answers {I = I} R (find p) (union R m n) (Answer.found (option_or a b))
    found_both p None None m n apart x y = any_union R o p m n (left_sorted m n apart) apart.apart ∙ (λ i. x i || y i)
    found_both p None (Some b) m n apart x y = (in_right R o m n b (left_sorted m n apart) apart.apart y.0, y.1)
    found_both p (Some a) b m n apart x y = (in_left R o m n a (left_sorted m n apart) apart.apart x.0, x.1)

module _ {K V C D M E P I : Type 0} {t : Ghosts C K V Bool} {f : Ghosts D K V V} {g : Ghosts E K V I} {h : ImageGhosts P K V} (combine : M → I → I → I) (unit_of : M → I) (R : K → K → Ordering) where
  abbrev Answered : Query K V C D M E P I t f g h → Map K V → Part K V I → Type 0
  Answered q m part = PartAnswers combine unit_of R q m part

  -- the query asks the question
  abbrev Asked : Query K V C D M E P I t f g h → Question K V I → Type 0
  Asked q z = Asks combine unit_of q z

  module _ (o : IsTotalOrder R) where
    -- what is joined of parts of a query
    abbrev Joined : Query K V C D M E P I t f g h → Part K V I → Part K V I → Part K V I → Type 0
    Joined q a b c = IsJoined R (Answered q) a b c

    count_answer : (s : _) (i j : ℕ) (m n : Map K V) → Answered (Count s) m (parts.Number i) → Answered (Count s) n (parts.Number j) → AreApart R m n
        → (z : Question K V I) → Asked (Count s) z → answers R z (union R m n) (Answer.number (i + j))
    count_answer s i j m n x y apart (count p) asks =
        omega (arith, x.answer (count p) asks, y.answer (count p) asks, count_union R o p m n (left_sorted R m n apart) apart.apart)
    count_answer s i j m n x y apart z asks = absurd asks

    exists_answer : (s : _) (a b : Bool) (m n : Map K V) → Answered (Exists s) m (parts.Truth a) → Answered (Exists s) n (parts.Truth b) → AreApart R m n
        → (z : Question K V I) → Asked (Exists s) z → answers R z (union R m n) (Answer.truth (a || b))
    exists_answer s a b m n x y apart (exists p) asks =
        (λ i. x.answer (exists p) asks i || y.answer (exists p) asks i) ∙ sym (any_union R o p m n (left_sorted R m n apart) apart.apart)
    exists_answer s a b m n x y apart z asks = absurd asks

    for_all_answer : (s : _) (a b : Bool) (m n : Map K V) → Answered (ForAll s) m (parts.Truth a) → Answered (ForAll s) n (parts.Truth b) → AreApart R m n
        → (z : Question K V I) → Asked (ForAll s) z → answers R z (union R m n) (Answer.truth (a && b))
    for_all_answer s a b m n x y apart (for_all p) asks =
        (λ i. x.answer (for_all p) asks i && y.answer (for_all p) asks i) ∙ sym (all_union R o p m n (left_sorted R m n apart) apart.apart)
    for_all_answer s a b m n x y apart z asks = absurd asks

    find_answer : (s : _) (a b : Option _) (m n : Map K V) → Answered (Find s) m (parts.Found a) → Answered (Find s) n (parts.Found b) → AreApart R m n
        → (z : Question K V I) → Asked (Find s) z → answers R z (union R m n) (Answer.found (option_or (option_map pair_of a) (option_map pair_of b)))
    find_answer s a b m n x y apart (find p) asks =
        found_both R I o p (option_map pair_of a) (option_map pair_of b) m n apart (x.answer (find p) asks) (y.answer (find p) asks)
    find_answer s a b m n x y apart z asks = absurd asks

    filter_answer : (s : _) (to : ℕ) (a b : Contents K V) (m n : Map K V) → Answered (Filter s to) m (parts.Made a) → Answered (Filter s to) n (parts.Made b) → AreApart R m n
        → (z : Question K V I) → Asked (Filter s to) z → answers R z (union R m n) (Answer.made (union R a.entries b.entries))
    filter_answer s to a b m n x y apart (filtered p h) asks =
        (λ i. union R (x.answer (filtered p h) asks i) (y.answer (filtered p h) asks i))
        ∙ sym (passing_union R o p m n (left_sorted R m n apart) (right_sorted R m n apart) apart.apart)
    filter_answer s to a b m n x y apart z asks = absurd asks

    values_answer : (s : _) (to : ℕ) (a b : Contents K V) (m n : Map K V) → Answered (MapValues s to) m (parts.Made a) → Answered (MapValues s to) n (parts.Made b) → AreApart R m n
        → (z : Question K V I) → Asked (MapValues s to) z → answers R z (union R m n) (Answer.made (union R a.entries b.entries))
    values_answer s to a b m n x y apart (mapped p h) asks =
        (λ i. union R (x.answer (mapped p h) asks i) (y.answer (mapped p h) asks i))
        ∙ sym (values_union R o p m n (left_sorted R m n apart) apart.apart)
    values_answer s to a b m n x y apart z asks = absurd asks

    pairs_answer : (exact : IsAntisymmetric R) (s : _) (to : ℕ) (a b : Contents K V) (y' z' : Map K V) (m n : Map K V) → IsMap R (union R a.entries b.entries)
        → Answered (MapPairs s to) m (parts.Images a y') → Answered (MapPairs s to) n (parts.Images b z') → AreApart R m n
        → (z : Question K V I) → Asked (MapPairs s to) z → answers R z (union R m n) (Answer.images (union R a.entries b.entries))
    pairs_answer exact s to a b y' z' m n sorted x y apart (paired p n') asks =
        let left : IsImage R p m a.entries = subst (λ l. IsImage R p m l) (sym x.kind.2) (x.answer (paired p n') asks) in
        let right : IsImage R p n b.entries = subst (λ l. IsImage R p n l) (sym y.kind.2) (y.answer (paired p n') asks) in
        image_union R exact o p m n a.entries b.entries apart sorted left right
    pairs_answer exact s to a b y' z' m n sorted x y apart z asks = absurd asks

    at : (q r : Query K V C D M E P I t f g h) (a b c d e : Part K V I) → q ≡ r → a ≡ c → b ≡ d → Joined r c d e → Joined q a b e
    at q r a b c d e is first second j =
        subst (λ x. Joined x a b e) (sym is) (subst (λ x. Joined r x b e) (sym first) (subst (λ x. Joined r c x e) (sym second) j))

    pub count_joined : (q : Query K V C D M E P I t f g h) (s : _) (a b : Part K V I) (i j : ℕ) → q ≡ Count s → a ≡ parts.Number i → b ≡ parts.Number j → Joined q a b (parts.Number (i + j))
    count_joined q s a b i j is first second =
        at q (Count s) a b (parts.Number i) (parts.Number j) (parts.Number (i + j)) is first second
        (λ m n x y apart. record { kind = tt; answer = count_answer s i j m n x y apart })

    pub exists_joined : (q : Query K V C D M E P I t f g h) (s : _) (a b : Part K V I) (i j k : Bool) → q ≡ Exists s → a ≡ parts.Truth i → b ≡ parts.Truth j → k ≡ (i || j) → Joined q a b (parts.Truth k)
    exists_joined q s a b i j k is first second e =
        at q (Exists s) a b (parts.Truth i) (parts.Truth j) (parts.Truth k) is first second
        (λ m n x y apart. record { kind = tt; answer = λ z asks. subst (λ k. answers R z (union R m n) (Answer.truth k)) (sym e) (exists_answer s i j m n x y apart z asks) })

    pub for_all_joined : (q : Query K V C D M E P I t f g h) (s : _) (a b : Part K V I) (i j k : Bool) → q ≡ ForAll s → a ≡ parts.Truth i → b ≡ parts.Truth j → k ≡ (i && j) → Joined q a b (parts.Truth k)
    for_all_joined q s a b i j k is first second e =
        at q (ForAll s) a b (parts.Truth i) (parts.Truth j) (parts.Truth k) is first second
        (λ m n x y apart. record { kind = tt; answer = λ z asks. subst (λ k. answers R z (union R m n) (Answer.truth k)) (sym e) (for_all_answer s i j m n x y apart z asks) })

    pub find_joined : (q : Query K V C D M E P I t f g h) (s : _) (a b : Part K V I) (i j k : Option _) → q ≡ Find s → a ≡ parts.Found i → b ≡ parts.Found j
        → option_map pair_of k ≡ option_or (option_map pair_of i) (option_map pair_of j) → Joined q a b (parts.Found k)
    find_joined q s a b i j k is first second e =
        at q (Find s) a b (parts.Found i) (parts.Found j) (parts.Found k) is first second
        (λ m n x y apart. record { kind = tt; answer = λ z asks. subst (λ k. answers R z (union R m n) (Answer.found k)) (sym e) (find_answer s i j m n x y apart z asks) })

    pub filter_joined : (q : Query K V C D M E P I t f g h) (s : _) (to : ℕ) (a b : Part K V I) (i j k : Contents K V) → q ≡ Filter s to → a ≡ parts.Made i → b ≡ parts.Made j
        → k.entries ≡ union R i.entries j.entries → k.limit ≡ i.limit → k.stamp ≡ max i.stamp j.stamp → Joined q a b (parts.Made k)
    filter_joined q s to a b i j k is first second entries limit stamp =
        at q (Filter s to) a b (parts.Made i) (parts.Made j) (parts.Made k) is first second
        (λ m n x y apart. record {
          kind = (limit ∙ x.kind.0, stamp ∙ (λ i. max (x.kind.1 i) (y.kind.1 i)));
          answer = λ z asks. subst (λ es. answers R z (union R m n) (Answer.made es)) (sym entries) (filter_answer s to i j m n x y apart z asks);
        })

    pub values_joined : (q : Query K V C D M E P I t f g h) (s : _) (to : ℕ) (a b : Part K V I) (i j k : Contents K V) → q ≡ MapValues s to → a ≡ parts.Made i → b ≡ parts.Made j
        → k.entries ≡ union R i.entries j.entries → k.limit ≡ i.limit → k.stamp ≡ max i.stamp j.stamp → Joined q a b (parts.Made k)
    values_joined q s to a b i j k is first second entries limit stamp =
        at q (MapValues s to) a b (parts.Made i) (parts.Made j) (parts.Made k) is first second
        (λ m n x y apart. record {
          kind = (limit ∙ x.kind.0, stamp ∙ (λ i. max (x.kind.1 i) (y.kind.1 i)));
          answer = λ z asks. subst (λ es. answers R z (union R m n) (Answer.made es)) (sym entries) (values_answer s to i j m n x y apart z asks);
        })

    pub pairs_joined : (exact : IsAntisymmetric R) (q : Query K V C D M E P I t f g h) (s : _) (to : ℕ) (a b : Part K V I) (i j k : Contents K V) (y' z' w : Map K V) → q ≡ MapPairs s to → a ≡ parts.Images i y' → b ≡ parts.Images j z'
        → IsMap R w → w ≡ union R i.entries j.entries → k.limit ≡ MOST_PAIRS → k.stamp ≡ 0 → k.entries ≡ w → Joined q a b (parts.Images k w)
    pairs_joined exact q s to a b i j k y' z' w is first second sorted entries limit stamp same =
        at q (MapPairs s to) a b (parts.Images i y') (parts.Images j z') (parts.Images k w) is first second
        (λ m n x y apart. record {
          kind = (limit, stamp, same);
          answer = λ z asks. subst (λ es. answers R z (union R m n) (Answer.images es)) (sym entries) (pairs_answer exact s to i j y' z' m n (subst (IsMap R) entries sorted) x y apart z asks);
        })

    more_answer : (s : StoredPairs K V P h) (to : ℕ) (i : Contents K V) (y' w : Map K V) (m n : Map K V) → HasMoreImages R s n i.entries w → Answered (MapPairs s to) m (parts.Images i y') → AreApart R m n
        → (z : Question K V I) → Asked (MapPairs s to) z → answers R z (union R m n) (Answer.images w)
    more_answer s to i y' w m n more x apart (paired p n') asks =
        more p m asks.0 (subst (λ l. IsImage R p m l) (sym x.kind.2) (x.answer (paired p n') asks)) apart
    more_answer s to i y' w m n more x apart z asks = absurd asks

    pub more_joined : (q : Query K V C D M E P I t f g h) (s : StoredPairs K V P h) (to : ℕ) (a : Part K V I) (i k : Contents K V) (y' w n : Map K V) → q ≡ MapPairs s to → a ≡ parts.Images i y'
        → HasMoreImages R s n i.entries w → k.limit ≡ MOST_PAIRS → k.stamp ≡ 0 → k.entries ≡ w → IsJoinedMap R (Answered q) a n (parts.Images k w)
    more_joined q s to a i k y' w n is are more limit stamp same m x apart =
        let was : Answered (MapPairs s to) m (parts.Images i y') = subst (λ a. Answered (MapPairs s to) m a) are (subst (λ q. Answered q m a) is x) in
        subst (λ q. Answered q (union R m n) (parts.Images k w)) (sym is)
        (record { kind = (limit, stamp, same); answer = more_answer s to i y' w m n more was apart })

    module _ (is_item : M → I → Type 0) (assoc : (m : M) → IsAssociative (combine m)) (comm : (m : M) → IsCommutative (combine m))
        (neutral : (m : M) → IsNeutral (combine m) (is_item m) (unit_of m)) (closed : (m : M) → IsClosed (combine m) (is_item m)) (unit_is : (m : M) → is_item m (unit_of m)) where
      fold_answer : (w : M) (s : _) (a b : I) (m n : Map K V) → Answered (Fold w s) m (parts.Item a) → Answered (Fold w s) n (parts.Item b) → AreApart R m n
          → (z : Question K V I) → Asked (Fold w s) z → answers R z (union R m n) (Answer.item (combine w a b))
      fold_answer w s a b m n x y apart (fold op unit p) asks =
          let same : folded op unit ≡ folded (combine w) (unit_of w) = λ i. folded (asks.0 i) (asks.1 i) in
          let first = x.answer (fold op unit p) asks ∙ (λ i. same i (items_of p m)) in
          let second = y.answer (fold op unit p) asks ∙ (λ i. same i (items_of p n)) in
          (λ i. combine w (first i) (second i))
          ∙ sym (fold_union R o (combine w) (is_item w) (unit_of w) (assoc w) (comm w) (neutral w) (closed w) (unit_is w) p m n (left_sorted R m n apart) apart.apart)
          ∙ (λ i. sym same i (items_of p (union R m n)))
      fold_answer w s a b m n x y apart z asks = absurd asks

      pub fold_joined : (q : Query K V C D M E P I t f g h) (w : M) (s : _) (a b : Part K V I) (i j k : I) → q ≡ Fold w s → a ≡ parts.Item i → b ≡ parts.Item j
          → k ≡ combine w i j → Joined q a b (parts.Item k)
      fold_joined q w s a b i j k is first second e =
          at q (Fold w s) a b (parts.Item i) (parts.Item j) (parts.Item k) is first second
          (λ m n x y apart. record { kind = tt; answer = λ z asks. subst (λ k. answers R z (union R m n) (Answer.item k)) (sym e) (fold_answer w s i j m n x y apart z asks) })
