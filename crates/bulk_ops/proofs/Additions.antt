-- Parts that a pair is added to answer the map with the pair.
use Rattle.std.proofs.Common.{◌≡◌, ℕ, ◌+◌, ◌≤◌, Bool, true, false, ◌&&◌, ◌||◌, cond, length, [], ◌∷◌, refl, sym, ap, subst, ◌∙◌, arith, Option, None, Some, zero}
use Rattle.std.specs.Prelude.{option_map}
use Rattle.std.specs.declared.cmp.Ordering.{Ordering}
use mir.Val.{bool_byte}
use Rattle.std.specs.Cmp.{IsTotalOrder}
use Rattle.versions.specs.Map.{Map, IsAntisymmetric, IsMap, union, with_pair}
use Rattle.versions.specs.Contents.{Contents}
use Rattle.combiner.specs.Unions.{AreApart}
use Rattle.combiner.specs.Bulks.{IsAdded}
use Rattle.combiner.specs.Monoids.{IsAssociative, IsCommutative, IsNeutral, IsClosed, folded}
use Rattle.bulk_ops.specs.Meanings.{Means, MeansImages}
use Rattle.bulk_work.specs.Answers.{Question, count, exists, for_all, find, filtered, mapped, paired, fold, Answer, answers, IsImage, passes, passing, items_of}
use Rattle.bulk_work.specs.Pairs.{pair_of}
use Rattle.bulk_ops.specs.Parts.{IsPut, IsImagePut}
use Rattle.bulk_ops.specs.Queries.{Asks, PartAnswers}
use Rattle.bulk_ops.specs.declared.closure.PairFn.{Ghosts}
use Rattle.bulk_ops.specs.declared.closure.ImageFn.{Ghosts as ImageGhosts}
use Rattle.bulk_ops.specs.declared.stored.Stored.{Stored}
use Rattle.bulk_ops.specs.declared.stored.StoredPairs.{StoredPairs}
use Rattle.bulk_ops.specs.declared.query.Query.{Query}
use Rattle.bulk_ops.specs.declared.query.Query.TheVariants.{Count, Exists, ForAll, Find, Filter, MapValues, MapPairs, Fold}
use Rattle.bulk_ops.specs.declared.part.Part.{Part}
use Rattle.bulk_ops.specs.declared.part.Part.TheVariants as parts
use Rattle.bulk_work.proofs.Unions.{truth_of}
use Rattle.std.specs.List.{list_any}
use Rattle.bulk_ops.proofs.Totals.{all_union, any_union, count_union, fold_union, folded_is_item}
use Rattle.bulk_work.proofs.Made.{in_left, in_right, passing_union, values_union}
use Rattle.bulk_ops.proofs.Images.{image_one, image_union}

or_false : (b : Bool) → b ≡ (b || false)
or_false true = refl
or_false false = refl

and_true : (b : Bool) → b ≡ (b && true)
and_true true = refl
and_true false = refl

-- a test as a number
pub number_of_test : (b : Bool) → bool_byte b ≡ cond b 1 0
number_of_test true = refl
number_of_test false = refl

pub at_most_one : (b : Bool) (n : ℕ) → n ≡ bool_byte b → n ≤ 1
at_most_one true n e = omega arith
at_most_one false n e = omega arith

-- a put at equal keys and values
pub put_at : {K V I : Type 0} (R : K → K → Ordering) (a c : Part K V I) (j k : K) (u v : V) → IsPut R a j u c → j ≡ k → u ≡ v → IsPut R a k v c
put_at R a c j k u v put e h = subst (λ v. IsPut R a k v c) h (subst (λ k. IsPut R a k u c) e put)

-- any one pair is apart from no pairs
pub apart_from_none : {K V : Type 0} (R : K → K → Ordering) (x : K × V) → AreApart R (x ∷ []) []
apart_from_none R x = record { left = refl; right = refl; apart = λ k e. refl; few = omega arith }

-- of one pair a test counts it or none
one_passes : {A : Type 0} (x : A) (b : Bool) → cond b 1 0 ≡ length (cond b (x ∷ []) [])
one_passes x true = refl
one_passes x false = refl

module _ {K V R C : Type 0} {t : Ghosts C K V R} (k : K) (v : V) where
  -- what the closure means gives r at the pair
  abbrev Says : Stored K V R C t → R → Type 0
  Says s r = (p : K → V → R) → Means (t.gives s.call) p → r ≡ p k v

module _ {K V P : Type 0} {h : ImageGhosts P K V} (k : K) (v : V) where
  -- r is the image that the closure means at the pair
  abbrev pub IsImageOf : StoredPairs K V P h → K × V → Type 0
  IsImageOf s r = (p : K → V → K × V) → MeansImages (h.gives s.call) p → r ≡ p k v

module _ {K V : Type 0} (R : K → K → Ordering) (o : IsTotalOrder R) (k : K) (v : V) where
  -- what was found in a map is found with a pair that does not pass
  kept_found : (I : Type 0) (p : K → V → Bool) (m : Map K V) (x : Option (K × V)) → false ≡ p k v → AreApart R ((k, v) ∷ []) m
      → answers {I = I} R (find p) m (Answer.found x) → answers {I = I} R (find p) (with_pair R m k v) (Answer.found x)
  kept_found I p m None misses apart y =
      any_union R o p ((k, v) ∷ []) m (truth_of _ apart.left) apart.apart ∙ (λ i. (sym misses i || false) || list_any (passes p) m) ∙ y
  kept_found I p m (Some x) misses apart y = (in_right R o ((k, v) ∷ []) m x (truth_of _ apart.left) apart.apart y.0, y.1)

  -- the pairs that pass once the pair is put
  passing_with : (p : K → V → Bool) (b : Bool) (m : Map K V) → b ≡ p k v → AreApart R ((k, v) ∷ []) m → passing p (with_pair R m k v) ≡ union R (cond b ((k, v) ∷ []) []) (passing p m)
  passing_with p b m says apart =
      passing_union R o p ((k, v) ∷ []) m (truth_of _ apart.left) (truth_of _ apart.right) apart.apart ∙ (λ i. union R (cond (sym says i) ((k, v) ∷ []) []) (passing p m))

  module _ {I : Type 0} (op : I → I → I) (is_item : I → Type 0) (unit : I)
      (assoc : IsAssociative op) (comm : IsCommutative op) (neutral : IsNeutral op is_item unit) (closed : IsClosed op is_item) (unit_is : is_item unit) where
    -- the items of a map with one pair more
    fold_with : (p : K → V → I) (m : Map K V) → AreApart R ((k, v) ∷ []) m → folded op unit (items_of p (with_pair R m k v)) ≡ op (p k v) (folded op unit (items_of p m))
    fold_with p m apart =
        let rest = folded op unit (items_of p m) in
        let item = folded_is_item op is_item unit assoc comm neutral closed unit_is (items_of p m) in
        fold_union R o op is_item unit assoc comm neutral closed unit_is p ((k, v) ∷ []) m (truth_of _ apart.left) apart.apart
        ∙ assoc (p k v) unit rest
        ∙ ap (op (p k v)) (comm unit rest ∙ neutral rest item)

module _ {K V C D M E P I : Type 0} {t : Ghosts C K V Bool} {f : Ghosts D K V V} {g : Ghosts E K V I} {h : ImageGhosts P K V} (combine : M → I → I → I) (unit_of : M → I) (R : K → K → Ordering) where
  abbrev Answered : Query K V C D M E P I t f g h → Map K V → Part K V I → Type 0
  Answered q m part = PartAnswers combine unit_of R q m part

  abbrev Asked : Query K V C D M E P I t f g h → Question K V I → Type 0
  Asked q z = Asks combine unit_of q z

  module _ (o : IsTotalOrder R) (k : K) (v : V) where
    abbrev Added : Query K V C D M E P I t f g h → Part K V I → Part K V I → Type 0
    Added q a c = IsAdded R (λ m part. PartAnswers combine unit_of R q m part) a k v c

    count_with : (s : Stored K V Bool C t) (b : Bool) (j : ℕ) (m : Map K V) → Says k v s b → Answered (Count s) m (parts.Number j) → AreApart R ((k, v) ∷ []) m
        → (z : Question K V I) → Asked (Count s) z → answers R z (with_pair R m k v) (Answer.number (cond b 1 0 + j))
    count_with s b j m says y apart (count p) asks =
        (λ i. cond (says p asks i) 1 0 + y.answer (count p) asks i)
        ∙ (λ i. one_passes {A = K × V} (k, v) (p k v) i + length (passing p m))
        ∙ sym (count_union R o p ((k, v) ∷ []) m (truth_of _ apart.left) apart.apart)
    count_with s b j m says y apart z asks = absurd asks

    -- one more is counted where the pair passes
    pub count_added : (q : Query K V C D M E P I t f g h) (s : Stored K V Bool C t) (b : Bool) (a : Part K V I) (i j : ℕ) → q ≡ Count s → Says k v s b → i ≡ cond b 1 0 → a ≡ parts.Number j → Added q a (parts.Number (i + j))
    count_added q s b a i j is says e second m y apart =
        let was : Answered (Count s) m (parts.Number j) = subst (λ a. Answered (Count s) m a) second (subst (λ q. Answered q m a) is y) in
        subst (λ q. Answered q (with_pair R m k v) (parts.Number (i + j))) (sym is)
        (record { kind = tt; answer = λ z asks. subst (λ n. answers R z (with_pair R m k v) (Answer.number (n + j))) (sym e) (count_with s b j m says was apart z asks) })

    exists_with : (s : Stored K V Bool C t) (i j : Bool) (m : Map K V) → Says k v s i → Answered (Exists s) m (parts.Truth j) → AreApart R ((k, v) ∷ []) m
        → (z : Question K V I) → Asked (Exists s) z → answers R z (with_pair R m k v) (Answer.truth (i || j))
    exists_with s i j m says y apart (exists p) asks =
        (λ d. or_false (says p asks d) d || y.answer (exists p) asks d) ∙ sym (any_union R o p ((k, v) ∷ []) m (truth_of _ apart.left) apart.apart)
    exists_with s i j m says y apart z asks = absurd asks

    -- some pair passes where this one does, or one did
    pub exists_added : (q : Query K V C D M E P I t f g h) (s : Stored K V Bool C t) (i j r : Bool) (a : Part K V I) → q ≡ Exists s → Says k v s i → a ≡ parts.Truth j → r ≡ (i || j) → Added q a (parts.Truth r)
    exists_added q s i j r a is says second e m y apart =
        let was : Answered (Exists s) m (parts.Truth j) = subst (λ a. Answered (Exists s) m a) second (subst (λ q. Answered q m a) is y) in
        subst (λ q. Answered q (with_pair R m k v) (parts.Truth r)) (sym is)
        (record { kind = tt; answer = λ z asks. subst (λ b. answers R z (with_pair R m k v) (Answer.truth b)) (sym e) (exists_with s i j m says was apart z asks) })

    for_all_with : (s : Stored K V Bool C t) (i j : Bool) (m : Map K V) → Says k v s i → Answered (ForAll s) m (parts.Truth j) → AreApart R ((k, v) ∷ []) m
        → (z : Question K V I) → Asked (ForAll s) z → answers R z (with_pair R m k v) (Answer.truth (i && j))
    for_all_with s i j m says y apart (for_all p) asks =
        (λ d. and_true (says p asks d) d && y.answer (for_all p) asks d) ∙ sym (all_union R o p ((k, v) ∷ []) m (truth_of _ apart.left) apart.apart)
    for_all_with s i j m says y apart z asks = absurd asks

    -- every pair passes where this one does, and all did
    pub for_all_added : (q : Query K V C D M E P I t f g h) (s : Stored K V Bool C t) (i j r : Bool) (a : Part K V I) → q ≡ ForAll s → Says k v s i → a ≡ parts.Truth j → r ≡ (i && j) → Added q a (parts.Truth r)
    for_all_added q s i j r a is says second e m y apart =
        let was : Answered (ForAll s) m (parts.Truth j) = subst (λ a. Answered (ForAll s) m a) second (subst (λ q. Answered q m a) is y) in
        subst (λ q. Answered q (with_pair R m k v) (parts.Truth r)) (sym is)
        (record { kind = tt; answer = λ z asks. subst (λ b. answers R z (with_pair R m k v) (Answer.truth b)) (sym e) (for_all_with s i j m says was apart z asks) })

    find_hit : (s : Stored K V Bool C t) (x : _) (a : Part K V I) (m : Map K V) → pair_of x ≡ (k, v) → Says k v s true → Answered (Find s) m a → AreApart R ((k, v) ∷ []) m
        → (z : Question K V I) → Asked (Find s) z → answers R z (with_pair R m k v) (Answer.found (Some (pair_of x)))
    find_hit s x a m is says y apart (find p) asks =
        (in_left R o ((k, v) ∷ []) m (pair_of x) (truth_of _ apart.left) apart.apart (zero, omega arith, sym is), ap (passes p) is ∙ sym (says p asks))
    find_hit s x a m is says y apart z asks = absurd asks

    -- the pair passes, and is found
    pub find_added : (q : Query K V C D M E P I t f g h) (s : Stored K V Bool C t) (b : Bool) (x : _) (a : Part K V I) → q ≡ Find s → b ≡ true → Says k v s b
        → pair_of x ≡ (k, v) → Added q a (parts.Found (Some x))
    find_added q s b x a is e says same m y apart =
        subst (λ q. Answered q (with_pair R m k v) (parts.Found (Some x))) (sym is)
        (record { kind = tt; answer = find_hit s x a m same (λ p means. sym e ∙ says p means) (subst (λ q. Answered q m a) is y) apart })

    find_miss : (s : Stored K V Bool C t) (x : Option _) (m : Map K V) → Answered (Find s) m (parts.Found x) → Says k v s false → AreApart R ((k, v) ∷ []) m
        → (z : Question K V I) → Asked (Find s) z → answers R z (with_pair R m k v) (Answer.found (option_map pair_of x))
    find_miss s x m y says apart (find p) asks = kept_found R o k v I p m (option_map pair_of x) (says p asks) apart (y.answer (find p) asks)
    find_miss s x m y says apart z asks = absurd asks

    find_kept : (s : Stored K V Bool C t) (a : Part K V I) (m : Map K V) → Says k v s false → Answered (Find s) m a → AreApart R ((k, v) ∷ []) m → Answered (Find s) (with_pair R m k v) a
    find_kept s (parts.Found x) m says y apart = record { kind = tt; answer = find_miss s x m y says apart }
    find_kept s a m says y apart = absurd y.kind

    -- the pair does not pass, and what was found stays
    pub find_passed : (q : Query K V C D M E P I t f g h) (s : Stored K V Bool C t) (b : Bool) (a : Part K V I) → q ≡ Find s → b ≡ false → Says k v s b → Added q a a
    find_passed q s b a is e says m y apart =
        subst (λ q. Answered q (with_pair R m k v) a) (sym is) (find_kept s a m (λ p means. sym e ∙ says p means) (subst (λ q. Answered q m a) is y) apart)

    filter_with : (s : Stored K V Bool C t) (to : ℕ) (b : Bool) (v' w : Contents K V) (m : Map K V) → Says k v s b → w.entries ≡ union R (cond b ((k, v) ∷ []) []) v'.entries
        → Answered (Filter s to) m (parts.Made v') → AreApart R ((k, v) ∷ []) m → (z : Question K V I) → Asked (Filter s to) z → answers R z (with_pair R m k v) (Answer.made w.entries)
    filter_with s to b v' w m says e y apart (filtered p h) asks =
        e ∙ (λ i. union R (cond b ((k, v) ∷ []) []) (y.answer (filtered p h) asks i)) ∙ sym (passing_with R o k v p b m (says p asks.0) apart)
    filter_with s to b v' w m says e y apart z asks = absurd asks

    filter_made : (s : Stored K V Bool C t) (to : ℕ) (a c : Part K V I) (m : Map K V) → Says k v s true → IsPut R a k v c → Answered (Filter s to) m a → AreApart R ((k, v) ∷ []) m
        → Answered (Filter s to) (with_pair R m k v) c
    filter_made s to (parts.Made v') (parts.Made w) m says put y apart =
        record { kind = (put.1 ∙ y.kind.0, put.2 ∙ y.kind.1); answer = filter_with s to true v' w m says put.0 y apart }
    filter_made s to a c m says put y apart = absurd put

    -- the pair passes, and is put into the map
    pub filter_added : (q : Query K V C D M E P I t f g h) (s : Stored K V Bool C t) (to : ℕ) (b : Bool) (a c : Part K V I) → q ≡ Filter s to → b ≡ true → Says k v s b
        → IsPut R a k v c → Added q a c
    filter_added q s to b a c is e says put m y apart =
        subst (λ q. Answered q (with_pair R m k v) c) (sym is) (filter_made s to a c m (λ p means. sym e ∙ says p means) put (subst (λ q. Answered q m a) is y) apart)

    filter_kept : (s : Stored K V Bool C t) (to : ℕ) (a : Part K V I) (m : Map K V) → Says k v s false → Answered (Filter s to) m a → AreApart R ((k, v) ∷ []) m → Answered (Filter s to) (with_pair R m k v) a
    filter_kept s to (parts.Made w) m says y apart = record { kind = y.kind; answer = filter_with s to false w w m says refl y apart }
    filter_kept s to a m says y apart = absurd y.kind

    -- the pair does not pass, and the map stays
    pub filter_passed : (q : Query K V C D M E P I t f g h) (s : Stored K V Bool C t) (to : ℕ) (b : Bool) (a : Part K V I) → q ≡ Filter s to → b ≡ false → Says k v s b → Added q a a
    filter_passed q s to b a is e says m y apart =
        subst (λ q. Answered q (with_pair R m k v) a) (sym is) (filter_kept s to a m (λ p means. sym e ∙ says p means) (subst (λ q. Answered q m a) is y) apart)

    values_with : (s : Stored K V V D f) (to : ℕ) (r : V) (v' w : Contents K V) (m : Map K V) → Says k v s r → w.entries ≡ with_pair R v'.entries k r
        → Answered (MapValues s to) m (parts.Made v') → AreApart R ((k, v) ∷ []) m → (z : Question K V I) → Asked (MapValues s to) z → answers R z (with_pair R m k v) (Answer.made w.entries)
    values_with s to r v' w m says e y apart (mapped p h) asks =
        e ∙ (λ i. with_pair R (y.answer (mapped p h) asks i) k (says p asks.0 i)) ∙ sym (values_union R o p ((k, v) ∷ []) m (truth_of _ apart.left) apart.apart)
    values_with s to r v' w m says e y apart z asks = absurd asks

    values_made : (s : Stored K V V D f) (to : ℕ) (r : V) (a c : Part K V I) (m : Map K V) → Says k v s r → IsPut R a k r c → Answered (MapValues s to) m a → AreApart R ((k, v) ∷ []) m
        → Answered (MapValues s to) (with_pair R m k v) c
    values_made s to r (parts.Made v') (parts.Made w) m says put y apart =
        record { kind = (put.1 ∙ y.kind.0, put.2 ∙ y.kind.1); answer = values_with s to r v' w m says put.0 y apart }
    values_made s to r a c m says put y apart = absurd put

    -- the key is put with its new value
    pub values_added : (q : Query K V C D M E P I t f g h) (s : Stored K V V D f) (to : ℕ) (r : V) (a c : Part K V I) → q ≡ MapValues s to → Says k v s r → IsPut R a k r c → Added q a c
    values_added q s to r a c is says put m y apart =
        subst (λ q. Answered q (with_pair R m k v) c) (sym is) (values_made s to r a c m says put (subst (λ q. Answered q m a) is y) apart)

    pairs_with : (exact : IsAntisymmetric R) (s : StoredPairs K V P h) (to : ℕ) (r : K × V) (v' : Contents K V) (w' z' : Map K V) (m : Map K V) → IsImageOf k v s r → z' ≡ with_pair R v'.entries r.0 r.1 → IsMap R z'
        → Answered (MapPairs s to) m (parts.Images v' w') → AreApart R ((k, v) ∷ []) m → (z : Question K V I) → Asked (MapPairs s to) z → answers R z (with_pair R m k v) (Answer.images z')
    pairs_with exact s to r v' w' z' m says e sorted y apart (paired p n) asks =
        let was : IsImage R p m v'.entries = subst (λ n. IsImage R p m n) (sym y.kind.2) (y.answer (paired p n) asks) in
        subst (λ es. answers {I = I} R (paired p n) (with_pair R m k v) (Answer.images es)) (sym e)
        (image_union R exact o p ((k, v) ∷ []) m (r ∷ []) v'.entries apart (subst (IsMap R) e sorted) (image_one R p k v r (says p asks.0)) was)
    pairs_with exact s to r v' w' z' m says e sorted y apart z asks = absurd asks

    pairs_made : (exact : IsAntisymmetric R) (s : StoredPairs K V P h) (to : ℕ) (r : K × V) (a c : Part K V I) (m : Map K V) → IsImageOf k v s r → IsImagePut R a r.0 r.1 c
        → Answered (MapPairs s to) m a → AreApart R ((k, v) ∷ []) m → Answered (MapPairs s to) (with_pair R m k v) c
    pairs_made exact s to r (parts.Images v' w') (parts.Images y' z') m says put y apart =
        record { kind = (put.2, put.3, put.4); answer = pairs_with exact s to r v' w' z' m says put.0 put.1 y apart }
    pairs_made exact s to r a c m says put y apart = absurd put

    -- the image is put into the map
    pub pairs_added : (exact : IsAntisymmetric R) (q : Query K V C D M E P I t f g h) (s : StoredPairs K V P h) (to : ℕ) (r : K × V) (a c : Part K V I) → q ≡ MapPairs s to → IsImageOf k v s r
        → IsImagePut R a r.0 r.1 c → Added q a c
    pairs_added exact q s to r a c is says put m y apart =
        subst (λ q. Answered q (with_pair R m k v) c) (sym is) (pairs_made exact s to r a c m says put (subst (λ q. Answered q m a) is y) apart)

    module _ (is_item : M → I → Type 0) (assoc : (m : M) → IsAssociative (combine m)) (comm : (m : M) → IsCommutative (combine m))
        (neutral : (m : M) → IsNeutral (combine m) (is_item m) (unit_of m)) (closed : (m : M) → IsClosed (combine m) (is_item m)) (unit_is : (m : M) → is_item m (unit_of m)) where
      fold_one : (w : M) (s : Stored K V I E g) (i a : I) (m : Map K V) → Says k v s i → Answered (Fold w s) m (parts.Item a) → AreApart R ((k, v) ∷ []) m
          → (z : Question K V I) → Asked (Fold w s) z → answers R z (with_pair R m k v) (Answer.item (combine w i a))
      fold_one w s i a m says y apart (fold op unit p) asks =
          let same : folded op unit ≡ folded (combine w) (unit_of w) = λ i. folded (asks.0 i) (asks.1 i) in
          let was = y.answer (fold op unit p) asks ∙ (λ i. same i (items_of p m)) in
          (λ j. combine w (says p asks.2 j) (was j)) ∙ sym (fold_with R o k v (combine w) (is_item w) (unit_of w) (assoc w) (comm w) (neutral w) (closed w) (unit_is w) p m apart) ∙ (λ i. sym same i (items_of p (with_pair R m k v)))
      fold_one w s i a m says y apart z asks = absurd asks

      pub fold_added : (q : Query K V C D M E P I t f g h) (w : M) (s : Stored K V I E g) (i j r : I) (a : Part K V I) → q ≡ Fold w s → Says k v s i → a ≡ parts.Item j → r ≡ combine w i j
          → Added q a (parts.Item r)
      fold_added q w s i j r a is says second e m y apart =
          let was : Answered (Fold w s) m (parts.Item j) = subst (λ a. Answered (Fold w s) m a) second (subst (λ q. Answered q m a) is y) in
          subst (λ q. Answered q (with_pair R m k v) (parts.Item r)) (sym is)
          (record { kind = tt; answer = λ z asks. subst (λ r. answers R z (with_pair R m k v) (Answer.item r)) (sym e) (fold_one w s i j m says was apart z asks) })
