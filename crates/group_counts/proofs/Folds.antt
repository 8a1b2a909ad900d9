-- Items by groups of two maps together, and of a map with one pair more.
use Rattle.std.proofs.Common.{◌≡◌, ℕ, zero, suc, ◌+◌, ◌≤◌, ◌<◌, Bool, true, false, cond, length, List, [], ◌∷◌, map, Option, Some, None, refl, sym, ap, subst, ◌∙◌, arith}
use Rattle.std.proofs.Math.Bridge.{le_prop}
use Rattle.std.proofs.Math.Logic.{∥∥₁_elim}
use Rattle.std.proofs.Math.Nat.{ℕ_set}
use Rattle.std.proofs.lemmas.List.{length-map}
use Rattle.std.specs.Cmp.{IsTotalOrder}
use Rattle.std.specs.Option.{unwrap_or}
use Rattle.std.specs.Ordering.{eq_by_cmp}
use Rattle.std.specs.FinMap.Entries.{by_order, find-put, find_tied}
use Rattle.std.specs.declared.cmp.Ordering.{Ordering}
use Rattle.std.specs.declared.cmp.Ordering.TheVariants.{Less, Equal, Greater}
use Rattle.trie_shape.specs.Map.{IsAntisymmetric}
use Rattle.versions.specs.Contents.{Contents}
use Rattle.versions.specs.Map.{Map, union, value_at, with_pair}
use Rattle.versions.specs.declared.version.TheConstants.{MOST_PAIRS}
use Rattle.combiner.specs.Bulks.{CanAdd, CanJoin, IsAdded, IsJoined}
use Rattle.combiner.specs.Monoids.{IsAssociative, IsClosed, IsCommutative, IsNeutral, folded}
use Rattle.combiner.specs.Unions.{AreApart}
use Rattle.bulk_work.proofs.Unions.{truth_of}
use Rattle.bulk_work.specs.Answers.{items_of, passing}
use Rattle.bulk_ops.proofs.Totals.{count_union, fold_union, folded_is_item, length_union}
use Rattle.bulk_ops.specs.Meanings.{Means}
use Rattle.group_counts.specs.Sums.{IsCombined, IsGroupFold, combined, folded_any, items_in, with_item}
use Rattle.group_counts.proofs.Joins.{equal_of}
use Rattle.group_counts.proofs.Naming.{Names, named_both, named_more, named_one, not_there, there_both, there_more, there_one}
use Rattle.std.specs.Prelude.{IsSome}

-- a put makes one pair more at most
pub length_put : {G I : Type 0} (R : G → G → Ordering) (g : G) (a : I) (m : Map G I) → length (with_pair R m g a) ≤ length m + 1
length_put R g a [] = omega arith
length_put R g a (x ∷ m) =
    elim (R g x.0) as (λ o. length (by_order o ((g, a) ∷ x ∷ m) ((x.0, a) ∷ m) (x ∷ with_pair R m g a)) ≤ length (x ∷ m) + 1) [
      | Less ↦ omega arith
      | Equal ↦ omega arith
      | Greater ↦ omega (arith, length_put R g a m)
    ]

module _ {I : Type 0} (op : I → I → I) (unit : I) where
  -- what all items come to, also where there are none
  any_or : (xs : List I) → unwrap_or (folded_any op unit xs) unit ≡ folded op unit xs
  any_or [] = refl
  any_or (x ∷ xs) = refl

  -- the items of one pair
  one_any : {A : Type 0} (i : A → I) (x : A) (b : Bool) → cond b (Some (op (i x) unit)) None ≡ folded_any op unit (map i (cond b (x ∷ []) []))
  one_any i x true = refl
  one_any i x false = refl

  module _ {G : Type 0} (R : G → G → Ordering) (o : IsTotalOrder R) where
    -- what is to come, and what there is so far, with one group more of what was to come
    pub combined_step : (x : G × I) (rest : List (G × I)) (sums : Map G I) → value_at R rest x.0 ≡ None → (q : G)
        → combined op unit (value_at R rest q) (value_at R (with_item op unit R sums x.0 x.1) q) ≡ combined op unit (value_at R (x ∷ rest) q) (value_at R sums q)
    combined_step x rest sums none q =
        let next : I = op x.1 (unwrap_or (value_at R sums x.0) unit) in
        ap (combined op unit (value_at R rest q)) (find-put R o q x.0 next sums)
        ∙ elim (eq_by_cmp R q x.0) as (λ (b : Bool). eq_by_cmp R q x.0 ≡ b → combined op unit (value_at R rest q) (cond b (Some next) (value_at R sums q)) ≡ combined op unit (cond b (Some x.1) (value_at R rest q)) (value_at R sums q)) [
          | true ↦ λ is.
              ap (λ r. combined op unit r (Some next)) (sym (find_tied R o q x.0 (equal_of _ is) rest) ∙ none)
              ∙ ap (λ r. Some (op x.1 (unwrap_or r unit))) (find_tied R o q x.0 (equal_of _ is) sums)
          | false ↦ λ is. refl
        ] refl

  module _ (is_item : I → Type 0) (assoc : IsAssociative op) (comm : IsCommutative op) (neutral : IsNeutral op is_item unit) (closed : IsClosed op is_item) (unit_is : is_item unit) where
    unit_first : (xs : List I) → op unit (folded op unit xs) ≡ folded op unit xs
    unit_first xs = comm unit (folded op unit xs) ∙ neutral (folded op unit xs) (folded_is_item op is_item unit assoc comm neutral closed unit_is xs)

    -- an item of its own, and others
    alone : (a : I) (xs : List I) → op a (folded op unit xs) ≡ op (op a unit) (folded op unit xs)
    alone a xs = sym (assoc a unit (folded op unit xs) ∙ ap (op a) (unit_first xs))

    -- the items of two lists, which a third has
    any_both : (xs ys zs : List I) → folded op unit zs ≡ op (folded op unit xs) (folded op unit ys) → length zs ≡ length xs + length ys
        → combined op unit (folded_any op unit xs) (folded_any op unit ys) ≡ folded_any op unit zs
    any_both [] [] [] all count = refl
    any_both [] [] (z ∷ zs) all count = absurd (omega (arith, count))
    any_both [] (y ∷ ys) [] all count = absurd (omega (arith, count))
    any_both [] (y ∷ ys) (z ∷ zs) all count = ap Some (sym (all ∙ unit_first (y ∷ ys)))
    any_both (x ∷ xs) ys [] all count = absurd (omega (arith, count))
    any_both (x ∷ xs) ys (z ∷ zs) all count = ap Some (ap (op (folded op unit (x ∷ xs))) (any_or ys) ∙ sym all)

    module _ {K V : Type 0} where
      -- the items of the pairs that pass are those of all, where a pair that fails has the unit
      items_passing : (p : K → V → Bool) (i : K → V → I) (m : Map K V) → folded op unit (items_of i (passing p m)) ≡ folded op unit (items_of (λ k v. cond (p k v) (i k v) unit) m)
      items_passing p i [] = refl
      items_passing p i (x ∷ m) =
          let whole : List I = items_of (λ k v. cond (p k v) (i k v) unit) m in
          elim (p x.0 x.1) as (λ (b : Bool). folded op unit (items_of i (cond b (x ∷ passing p m) (passing p m))) ≡ op (cond b (i x.0 x.1) unit) (folded op unit whole)) [
            | true ↦ ap (op (i x.0 x.1)) (items_passing p i m)
            | false ↦ items_passing p i m ∙ sym (unit_first whole)
          ]

      module _ (RK : K → K → Ordering) (ok : IsTotalOrder RK) where
        passing_both : (p : K → V → Bool) (i : K → V → I) (m n : Map K V) → AreApart RK m n
            → folded op unit (items_of i (passing p (union RK m n))) ≡ op (folded op unit (items_of i (passing p m))) (folded op unit (items_of i (passing p n)))
        passing_both p i m n apart =
            items_passing p i (union RK m n)
            ∙ fold_union RK ok op is_item unit assoc comm neutral closed unit_is (λ k v. cond (p k v) (i k v) unit) m n (truth_of _ apart.left) apart.apart
            ∙ (λ j. op (sym (items_passing p i m) j) (sym (items_passing p i n) j))

        count_both : (p : K → V → Bool) (i : K → V → I) (m n : Map K V) → AreApart RK m n
            → length (items_of i (passing p (union RK m n))) ≡ length (items_of i (passing p m)) + length (items_of i (passing p n))
        count_both p i m n apart =
            let f : K × V → I = λ x. i x.0 x.1 in
            let all : length (items_of i (passing p (union RK m n))) ≡ length (passing p (union RK m n)) = length-map (passing p (union RK m n)) f in
            let left : length (items_of i (passing p m)) ≡ length (passing p m) = length-map (passing p m) f in
            let right : length (items_of i (passing p n)) ≡ length (passing p n) = length-map (passing p n) f in
            let union_is : length (passing p (union RK m n)) ≡ length (passing p m) + length (passing p n) = count_union RK ok p m n (truth_of _ apart.left) apart.apart in
            omega (arith, all, left, right, union_is)

        module _ {G : Type 0} (R : G → G → Ordering) where
          -- the items of a group in two maps together
          in_both : (group : K → V → G) (item : K → V → I) (m n : Map K V) (g : G) → AreApart RK m n
              → combined op unit (folded_any op unit (items_in op unit R group item m g)) (folded_any op unit (items_in op unit R group item n g)) ≡ folded_any op unit (items_in op unit R group item (union RK m n) g)
          in_both group item m n g apart =
              let p : K → V → Bool = λ k v. eq_by_cmp R g (group k v) in
              any_both (items_of item (passing p m)) (items_of item (passing p n)) (items_of item (passing p (union RK m n))) (passing_both p item m n apart) (count_both p item m n apart)

          module _ (gives : K → V → G → Type 0) (says : K → V → I → Type 0) where
            abbrev Summed : Map K V → Contents G I → Type 0
            Summed m sums = IsGroupFold op unit R gives says m sums

            -- the sums of two maps joined
            pub both_summed : (key_exact : IsAntisymmetric RK) (a b c : Contents G I) → IsCombined op unit R a.entries b.entries c.entries → c.limit ≡ MOST_PAIRS → length c.entries ≤ length a.entries + length b.entries → IsJoined RK Summed a b c
            both_summed key_exact a b c each limit few m n x y apart =
                let all : length (union RK m n) ≡ length m + length n = length_union RK ok m n (truth_of _ apart.left) apart.apart in
                record {
                  limit = limit;
                  few = omega (arith, few, x.few, y.few, all);
                  named = λ g some. named_both R gives RK ok key_exact op unit (value_at R a.entries g) (value_at R b.entries g) m n g (truth_of _ apart.left) apart.apart (x.named g) (y.named g) (subst IsSome (each g) some);
                  there = λ z among. there_both R gives RK ok key_exact op unit a.entries b.entries c.entries m n z each (x.there z) (y.there z) among;
                  exact = λ group item means meant g.
                      each g
                      ∙ (λ j. combined op unit (x.exact group item means meant g j) (y.exact group item means meant g j))
                      ∙ in_both group item m n g apart;
                }

            -- the items of a group with those of one pair more
            more_in : (o : IsTotalOrder R) (k : K) (v : V) (group : K → V → G) (item : K → V → I) (m : Map K V) (sums : Map G I) (q : G)
                → ((g : G) → value_at R sums g ≡ folded_any op unit (items_in op unit R group item m g))
                → value_at R (with_item op unit R sums (group k v) (item k v)) q ≡ combined op unit (folded_any op unit (items_in op unit R group item ((k, v) ∷ []) q)) (folded_any op unit (items_in op unit R group item m q))
            more_in o k v group item m sums q before =
                let g : G = group k v in
                let a : I = item k v in
                let next : I = op a (unwrap_or (value_at R sums g) unit) in
                let items : List I = items_in op unit R group item m q in
                find-put R o q g next sums
                ∙ elim (eq_by_cmp R q g) as (λ (b : Bool). eq_by_cmp R q g ≡ b → cond b (Some next) (value_at R sums q) ≡ combined op unit (folded_any op unit (items_of item (cond b ((k, v) ∷ []) []))) (folded_any op unit items)) [
                  | true ↦ λ is.
                      ap (λ r. Some (op a (unwrap_or r unit))) (find_tied R o q g (equal_of _ is) sums ∙ before q)
                      ∙ ap (λ r. Some (op a r)) (any_or items)
                      ∙ ap Some (alone a items)
                      ∙ ap (λ r. Some (op (op a unit) r)) (sym (any_or items))
                  | false ↦ λ is. before q
                ] refl

            -- a pair's item with those before it
            pub one_summed_more : (key_exact : IsAntisymmetric RK) (o : IsTotalOrder R) (same_group : IsAntisymmetric R) (k : K) (v : V) (g : G) (i : I) (a c : Contents G I) → gives k v g → says k v i
                → c.entries ≡ with_item op unit R a.entries g i → c.limit ≡ a.limit → IsAdded RK Summed a k v c
            one_summed_more key_exact o same_group k v g i a c gave said is limit m x apart =
                let next : I = op i (unwrap_or (value_at R a.entries g) unit) in
                let all : length (with_pair RK m k v) ≡ 1 + length m = length_union RK ok ((k, v) ∷ []) m (truth_of _ apart.left) apart.apart in
                let more : length (with_item op unit R a.entries g i) ≤ length a.entries + 1 = length_put R g next a.entries in
                let same : length c.entries ≡ length (with_item op unit R a.entries g i) = ap length is in
                record {
                  limit = limit ∙ x.limit;
                  few = omega (arith, all, more, same, x.few);
                  named = λ q some. named_more R gives RK ok key_exact o same_group k v g q next m a.entries gave (truth_of _ apart.left) apart.apart (x.named q) (subst (λ es. IsSome (value_at R es q)) is some);
                  there = λ z among. subst (λ es. Names R gives es z) (sym is) (there_more R gives RK ok key_exact o same_group k v g next m a.entries z gave (x.there z) among);
                  exact = λ group item means meant q.
                      ap (λ es. value_at R es q) (is ∙ (λ j. with_item op unit R a.entries (means k v g gave j) (meant k v i said j)))
                      ∙ more_in o k v group item m a.entries q (x.exact group item means meant)
                      ∙ in_both group item ((k, v) ∷ []) m q apart;
                }

  module _ {K V G : Type 0} (R : G → G → Ordering) (gives : K → V → G → Type 0) (says : K → V → I → Type 0) where
    abbrev Sums : Map K V → Contents G I → Type 0
    Sums m sums = IsGroupFold op unit R gives says m sums

    -- no pairs have no groups
    pub none_summed : (sums : Contents G I) → sums.entries ≡ [] → sums.limit ≡ MOST_PAIRS → Sums [] sums
    none_summed sums is limit = record {
      limit = limit;
      few = let none : length sums.entries ≡ 0 = ap length is in omega (arith, none);
      named = λ g some. not_there (value_at R sums.entries g) (ap (λ es. value_at R es g) is) some;
      there = λ x among. absurd (omega (arith, among.1));
      exact = λ group item means meant g. ap (λ es. value_at R es g) is;
    }

    -- the item of one pair
    pub one_summed : (o : IsTotalOrder R) (same_group : IsAntisymmetric R) (k : K) (v : V) (g : G) (i : I) (sums : Contents G I) → gives k v g → says k v i → sums.entries ≡ (g, op i unit) ∷ [] → sums.limit ≡ MOST_PAIRS → Sums ((k, v) ∷ []) sums
    one_summed o same_group k v g i sums gave said is limit = record {
      limit = limit;
      few = let one : length sums.entries ≡ 1 = ap length is in omega (arith, one);
      named = λ q some. named_one R gives o same_group k v g q (op i unit) gave (subst (λ es. IsSome (value_at R es q)) is some);
      there = λ x among. subst (λ es. Names R gives es x) (sym is) (there_one R gives o same_group k v g (op i unit) x gave among);
      exact = λ group item means meant q.
          ap (λ es. value_at R es q) (is ∙ (λ j. (means k v g gave j, op (meant k v i said j) unit) ∷ []))
          ∙ one_any {A = K × V} (λ x. item x.0 x.1) (k, v) (eq_by_cmp R q (group k v));
    }

    module _ (RK : K → K → Ordering) where
      -- sums that can be joined have room for each other
      pub joined_room : (a b : Contents G I) → CanJoin RK Sums a b → length a.entries + length b.entries ≤ MOST_PAIRS
      joined_room a b can = ∥∥₁_elim can le_prop (λ x. omega (arith, x.first_is.few, x.second_is.few, x.apart.few))

      pub joined_limit : (a b : Contents G I) → CanJoin RK Sums a b → b.limit ≡ MOST_PAIRS
      joined_limit a b can = ∥∥₁_elim can (λ x y. ℕ_set _ _ x y) (λ x. x.second_is.limit)

      -- those that a pair can be added to have room for a group
      pub added_room : (k : K) (v : V) (a : Contents G I) → CanAdd RK Sums a k v → length a.entries < a.limit
      added_room k v a can = ∥∥₁_elim can le_prop (λ x. omega (arith, x.1.few, x.1.limit, x.2.few))
