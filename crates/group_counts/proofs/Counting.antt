-- Counts by groups of two maps together, and of a map with one pair more.
use Rattle.std.proofs.Common.{◌≡◌, ℕ, zero, suc, ◌+◌, ◌≤◌, ◌<◌, Bool, true, false, cond, length, [], ◌∷◌, Option, Some, None, refl, sym, ap, subst, ◌∙◌, arith}
use Rattle.std.proofs.Math.Bridge.{le_prop}
use Rattle.std.proofs.Math.Logic.{∥∥₁_elim}
use Rattle.std.specs.Cmp.{IsTotalOrder}
use Rattle.std.specs.Option.{unwrap_or}
use Rattle.std.specs.Ordering.{eq_by_cmp}
use Rattle.std.specs.FinMap.{find}
use Rattle.std.specs.FinMap.Entries.{find-put, find_tied}
use Rattle.std.specs.declared.cmp.Ordering.{Ordering}
use Rattle.versions.specs.Map.{Map, IsMap, union, with_pair}
use Rattle.versions.specs.declared.version.TheConstants.{MOST_PAIRS}
use Rattle.combiner.specs.Bulks.{CanAdd, CanJoin, IsAdded, IsJoined}
use Rattle.bulk_ops.proofs.Totals.{count_union, length_union}
use Rattle.group_counts.specs.Counts.{IsSum, added, count_at, total, with_one}
use Rattle.group_counts.specs.Groups.{IsGroups, count_of, if_any}
use Rattle.bulk_work.proofs.Unions.{truth_of}
use Rattle.group_counts.proofs.Places.{put_rises}
use Rattle.group_counts.proofs.Totals.{total_with_one}
use Rattle.group_counts.proofs.Joins.{equal_of}

any_of : (n : ℕ) → 0 < n → Some n ≡ if_any n
any_of zero more = absurd (omega arith)
any_of (suc n) more = refl

-- two numbers of pairs together
added_any : (a b : ℕ) → added (if_any a) (if_any b) ≡ if_any (a + b)
added_any zero b = let e : b ≡ 0 + b = omega arith in ap if_any e
added_any (suc a) zero = let e : suc a ≡ suc a + 0 = omega arith in ap if_any e
added_any (suc a) (suc b) = any_of (suc a + suc b) (omega arith)

one_beside : (n : Option ℕ) → Some (unwrap_or n 0 + 1) ≡ added (Some 1) n
one_beside None = refl
one_beside (Some n) = ap Some (omega arith)

one_any : {A : Type 0} (x : A) (b : Bool) → cond b (Some 1) None ≡ if_any (length (cond b (x ∷ []) []))
one_any x true = refl
one_any x false = refl

module _ {G : Type 0} (R : G → G → Ordering) (o : IsTotalOrder R) where
  -- one pair more is a sum with the count of that pair
  pub one_added : (g : G) (counts : Map G ℕ) → IsMap R counts → IsSum R ((g, 1) ∷ []) counts (with_one R counts g)
  one_added g counts h = record {
    rising = put_rises R o counts g (count_at R counts g + 1) h;
    all = omega (arith, total_with_one R o g counts h);
    each = λ q. find-put R o q g (count_at R counts g + 1) counts ∙ here q;
  }
    where
      here : (q : G) → cond (eq_by_cmp R q g) (Some (count_at R counts g + 1)) (find R q counts) ≡ added (cond (eq_by_cmp R q g) (Some 1) None) (find R q counts)
      here q =
          elim (eq_by_cmp R q g) as (λ t. eq_by_cmp R q g ≡ t → cond t (Some (count_at R counts g + 1)) (find R q counts) ≡ added (cond t (Some 1) None) (find R q counts)) [
            | true ↦ λ e. one_beside (find R g counts) ∙ ap (added (Some 1)) (find_tied R o q g (equal_of _ e) counts)
            | false ↦ λ e. refl
          ] refl

  module _ {K V : Type 0} (gives : K → V → G → Type 0) where
    abbrev Grouped : Map K V → Map G ℕ → Type 0
    Grouped m counts = IsGroups R gives m counts

    -- no groups of no pairs
    pub none_grouped : Grouped [] []
    none_grouped = record { rising = refl; all = refl; exact = λ group means g. refl }

    -- the group of one pair
    pub one_grouped : (k : K) (v : V) (g : G) → gives k v g → Grouped ((k, v) ∷ []) ((g, 1) ∷ [])
    one_grouped k v g says = record {
      rising = refl;
      all = omega arith;
      exact = λ group means q. ap (λ h. cond (eq_by_cmp R q h) (Some 1) None) (means k v g says) ∙ one_any {A = K × V} (k, v) (eq_by_cmp R q (group k v));
    }

    module _ (RK : K → K → Ordering) where
      -- the counts of two maps that can be joined are no more than a map may have pairs
      pub both_few : (a b : Map G ℕ) → CanJoin RK Grouped a b → total a + total b ≤ MOST_PAIRS
      both_few a b can = ∥∥₁_elim can le_prop (λ x. omega (arith, x.first_is.all, x.second_is.all, x.apart.few))

      -- those that a pair can be added to are fewer than that
      pub has_room : (k : K) (v : V) (a : Map G ℕ) → CanAdd RK Grouped a k v → total a < MOST_PAIRS
      has_room k v a can = ∥∥₁_elim can le_prop (λ x. omega (arith, x.1.all, x.2.few))

      module _ (ok : IsTotalOrder RK) where
        -- two counts joined
        pub both_grouped : (a b c : Map G ℕ) → IsSum R a b c → IsJoined RK Grouped a b c
        both_grouped a b c sum m n x y apart =
            let all : length (union RK m n) ≡ length m + length n = length_union RK ok m n (truth_of _ apart.left) apart.apart in
            record {
              rising = sum.rising;
              all = omega (arith, sum.all, x.all, y.all, all);
              exact = λ group means g.
                  sum.each g
                  ∙ (λ i. added (x.exact group means g i) (y.exact group means g i))
                  ∙ added_any (count_of R group m g) (count_of R group n g)
                  ∙ ap if_any (sym (count_union RK ok (λ k v. eq_by_cmp R g (group k v)) m n (truth_of _ apart.left) apart.apart));
            }

        -- a pair counted beside those before it
        pub one_more : (k : K) (v : V) (g : G) (a c : Map G ℕ) → gives k v g → c ≡ with_one R a g → IsAdded RK Grouped a k v c
        one_more k v g a c says is m x apart =
            subst (λ counts. Grouped (with_pair RK m k v) counts) (sym is)
            (both_grouped ((g, 1) ∷ []) a (with_one R a g) (one_added g a x.rising) ((k, v) ∷ []) m (one_grouped k v g says) x apart)
