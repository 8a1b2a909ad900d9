-- How many pairs all groups have together.
use Rattle.std.proofs.Common.{◌≡◌, ℕ, ◌+◌, ◌≤◌, T, true, false, cond, [], ◌∷◌, Some, None, refl, ap, arith}
use Rattle.std.specs.Cmp.{IsTotalOrder, tied_itself}
use Rattle.std.specs.Option.{unwrap_or}
use Rattle.std.specs.Ordering.{eq_by_cmp, is_eq}
use Rattle.std.specs.FinMap.{find, is_sorted}
use Rattle.std.specs.FinMap.Entries.{by_order, put}
use Rattle.std.specs.declared.cmp.Ordering.{Ordering}
use Rattle.std.specs.declared.cmp.Ordering.TheVariants.{Less, Equal, Greater}
use Rattle.versions.specs.Map.{Map, IsMap}
use Rattle.group_counts.specs.Counts.{count_at, total, with_one}
use Rattle.bulk_work.proofs.Unions.{below_less, left_of, right_of, truth_of}
use Rattle.group_counts.proofs.Lists.{absent_tied}

module _ {G : Type 0} (R : G → G → Ordering) (o : IsTotalOrder R) where
  -- no group has more pairs than all together
  pub count_within : (g : G) (counts : Map G ℕ) → count_at R counts g ≤ total counts
  count_within g [] = omega arith
  count_within g (x ∷ counts) =
      elim (eq_by_cmp R g x.0) as (λ t. unwrap_or (cond t (Some x.1) (find R g counts)) 0 ≤ x.1 + total counts) [ true ↦ omega arith | false ↦ omega (arith, count_within g counts) ]

  -- what a new count of a group does to all together
  pub total_put : (g : G) (n : ℕ) (counts : Map G ℕ) → T (is_sorted R counts) → total (put R g n counts) + count_at R counts g ≡ n + total counts
  total_put g n [] h = omega arith
  total_put g n (x ∷ counts) h =
      elim (R g x.0) as (λ r. R g x.0 ≡ r → total (by_order r ((g, n) ∷ x ∷ counts) ((x.0, n) ∷ counts) (x ∷ put R g n counts)) + unwrap_or (cond (is_eq r) (Some x.1) (find R g counts)) 0 ≡ n + (x.1 + total counts)) [
        | Less ↦ λ e. let none : find R g counts ≡ None = absent_tied R o g g counts (tied_itself o g) (below_less R o g x.0 counts e (left_of _ _ h)) in omega (arith, ap (λ m. unwrap_or m 0) none)
        | Equal ↦ λ e. omega arith
        | Greater ↦ λ e. omega (arith, total_put g n counts (right_of _ _ h))
      ] refl

  -- one pair more is one more of all
  pub total_with_one : (g : G) (counts : Map G ℕ) → IsMap R counts → total (with_one R counts g) ≡ total counts + 1
  total_with_one g counts h = omega (arith, total_put g (count_at R counts g + 1) counts (truth_of _ h))
