-- Images that are put into one map, pair after pair.
use Rattle.std.proofs.Common.{◌≡◌, ◌≤◌, ◌+◌, ℕ, Bool, true, false, cond, is_some, [], ◌∷◌, length, arith}
use Rattle.std.specs.declared.cmp.Ordering.{Ordering}
use Rattle.std.specs.Cmp.{IsTotalOrder}
use Rattle.std.specs.FinMap.Entries.{is_sorted-put, length-put}
use Rattle.versions.specs.Map.{Map, IsAntisymmetric, IsMap, value_at, with_pair}
use Rattle.combiner.specs.Bulks.{IsAdded}
use Rattle.bulk_work.specs.Answers.{IsImage}
use Rattle.bulk_ops.proofs.Images.{image_one, image_union}
use Rattle.bulk_work.proofs.Unions.{true_of, truth_of}

at_most : (b : Bool) (n : ℕ) → cond b n (n + 1) ≤ n + 1
at_most true n = omega arith
at_most false n = omega arith

module _ {K V : Type 0} (R : K → K → Ordering) (o : IsTotalOrder R) where
  -- a put makes a map no more than one pair longer
  pub put_le : (k : K) (v : V) (w : Map K V) → IsMap R w → length (with_pair R w k v) ≤ length w + 1
  put_le k v w h = omega (arith, length-put R o k v w (truth_of _ h), at_most (is_some (value_at R w k)) (length w))

  -- and leaves it a map
  pub put_sorted : (k : K) (v : V) (w : Map K V) → IsMap R w → IsMap R (with_pair R w k v)
  put_sorted k v w h = true_of _ (is_sorted-put R o k v w (truth_of _ h))

  -- the image of one pair more is put
  pub imaged_put : (exact : IsAntisymmetric R) (p : K → V → K × V) (k : K) (v : V) (r : K × V) (w : Map K V) → IsMap R w → r ≡ p k v → IsAdded R (λ m w. IsImage R p m w) w k v (with_pair R w r.0 r.1)
  imaged_put exact p k v r w sorted is m y apart =
      image_union R exact o p ((k, v) ∷ []) m (r ∷ []) w apart (put_sorted r.0 r.1 w sorted) (image_one R p k v r is) y
