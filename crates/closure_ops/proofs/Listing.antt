-- Two maps that share no key, one after the other, list the map of both.
use Rattle.std.proofs.Common.{◌≡◌, Bool, true, false, cond, T, List, [], ◌∷◌, ◌++◌, Option, Some, None, refl, sym, ap, ◌∙◌}
use Rattle.std.specs.Cmp.{IsTotalOrder}
use Rattle.std.specs.FinMap.{is_sorted}
use Rattle.std.specs.Option.{option_or}
use Rattle.std.specs.Ordering.{eq_by_cmp}
use Rattle.std.specs.declared.cmp.Ordering.{Ordering}
use Rattle.trie_shape.proofs.Listings.{IsApart, listed_as}
use Rattle.trie_shape.specs.Roots.{listed}
use Rattle.versions.specs.Map.{Map, IsAntisymmetric, ShareNoKey, union, value_at}
use Rattle.bulk_work.proofs.Unions.{absent_below, apart_rest, at_union, fresh, left_of, right_of, sorted_union}

some_or : {V : Type 0} (t : Bool) (v : V) (a b : Option V) → cond t (Some v) (option_or a b) ≡ option_or (cond t (Some v) a) b
some_or true v a b = refl
some_or false v a b = refl

module _ {K V : Type 0} (R : K → K → Ordering) (o : IsTotalOrder R) where
  found_append : (m n : Map K V) (q : K) → value_at R (m ++ n) q ≡ option_or (value_at R m q) (value_at R n q)
  found_append [] n q = refl
  found_append (x ∷ m) n q = ap (λ r. cond (eq_by_cmp R q x.0) (Some x.1) r) (found_append m n q) ∙ some_or (eq_by_cmp R q x.0) x.1 (value_at R m q) (value_at R n q)

  apart_sorted : (n : Map K V) → T (is_sorted R n) → IsApart R o n
  apart_sorted [] h = tt
  apart_sorted (x ∷ n) h = (absent_below R x.0 n (left_of _ _ h), apart_sorted n (right_of _ _ h))

  -- no key stands twice
  pub apart_append : (m n : Map K V) → T (is_sorted R m) → T (is_sorted R n) → ShareNoKey R m n → IsApart R o (m ++ n)
  apart_append [] n h k apart = apart_sorted n k
  apart_append (x ∷ m) n h k apart =
      (found_append m n x.0 ∙ sym (at_union R o m n x.0) ∙ fresh R o x m n h apart, apart_append m n (right_of _ _ h) k (apart_rest R o x m n apart))

  -- it is the map of both
  pub union_listed : IsAntisymmetric R → (m n : Map K V) → T (is_sorted R n) → listed R (m ++ n) ≡ union R m n
  union_listed exact m n sorted = listed_as R o exact (m ++ n) (union R m n) (sorted_union R o m n sorted) (λ q. found_append m n q ∙ sym (at_union R o m n q))
