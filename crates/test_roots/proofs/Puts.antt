-- What a put leaves of a map of one first digit.
use Rattle.std.proofs.Common.{◌≡◌, ℕ, ◌+◌, ◌≤◌, Bool, true, false, cond, T, length, Some, is_some, refl, sym, ap, ◌∙◌, subst, arith}
use Rattle.std.specs.declared.cmp.Ordering.{Ordering}
use Rattle.std.specs.declared.cmp.Ordering.TheVariants.{Equal}
use Rattle.std.specs.Cmp.{IsTotalOrder, Equal-is}
use Rattle.std.specs.Ordering.{eq_by_cmp}
use Rattle.std.specs.FinMap.Entries.{find-put, length-put}
use Rattle.hash_path.specs.Digits.{digit}
use Rattle.trie_copy.specs.Changes.{IsPut}
use Rattle.trie_shape.specs.Map.{IsMap, value_at, with_pair}
use Rattle.trie_shape.specs.Roots.{map_of}
use Rattle.trie_shape.specs.Tree.{Tree}
use Rattle.united_roots.specs.Rows.{EachHasDigit}

one_more : (b : Bool) (n m : ℕ) → m ≡ cond b n (n + 1) → m ≤ n + 1
one_more true n m e = omega arith
one_more false n m e = omega arith

module _ {K V : Type 0} (R : K → K → Ordering) (path : K → ℕ) (total : IsTotalOrder R) (exact : (x y : K) → R x y ≡ Equal → x ≡ y) (stamp : ℕ) (k : K) (v : V) (old new : Tree K V) (put : IsPut R path stamp k v old new) where
  pub put_each : (d : ℕ) → digit (path k) 0 ≡ d → EachHasDigit R path d (map_of R old) → EachHasDigit R path d (map_of R new)
  put_each d here each q there = of_tie (eq_by_cmp R q k) refl (sym (ap (λ m. is_some (value_at R m q)) put.map ∙ ap is_some (find-put R total q k v (map_of R old))) ∙ there)
    where
      of_tie : (b : Bool) → eq_by_cmp R q k ≡ b → is_some (cond b (Some v) (value_at R (map_of R old) q)) ≡ true → digit (path q) 0 ≡ d
      of_tie true e found = ap (λ x. digit (path x) 0) (exact q k ((Equal-is (R q k)).0 e)) ∙ here
      of_tie false e found = each q found

  pub put_few : (most : ℕ) → IsMap R (map_of R old) → length (map_of R old) ≤ most → length (map_of R new) ≤ most + 1
  put_few most sorted few =
      omega (arith, ap length put.map, one_more (is_some (value_at R (map_of R old) k)) (length (map_of R old)) (length (with_pair R (map_of R old) k v)) (length-put R total k v (map_of R old) (subst T (sym sorted) tt)), few)
