-- How many pairs a root has after a write.
use Rattle.std.proofs.Common.{◌≡◌, ℕ, ◌+◌, ◌≤◌, Bool, true, false, cond, T, Option, length, is_some, sym, ap, subst, arith}
use Rattle.std.specs.declared.cmp.Ordering.{Ordering}
use Rattle.std.specs.Cmp.{IsTotalOrder}
use Rattle.std.specs.FinMap.{find, is_sorted}
use Rattle.std.specs.FinMap.Entries.{length-put, length_without}
use Rattle.trie_shape.specs.Map.{IsMap, with_pair, without}
use Rattle.trie_shape.specs.Tree.{Tree}
use Rattle.trie_shape.specs.Roots.{IsRoot, map_of}
use Rattle.trie_copy.specs.Changes.{IsPut}
use Rattle.trie_node.specs.Exchanged.{IsExchange}
use Rattle.trie_puts.specs.declared.exchange.Exchange.{Exchange}
use Rattle.trie_puts.specs.declared.exchange.Exchange.TheVariants.{Done, Elsewhere}

one_more : (b : Bool) (n m : ℕ) → m ≡ cond b n (n + 1) → m ≤ n + 1
one_more true n m e = omega arith
one_more false n m e = omega arith

module _ {K V : Type 0} (R : K → K → Ordering) (path : K → ℕ) (total : IsTotalOrder R) (sorted : (t : Tree K V) → IsMap R (map_of R t)) (most stamp : ℕ) (k : K) (old new : Tree K V) where
  test : T (is_sorted R (map_of R old))
  test = subst T (sym (sorted old)) tt

  pub put_holds : (v : V) → IsPut R path stamp k v old new → length (map_of R old) ≤ most → IsRoot R path new × (length (map_of R new) ≤ most + 1)
  put_holds v put few = (put.root, omega (arith, ap length put.map, one_more (is_some (find R k (map_of R old))) (length (map_of R old)) (length (with_pair R (map_of R old) k v)) (length-put R total k v (map_of R old) test), few))

  pub removal_holds : IsRoot R path new → map_of R new ≡ without R (map_of R old) k → length (map_of R old) ≤ most → IsRoot R path new × (length (map_of R new) ≤ most)
  removal_holds root map few = (root, omega (arith, ap length map, length_without R total k (map_of R old) test, few))

  pub kept_holds : new ≡ old → IsRoot R path old × (length (map_of R old) ≤ most) → IsRoot R path new × (length (map_of R new) ≤ most)
  kept_holds e = subst (λ t. IsRoot R path t × (length (map_of R t) ≤ most)) (sym e)

  pub exchange_holds : {S Y : Type 0} (value_of : Y → V) (value : Y) (holds : Option V → Bool) (r : Exchange V S Y) → IsExchange value_of R path stamp k value holds old r new → IsRoot R path old × (length (map_of R old) ≤ most) → IsRoot R path new × (length (map_of R new) ≤ most + 1)
  exchange_holds value_of value holds (Done previous) is here = put_holds (value_of value) is.2 here.1
  exchange_holds value_of value holds (Elsewhere back) is here = let kept = kept_holds is.1 here in (kept.0, omega (arith, kept.1))
