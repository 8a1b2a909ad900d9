-- What an exchange in the root of a version makes of the version.
use Rattle.std.proofs.Common.{◌≡◌, ◌≤◌, ◌&&◌, ◌==◌, ℕ, Bool, true, false, not, is_some, Option, Some, length, refl, sym, ap, subst}
use Rattle.std.specs.declared.cmp.Ordering.{Ordering}
use Rattle.std.specs.Cmp.{IsTotalOrder}
use Rattle.trie_node.specs.Exchanged.{IsExchange}
use Rattle.trie_puts.specs.declared.exchange.Exchange.{Exchange}
use Rattle.trie_puts.specs.declared.exchange.Exchange.TheVariants.{Done, Elsewhere}
use Rattle.trie_shape.specs.Roots.{IsRoot, map_of, word_of}
use Rattle.trie_shape.specs.Shape.{NoneAbove, Restamps, nodes}
use Rattle.trie_shape.specs.Tree.{Tree}
use Rattle.versions.specs.Commands.{is_full_for}
use Rattle.versions.specs.Contents.{Contents}
use Rattle.versions.specs.Exchanges.{Exchanges}
use Rattle.versions.specs.Map.{Map, IsMap, value_at}
use Rattle.versions.specs.declared.version.TheConstants.{MOST_PAIRS}
use Rattle.versions.proofs.Maps.{with_pair_fits}

module _ {K V : Type 0} (R : K → K → Ordering) where
  -- no map is too full for a key that is there
  pub never_full : (holds : Bool) (limit : ℕ) (m : Map K V) (k : K) (v : V) → value_at R m k ≡ Some v → (holds && is_full_for R limit m k) ≡ false
  never_full true limit m k v e = subst (λ found. (not (is_some found) && (length m == limit)) ≡ false) (sym e) refl
  never_full false limit m k v e = refl

module _ {K V : Type 0} (R : K → K → Ordering) (path : K → ℕ) (limit stamp : ℕ) where
  -- the root is one of a version with this limit and this stamp
  abbrev pub Within : Tree K V → Type 0
  Within t = IsRoot R path t × (length (map_of R t) ≤ limit) × (1 ≤ limit) × (limit ≤ MOST_PAIRS) × NoneAbove stamp (nodes (word_of path) t)

  -- what contracts see of that version
  abbrev pub contents : Tree K V → Contents K V
  contents t = record { entries = map_of R t; limit = limit; stamp = stamp; nodes = nodes (word_of path) t }

module _ {K V S Y : Type 0} (value_of : Y → V) (R : K → K → Ordering) (path : K → ℕ) (limit stamp : ℕ) (k : K) (value : Y) (holds : Option V → Bool) (old new : Tree K V) where
  pub within-exchange : IsTotalOrder R → IsMap R (map_of R old) → (NoneAbove stamp (nodes (word_of path) old) → Restamps stamp (word_of path k) (nodes (word_of path) old) (nodes (word_of path) new) → NoneAbove stamp (nodes (word_of path) new))
      → Within R path limit stamp old → (r : Exchange V S Y) → IsExchange value_of R path stamp k value holds old r new → Within R path limit stamp new
  within-exchange o sorted below was (Done previous) h =
      let fits = with_pair_fits R o limit (map_of R old) k (value_of value) sorted was.1 (never_full R true limit (map_of R old) k (value_of previous) h.0) in
      (h.2.root, subst (λ m. length m ≤ limit) (sym h.2.map) fits, was.2, was.3, below was.4 h.2.stamps)
  within-exchange o sorted below was (Elsewhere back) h = subst (Within R path limit stamp) (sym h.1) was

  pub exchanges-contents : (r : Exchange V S Y) → IsExchange value_of R path stamp k value holds old r new → Exchanges value_of R path k value holds (contents R path limit stamp old) r (contents R path limit stamp new)
  exchanges-contents (Done previous) h = (h.0, h.1, h.2.map, refl, refl, h.2.stamps)
  exchanges-contents (Elsewhere back) h = (h.0, ap (contents R path limit stamp) h.1)
