-- What a write at the root does to the map.
use Rattle.std.proofs.Common.{◌≡◌, ℕ, ◌<◌, ◌^◌, [], Some, None, refl}
use Rattle.std.specs.declared.cmp.Ordering.{Ordering}
use Rattle.std.specs.declared.cmp.Ordering.TheVariants.{Equal}
use Rattle.std.specs.Cmp.{IsTotalOrder}
use Rattle.hash_path.specs.Digits.{word_bits}
use Rattle.trie_shape.specs.Tree.{Tree, entries}
use Rattle.trie_shape.proofs.Listings.{put_listed, without_listed}
use Rattle.trie_shape.proofs.Roots.{trie_is_root}
use Rattle.trie_copy.specs.Changes.{IsPut, IsRemoval}
use Rattle.trie_copy.specs.Writes.{Writes}

module _ {K V : Type 0} (R : K → K → Ordering) (path : K → ℕ) (total : IsTotalOrder R) (exact : (x y : K) → R x y ≡ Equal → x ≡ y) (small : (k : K) → path k < 2 ^ word_bits) where
  module _ (stamp : ℕ) (k : K) (old new : Tree K V) where
    -- a write of a value at the root is a put
    pub write_puts : (v : V) → Writes R path 0 stamp k (Some v) old new → IsPut R path stamp k v old new
    write_puts v w = record {
      root = trie_is_root R path total exact small new w.trie;
      map = put_listed R total exact (entries old) (entries new) k v w.finds;
      stamps = w.stamps [] refl refl;
    }

    -- and of none a removal
    pub write_removes : Writes R path 0 stamp k None old new → IsRemoval R path stamp k old new
    write_removes w = record {
      root = trie_is_root R path total exact small new w.trie;
      map = without_listed R total exact (entries old) (entries new) k w.finds;
      stamps = w.stamps [] refl refl;
    }
