-- What a row is once it has taken the child of a root.
use Rattle.std.proofs.Common.{◌≡◌, ℕ, suc, ◌+◌, ◌*◌, ◌<◌, ◌≤◌, ◌==◌, ◌%◌, ◌^◌, false, List, [], ◌∷◌, length, map, Option, Some, None, IfSome, refl, sym, ap, ◌∙◌, subst, arith, leb}
use Rattle.std.proofs.lemmas.Bool.{le-leb}
use Rattle.std.proofs.lemmas.List.{length-map}
use Rattle.std.specs.declared.cmp.Ordering.{Ordering}
use Rattle.std.specs.declared.cmp.Ordering.TheVariants.{Equal}
use Rattle.std.specs.Cmp.{IsTotalOrder}
use Rattle.std.specs.FinMap.{find}
use Rattle.std.specs.Int.{bit_at}
use Rattle.std.specs.Int.RustNames.{count_ones, bit_or}
use Rattle.std.specs.List.{insert}
use Rattle.std.specs.Option.{option_or}
use Rattle.hash_path.specs.Digits.{fan_out, word_bits}
use Rattle.trie_merging.specs.Merges.{StampsPass, child_at, pairs_of}
use Rattle.trie_shape.specs.Map.{union}
use Rattle.trie_shape.specs.Roots.{IsRoot, map_of, word_of}
use Rattle.trie_shape.specs.Shape.{Fits, NoneAbove, count_of, nodes}
use Rattle.trie_shape.specs.Tree.{Tree, branch, trees, entries, IsTrie}
use Rattle.trie_shape.specs.View.{tree}
use Rattle.trie_shape.specs.declared.node.Node.{Node}
use Rattle.trie_shape.proofs.Bits.{length-digits_of}
use Rattle.trie_shape.proofs.Listings.{listed_as}
use Rattle.trie_shape.proofs.Roots.{find_entries, length_map_of, map_of_is_map, root_is_trie, trie_is_root}
use Rattle.trie_shape.proofs.Tries.{place_within}
use Rattle.trie_shape.proofs.Unions.{IsMap-union, is_sorted_of, value_at-union}
use Rattle.trie_merging.proofs.ChildAt.{IsBelow}
use Rattle.trie_merging.proofs.StampTests.{listed_pass, none_above_pass, pass_listed, pass_none_above}
use Rattle.united_roots.specs.Rows.{EachHasDigit, NoneHasDigit}
use Rattle.united_roots.proofs.FirstDigit.{found_below, lacks_digit, root_side}
use Rattle.united_roots.proofs.OneMore.{more_finds, more_pass, more_trie}

count_of-trees : {K V : Type 0} (ts : List (Tree K V)) → count_of (trees ts) ≡ length ts
count_of-trees [] = refl
count_of-trees (t ∷ ts) = ap suc (count_of-trees ts)

-- a row has a child for each digit of its bitmap
pub row_counted : {K V S X Y : Type 0} (stamp size bitmap : ℕ) (ns : List (Node K V S X Y)) → Fits (branch stamp size bitmap (trees (map tree ns))) → length ns ≡ count_ones bitmap
row_counted stamp size bitmap ns fits = sym (length-map ns tree) ∙ sym (count_of-trees (map tree ns)) ∙ fits.1 ∙ length-digits_of bitmap fits.0

-- the new root has the pairs of a root too, and no node with a greater stamp
pub record Takes {K V : Type 0} (R : K → K → Ordering) (path : K → ℕ) (newest : ℕ) (root old new : Tree K V) : Type 0 where
  pub is_root : IsRoot R path new
  pub map : map_of R new ≡ union R (map_of R root) (map_of R old)
  pub none_above : NoneAbove newest (nodes (word_of path) new)

module _ {K V : Type 0} (R : K → K → Ordering) (path : K → ℕ) (total : IsTotalOrder R) (exact : (x y : K) → R x y ≡ Equal → x ≡ y) (small : (k : K) → path k < 2 ^ word_bits) (d : ℕ) (root : Tree K V) (is_root : IsRoot R path root) (each : EachHasDigit R path d (map_of R root)) (stamp size bitmap : ℕ) (ts : List (Tree K V)) (row : IsRoot R path (branch stamp size bitmap (trees ts))) where
  root_trie : IsTrie R path 0 root
  root_trie = root_is_trie R path total exact small root is_root

  row_trie : IsTrie R path 0 (branch stamp size bitmap (trees ts))
  row_trie = root_is_trie R path total exact small (branch stamp size bitmap (trees ts)) row

  united_map : (new : Tree K V) → ((q : K) → find R q (entries new) ≡ option_or (find R q (pairs_of (child_at root d))) (find R q (entries (branch stamp size bitmap (trees ts))))) → map_of R new ≡ union R (map_of R root) (map_of R (branch stamp size bitmap (trees ts)))
  united_map new finds =
      let old = branch stamp size bitmap (trees ts) in
      let both = union R (map_of R root) (map_of R old) in
      listed_as R total exact (entries new) both (is_sorted_of R both (IsMap-union R total (map_of R root) (map_of R old) (map_of_is_map R path total old)))
      (λ q. finds q ∙ (λ i. option_or ((sym (found_below R path total exact d root root_trie each q) ∙ find_entries R path total root q) i) (find_entries R path total old q i)) ∙ sym (value_at-union R total (map_of R root) (map_of R old) q))

  none_newer : (newest newer : ℕ) (t : Tree K V) → newest ≤ newer → IsTrie R path 0 t → NoneAbove newest (nodes (word_of path) t) → StampsPass (λ s. leb s newer) t
  none_newer newest newer t le trie none =
      listed_pass R path (λ s. leb s newer) 0 [] t trie (none_above_pass newer (nodes (word_of path) t) (λ k e lt. omega (arith, none k e lt)))

  passes_none : (newer : ℕ) (t : Tree K V) → StampsPass (λ s. leb s newer) t → NoneAbove newer (nodes (word_of path) t)
  passes_none newer t h = pass_none_above newer (nodes (word_of path) t) (pass_listed R path (λ s. leb s newer) [] t h)

  -- the row has as many pairs as its map
  pub row_size : size ≡ length (map_of R (branch stamp size bitmap (trees ts)))
  row_size = row_trie.2 ∙ sym (length_map_of R path total exact small (branch stamp size bitmap (trees ts)) row_trie)

  -- and no child of the digit
  pub row_lacks : d < fan_out → NoneHasDigit R path d (map_of R (branch stamp size bitmap (trees ts))) → (bit_at bitmap d == 1) ≡ false
  row_lacks below none = lacks_digit R path total exact d below stamp size bitmap ts row_trie none

  -- the place of the digit's child is within the children
  pub row_place : d < fan_out → NoneHasDigit R path d (map_of R (branch stamp size bitmap (trees ts))) → count_ones (bitmap % 2 ^ d) ≤ length ts
  row_place below none = place_within R path 0 bitmap d below ts row_trie.3 (row_lacks below none)

  module _ (c : Tree K V) (some : Some c ≡ child_at root d) where
    pub child_below : IsBelow R path 0 d c
    child_below = subst (λ o. IfSome o (IsBelow R path 0 d)) (sym some) ((root_side R path total exact root root_trie).1.known d)

    -- the child has no more pairs than the root's map
    pub child_few : length (entries c) ≤ length (map_of R root)
    child_few =
        omega (arith, (root_side R path total exact root root_trie).1.fewer d, ap (λ (o : Option (Tree K V)). length (pairs_of o)) some, length_map_of R path total exact small root root_trie)

  module _ (newest newer : ℕ) (mine : stamp ≤ newer) (theirs : newest ≤ newer) (row_none : NoneAbove stamp (nodes (word_of path) (branch stamp size bitmap (trees ts)))) (root_none : NoneAbove newest (nodes (word_of path) root)) where
    -- the root has no child of the digit
    pub takes_none : None ≡ child_at root d → Takes R path newer root (branch stamp size bitmap (trees ts)) (branch newer size bitmap (trees ts))
    takes_none none =
        let old = branch stamp size bitmap (trees ts) in
        let new = branch newer size bitmap (trees ts) in
        let passed = none_newer stamp newer old mine row_trie row_none in
        record {
          is_root = trie_is_root R path total exact small new row_trie;
          map = united_map new (λ q. ap (λ (o : Option (Tree K V)). option_or (find R q (pairs_of o)) (find R q (entries old))) none);
          none_above = passes_none newer new (le-leb newer newer (omega arith), passed.1);
        }

    -- the root has one
    pub takes_some : d < fan_out → (c : Tree K V) → Some c ≡ child_at root d → NoneHasDigit R path d (map_of R (branch stamp size bitmap (trees ts))) → (us : List (Tree K V)) → us ≡ insert ts (count_ones (bitmap % 2 ^ d)) c → (size2 : ℕ) → size2 ≡ size + length (entries c) → Takes R path newer root (branch stamp size bitmap (trees ts)) (branch newer size2 (bit_or bitmap (1 * 2 ^ d % 2 ^ 32)) (trees us))
    takes_some below c some none us made size2 sized =
        let old = branch stamp size bitmap (trees ts) in
        let new = branch newer size2 (bit_or bitmap (1 * 2 ^ d % 2 ^ 32)) (trees us) in
        let lacks = row_lacks below none in
        let known = child_below c some in
        let trie = more_trie R path exact d below stamp size bitmap ts row_trie lacks c known us made newer size2 sized in
        let passed = none_newer stamp newer old mine row_trie row_none in
        let child_passes : StampsPass (λ s. leb s newer) c = subst (λ o. IfSome o (StampsPass (λ s. leb s newer))) (sym some) ((root_side R path total exact root root_trie).1.within (λ s. leb s newer) d (none_newer newest newer root theirs root_trie root_none)) in
        record {
          is_root = trie_is_root R path total exact small new trie;
          map = united_map new (λ q. more_finds R path exact d below stamp size bitmap ts row_trie lacks c known us made q ∙ ap (λ (o : Option (Tree K V)). option_or (find R q (pairs_of o)) (find R q (entries old))) some);
          none_above = passes_none newer new (le-leb newer newer (omega arith), more_pass R path exact d below stamp size bitmap ts row_trie lacks c known us made (λ s. leb s newer) passed.1 child_passes);
        }
