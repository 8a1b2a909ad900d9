-- The root of a part of a map.
use Rattle.std.proofs.Common.{◌≡◌, ℕ, ◌^◌, ◌<◌, ◌≤◌, [], length, sym, ap, ◌∙◌, subst, arith}
use Rattle.std.specs.Prelude.{All}
use Rattle.std.specs.declared.cmp.Ordering.{Ordering}
use Rattle.std.specs.declared.cmp.Ordering.TheVariants.{Equal}
use Rattle.std.specs.Cmp.{IsTotalOrder}
use Rattle.hash_path.specs.Digits.{word_bits, digit, digits_after, fan_out, last_level, lowest}
use Rattle.trie_shape.specs.Listings.{gathered}
use Rattle.trie_shape.specs.Looks.{ShowsBitmap}
use Rattle.trie_shape.specs.Map.{Map, IsMap}
use Rattle.trie_shape.specs.Order.{walked}
use Rattle.trie_shape.specs.Outline.{children}
use Rattle.trie_shape.specs.Roots.{IsRoot, map_of}
use Rattle.trie_shape.specs.Tree.{Tree, branch, more_trees, no_trees, IsTrie, entries}
use Rattle.trie_shape.proofs.Roots.{map_of_is_map, trie_is_root}
use Rattle.iter.specs.Intervals.{part}
use Rattle.iter.specs.Subtries.{children_between, pairs_of_all}
use Rattle.iter.specs.declared.interval.Interval.{Interval}
use Rattle.splitter.specs.Places.{IsPlace}
use Rattle.trie_copy.proofs.Splits.{one_digit}
use Rattle.splitter.proofs.Divisions.{all_between}
use Rattle.splitter.proofs.OneChild.{above_trie, all_found}

module _ {K V : Type 0} (R : K → K → Ordering) (path : K → ℕ) (gathers : (m : Map K V) → IsMap R m → gathered R [] (walked R path m) ≡ m) (p : Map K V) (map : IsMap R p) where
  -- a trie whose pairs are the walk of a map is the root of the map
  pub root_of_walk : (total : IsTotalOrder R) → ((x y : K) → R x y ≡ Equal → x ≡ y) → ((k : K) → path k < 2 ^ word_bits) → ((t : Tree K V) → IsRoot R path t → entries t ≡ walked R path (map_of R t)) → (t : Tree K V) → IsTrie R path 0 t → entries t ≡ walked R path p → IsRoot R path t × (map_of R t ≡ p)
  root_of_walk total exact small order t trie same =
      let root = trie_is_root R path total exact small t trie in
      (root, sym (gathers (map_of R t) (map_of_is_map R path total t)) ∙ ap (gathered R []) (sym (order t root) ∙ same) ∙ gathers p map)

module _ {K V : Type 0} (R : K → K → Ordering) (path : K → ℕ) (pairs : (t : Tree K V) (b : ℕ) → ShowsBitmap b t → entries t ≡ pairs_of_all (children t)) (m : Map K V) (i : Interval) (t : Tree K V) (b level base from to : ℕ) (place : IsPlace R path m i t b level base from to) where
  -- the words of a place share the digits above its level
  pub place_shares : All (λ e. lowest (digits_after 0 level (path e.0)) ≡ base) (pairs_of_all (children_between t from to))
  place_shares = all_between (λ e. lowest (digits_after 0 level (path e.0)) ≡ base) (children t) from to (subst (All (λ e. lowest (digits_after 0 level (path e.0)) ≡ base)) (pairs t b place.shown) place.shared)

  module _ (gathers : (n : Map K V) → IsMap R n → gathered R [] (walked R path n) ≡ n) (map : IsMap R (part path m i)) (total : IsTotalOrder R) (exact : (x y : K) → R x y ≡ Equal → x ≡ y) (small : (k : K) → path k < 2 ^ word_bits) (order : (u : Tree K V) → IsRoot R path u → entries u ≡ walked R path (map_of R u)) where
    -- a trie of its children's pairs is the root of the part
    pub root_of_place : (u : Tree K V) → IsTrie R path 0 u → entries u ≡ pairs_of_all (children_between t from to) → IsRoot R path u × (map_of R u ≡ part path m i)
    root_of_place u trie same = root_of_walk R path gathers (part path m i) map total exact small order u trie (same ∙ sym place.walk)

    -- so is a branch above an only child, by the first digit
    pub root_above : {stamp : ℕ} (d : ℕ) (v u : Tree K V) → 0 < level → level ≤ last_level → d < fan_out → ((w deep : ℕ) → w < 2 ^ word_bits → 0 < deep → deep ≤ last_level → lowest (digits_after 0 deep w) ≡ base → digit w 0 ≡ d)
        → IsTrie R path 1 v → entries v ≡ pairs_of_all (children_between t from to) → u ≡ branch stamp (length (entries v)) (one_digit d) (more_trees v no_trees) → IsRoot R path u × (map_of R u ≡ part path m i)
    root_above d v u low high below first trie same is =
        let shares = subst (All (λ e. lowest (digits_after 0 level (path e.0)) ≡ base)) (sym same) place_shares in
        let made = above_trie R path 0 d v u (omega arith) below trie (λ q found. first (path q) level (small q) low high (all_found R path exact (λ k. lowest (digits_after 0 level (path k)) ≡ base) (entries v) shares q found)) (λ up. absurd (omega (arith, up))) is in
        root_of_place u made.0 (made.1 ∙ same)
