-- The root of two maps together.
use Rattle.std.proofs.Common.{◌≡◌, ℕ, ◌+◌, ◌<◌, ◌≤◌, ◌^◌, Bool, true, List, [], ◌∷◌, length, Some, refl, sym, ap, ◌∙◌, arith, leb}
use Rattle.std.specs.Option.{option_or}
use Rattle.std.proofs.lemmas.Bool.{le-leb}
use Rattle.std.specs.declared.cmp.Ordering.{Ordering}
use Rattle.std.specs.declared.cmp.Ordering.TheVariants.{Equal}
use Rattle.std.specs.Cmp.{IsTotalOrder}
use Rattle.hash_path.specs.Digits.{word_bits}
use Rattle.trie_shape.specs.Map.{union}
use Rattle.trie_merging.specs.Merges.{CanMerge, EachStampPasses, Merges}
use Rattle.trie_shape.specs.Roots.{IsRoot, map_of, word_of}
use Rattle.trie_shape.specs.Shape.{NoneAbove, nodes}
use Rattle.trie_shape.specs.Tree.{Tree, entries}
use Rattle.trie_shape.proofs.Listings.{listed_as}
use Rattle.trie_shape.proofs.Roots.{find_entries, length_map_of, map_of_is_map, root_is_trie, trie_is_root}
use Rattle.trie_merging.proofs.StampTests.{listed_pass, none_above_pass, pass_listed, pass_none_above}
use Rattle.trie_shape.proofs.Unions.{IsMap-union, is_sorted_of, union-empty, value_at-union}

no_elements : {A : Type 0} (xs : List A) → length xs ≡ 0 → xs ≡ []
no_elements [] e = refl
no_elements (x ∷ xs) e = absurd (omega arith)

module _ {K V : Type 0} (R : K → K → Ordering) (path : K → ℕ) (total : IsTotalOrder R) (exact : (x y : K) → R x y ≡ Equal → x ≡ y) (small : (k : K) → path k < 2 ^ word_bits) (left right : Tree K V) (left_root : IsRoot R path left) (right_root : IsRoot R path right) where
  -- a root without pairs is that of the empty map
  empty_map : (t : Tree K V) → IsRoot R path t → length (entries t) ≡ 0 → map_of R t ≡ []
  empty_map t root none = no_elements (map_of R t) (length_map_of R path total exact small t (root_is_trie R path total exact small t root) ∙ none)

  -- it changes no other map
  pub only_right : length (entries left) ≡ 0 → map_of R right ≡ union R (map_of R left) (map_of R right)
  only_right none = ap (λ m. union R m (map_of R right)) (sym (empty_map left left_root none))

  pub only_left : length (entries right) ≡ 0 → map_of R left ≡ union R (map_of R left) (map_of R right)
  only_left none = sym (ap (union R (map_of R left)) (empty_map right right_root none) ∙ union-empty R total exact (map_of R left) (map_of_is_map R path total left))

  -- two roots can be put together
  pub can_merge_roots : length (map_of R left) + length (map_of R right) < 2 ^ 63 → CanMerge R path 0 (Some left) (Some right)
  can_merge_roots room =
      let left_trie = root_is_trie R path total exact small left left_root in
      let right_trie = root_is_trie R path total exact small right right_root in
      record {
        depth = omega arith;
        left_trie = left_trie;
        right_trie = right_trie;
        agree = λ q r q_in r_in. omega arith;
        room = omega (arith, room, length_map_of R path total exact small left left_trie, length_map_of R path total exact small right right_trie);
      }

  module _ (stamp : ℕ) (new : Tree K V) (m : Merges R path 0 stamp (Some left) (Some right) (Some new)) where
    pub merged_root : IsRoot R path new
    merged_root = trie_is_root R path total exact small new m.trie

    pub merged_map : map_of R new ≡ union R (map_of R left) (map_of R right)
    merged_map =
        listed_as R total exact (entries new) (union R (map_of R left) (map_of R right)) (is_sorted_of R (union R (map_of R left) (map_of R right)) (IsMap-union R total (map_of R left) (map_of R right) (map_of_is_map R path total right)))
        (λ q. m.finds q ∙ (λ i. option_or (find_entries R path total left q i) (find_entries R path total right q i)) ∙ sym (value_at-union R total (map_of R left) (map_of R right) q))

    -- each stamp is the new one, or one of a side
    pub merged_stamps : (test : ℕ → Bool) → test stamp ≡ true → EachStampPasses test (nodes (word_of path) left) → EachStampPasses test (nodes (word_of path) right) → EachStampPasses test (nodes (word_of path) new)
    merged_stamps test stamped left_pass right_pass =
        pass_listed R path test [] new
        (m.stamps test stamped (listed_pass R path test 0 [] left (root_is_trie R path total exact small left left_root) left_pass) (listed_pass R path test 0 [] right (root_is_trie R path total exact small right right_root) right_pass))

    pub merged_none_above : (newest : ℕ) → stamp ≤ newest → NoneAbove newest (nodes (word_of path) left) → NoneAbove newest (nodes (word_of path) right) → NoneAbove newest (nodes (word_of path) new)
    merged_none_above newest le left_none right_none =
        pass_none_above newest (nodes (word_of path) new)
        (merged_stamps (λ s. leb s newest) (le-leb stamp newest le) (none_above_pass newest (nodes (word_of path) left) left_none) (none_above_pass newest (nodes (word_of path) right) right_none))
