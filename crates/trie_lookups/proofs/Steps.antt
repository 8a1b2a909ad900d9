-- The child of a branch to which a path word leads.
use Rattle.std.proofs.Common.{◌≡◌, ℕ, ◌+◌, ◌<◌, ◌==◌, ◌%◌, ◌^◌, true, ◌∷◌, length, length-append, get_or, map, sym, ap, ◌∙◌, subst, arith}
use Rattle.std.proofs.lemmas.List.{length-map, get_or-map, get_or_at}
use Rattle.std.specs.declared.cmp.Ordering.{Ordering}
use Rattle.std.specs.declared.cmp.Ordering.TheVariants.{Equal}
use Rattle.std.specs.FinMap.{find}
use Rattle.std.specs.Int.{bit_at}
use Rattle.std.specs.Int.RustNames.{count_ones}
use Rattle.hash_path.specs.Digits.{digit, fan_out, word_digits}
use Rattle.trie_shape.specs.Tree.{IsTrie, entries}
use Rattle.trie_shape.specs.View.{tree, Below, branch_of}
use Rattle.trie_shape.specs.declared.node.Node.{Node}
use Rattle.trie_shape.proofs.Tries.{at_child, one_child}

module _ {K V S X Y : Type 0} (R : K → K → Ordering) (path : K → ℕ) (level : ℕ) (b : Below K V S X Y) (trie : IsTrie R path level (branch_of 0 b)) {d : ℕ} (small : d < fan_out) (has : (bit_at b.bitmap d == 1) ≡ true) {i : ℕ} (place : i ≡ count_ones (b.bitmap % 2 ^ d)) where
  -- its place is one of the children's
  pub child_within : i < length b.children
  child_within =
      let c = at_child R path level b.bitmap d small (map tree b.children) trie.3 has in
      omega (arith, place, c.around.place, c.long, ap length c.whole, length-append c.front (c.child ∷ c.back), length-map b.children tree)

  -- it is a trie from the next level on, and finds what the branch finds for the keys of the word
  pub child_leads : (exact : (x y : K) → R x y ≡ Equal → x ≡ y) {child : Node K V S X Y} → child ≡ get_or b.children i child → {word : ℕ} → d ≡ digit word level
      → (level < word_digits) × IsTrie R path (level + 1) (tree child) × ((k : K) → word ≡ path k → find R k (entries (branch_of 0 b)) ≡ find R k (entries (tree child)))
  child_leads exact {child} is {word} digits =
      let ts = map tree b.children in
      let there : tree child ≡ get_or ts (count_ones (b.bitmap % 2 ^ d)) (tree child) =
      ap tree is ∙ sym (get_or-map tree b.children i child (tree child) child_within) ∙ ap (λ n. get_or ts n (tree child)) place in
      let c = at_child R path level b.bitmap d small ts trie.3 has in
      let same : tree child ≡ c.child = there ∙ ap (λ xs. get_or xs (count_ones (b.bitmap % 2 ^ d)) (tree child)) c.whole ∙ get_or_at c.front c.child c.back (tree child) _ (c.long ∙ c.around.place) in (
        omega (arith, trie.0),
        subst (IsTrie R path (level + 1)) (sym same) c.trie,
        λ k word_is. ((one_child R path level b.bitmap d small ts trie.3 exact k (ap (λ w. digit w level) (sym word_is) ∙ sym digits) has).child (tree child) there).1,
      )
