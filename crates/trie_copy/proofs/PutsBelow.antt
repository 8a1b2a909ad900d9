-- What a put below a branch makes of it, on the way of the key.
use Rattle.std.proofs.Common.{◌≡◌, ℕ, ◌+◌, ◌-◌, ◌*◌, ◌==◌, ◌%◌, ◌^◌, false, length, map, set, Some, is_some, refl, sym, ap, ◌∙◌, subst, arith, ◌∷◌, [], bit_or}
use Rattle.std.specs.List.{insert}
use Rattle.std.specs.declared.cmp.Ordering.{Ordering}
use Rattle.std.specs.declared.cmp.Ordering.TheVariants.{Equal}
use Rattle.std.specs.Cmp.{IsTotalOrder}
use Rattle.std.specs.Int.{bit_at}
use Rattle.std.specs.Int.RustNames.{count_ones}
use Rattle.hash_path.specs.Digits.{digit, digit_bits}
use Rattle.trie_shape.specs.Tree.{Tree, branch, bucket, trees, entries}
use Rattle.trie_shape.specs.View.{tree, Below, branch_of}
use Rattle.trie_shape.specs.declared.node.Node.{Node}
use Rattle.trie_shape.proofs.Bits.{agree_more}
use Rattle.trie_shape.proofs.Ways.{Turn, Way}
use Rattle.trie_copy.specs.Writes.{Writes, KeysAgree}
use Rattle.trie_copy.proofs.Branches.{puts_replaced, puts_added}

module _ {K V S X Y : Type 0} {R : K → K → Ordering} {path : K → ℕ} {level : ℕ} {k : K} {b : Below K V S X Y} {d : ℕ} (t : Turn R path level k b d) where
  -- a put of a leaf where no child has the digit
  pub leaf_added : IsTotalOrder R → ((x y : K) → R x y ≡ Equal → x ≡ y) → (bit_at b.bitmap d == 1) ≡ false → (before stamp : ℕ) (v : V) (new : Tree K V) →
      new ≡ branch stamp (b.size + 1) (bit_or b.bitmap (1 * 2 ^ d % 2 ^ 32)) (trees (insert (map tree b.children) (count_ones (b.bitmap % 2 ^ d)) (bucket stamp ((k, v) ∷ [])))) →
      Writes R path level stamp k (Some v) (branch_of before b) new
  leaf_added total exact lacks before stamp v new made =
      puts_added R path total exact level stamp k v d t.here t.small before b.size b.bitmap (map tree b.children) (branch_of before b) refl t.trie lacks (bucket stamp ((k, v) ∷ [])) refl new made

module _ {K V S X Y : Type 0} {R : K → K → Ordering} {path : K → ℕ} {level : ℕ} {k : K} {b : Below K V S X Y} {d i : ℕ} {child : Node K V S X Y} (w : Way R path level k b d i child) where
  -- the keys of the child agree with the key's word one level further
  pub agree_below : {word : ℕ} → word ≡ path k → KeysAgree R path level word (entries (branch_of 0 b)) → KeysAgree R path (level + 1) word (entries (tree child))
  agree_below {word} e agree q found =
      let digits : digit (path q) level ≡ d = w.keys q found in
      let here : digit word level ≡ d = ap (λ x. digit x level) e ∙ w.turn.here in
      let more : path q % 2 ^ (digit_bits + digit_bits * level) ≡ word % 2 ^ (digit_bits + digit_bits * level) = agree_more (path q) word level (agree q (ap is_some (w.finds q digits) ∙ found)) (digits ∙ sym here) in
      subst (λ n. path q % 2 ^ n ≡ word % 2 ^ n) {x = digit_bits + digit_bits * level} {y = digit_bits * (level + 1)} (omega arith) more

  -- a put into the child
  pub child_put : IsTotalOrder R → ((x y : K) → R x y ≡ Equal → x ≡ y) → (before stamp : ℕ) (v : V) (u : Tree K V) → Writes R path (level + 1) stamp k (Some v) (tree child) u →
      {more less : ℕ} → more ≡ length (entries u) → less ≡ length (entries (tree child)) → (new : Tree K V) → new ≡ branch stamp (b.size + more - less) b.bitmap (trees (set (map tree b.children) i u)) →
      Writes R path level stamp k (Some v) (branch_of before b) new
  child_put total exact before stamp v u given {more} {less} e f new made =
      let ts = map tree b.children in
      puts_replaced R path total exact level stamp k v d w.turn.here w.turn.small before b.size b.bitmap ts (branch_of before b) refl w.turn.trie w.has (tree child) u w.at given
      (b.size + more - less) new (omega (arith, e, f, w.fewer)) (made ∙ ap (λ n. branch stamp (b.size + more - less) b.bitmap (trees (set ts n u))) w.place)
