-- What a removal below a branch does to the branch.
use Rattle.std.proofs.Common.{◌≡◌, ℕ, ◌+◌, ◌-◌, ◌*◌, ◌<◌, ◌==◌, ◌%◌, ◌^◌, Bool, false, map, set, Option, None, refl, sym, ap, ◌∙◌, subst, arith}
use Rattle.std.specs.List.{remove}
use Rattle.std.specs.declared.cmp.Ordering.{Ordering}
use Rattle.std.specs.declared.cmp.Ordering.TheVariants.{Equal}
use Rattle.std.specs.Cmp.{IsTotalOrder}
use Rattle.std.specs.FinMap.{find}
use Rattle.std.specs.Int.{bit_at, bit_not, w32}
use Rattle.std.specs.Int.RustNames.{bit_and}
use Rattle.trie_shape.specs.Tree.{Tree, branch, trees, entries}
use Rattle.trie_shape.specs.View.{tree, Below, branch_of}
use Rattle.trie_copy.specs.Removals.{is_removable, IsTaken, IsOnly, Leaves}
use Rattle.trie_shape.specs.Drawn.{drawn_up}
use Rattle.trie_shape.specs.declared.node.Node.{Node}
use Rattle.trie_contraction.proofs.Removals.{removes_absent, removes_nothing, some_size, removes_gone, removes_left}
use Rattle.trie_shape.proofs.Ways.{Turn, Way}

-- nothing is removed where no child has the key's digit
pub absent_below : {K V S X Y : Type 0} {R : K → K → Ordering} {path : K → ℕ} {level : ℕ} {k : K} {b : Below K V S X Y} {d : ℕ} → Turn R path level k b d → IsTotalOrder R → ((x y : K) → R x y ≡ Equal → x ≡ y) →
    (before stamp : ℕ) (holds : Option V → Bool) → (bit_at b.bitmap d == 1) ≡ false → (None ≡ find R k (entries (branch_of before b))) × (is_removable R k holds (entries (branch_of before b)) ≡ false)
absent_below {R = R} {path} {level} {k} {b} {d} t total exact before stamp holds lacks =
    removes_absent R path total exact level stamp k holds d t.here t.small before b.size b.bitmap (map tree b.children) (branch_of before b) refl t.trie lacks

module _ {K V S X Y : Type 0} {R : K → K → Ordering} {path : K → ℕ} {level : ℕ} {k : K} {b : Below K V S X Y} {d i : ℕ} {child : Node K V S X Y} (w : Way R path level k b d i child) (total : IsTotalOrder R) (exact : (x y : K) → R x y ≡ Equal → x ≡ y)
    (before stamp : ℕ) (holds : Option V → Bool) where
  -- nor where nothing is removed from the child
  pub nothing_below : (found : Option V) → (found ≡ find R k (entries (tree child))) × (is_removable R k holds (entries (tree child)) ≡ false) →
      (found ≡ find R k (entries (branch_of before b))) × (is_removable R k holds (entries (branch_of before b)) ≡ false)
  nothing_below = removes_nothing R path total exact level stamp k holds d w.turn.here w.turn.small before b.size b.bitmap (map tree b.children) (branch_of before b) refl w.turn.trie w.has (tree child) w.at

  -- the branch has a pair to lose
  pub size_below : (v : V) → IsTaken R k holds (tree child) v → 0 < b.size
  size_below = some_size R path total exact level stamp k holds d w.turn.here w.turn.small before b.size b.bitmap (map tree b.children) (branch_of before b) refl w.turn.trie w.has (tree child) w.at

  -- the child goes with its only pair
  pub gone_below : (v : V) → IsTaken R k holds (tree child) v → IsOnly R k (tree child) → (new : Tree K V) →
      new ≡ drawn_up level (branch stamp (b.size - 1) (bit_and b.bitmap (bit_not w32 (1 * 2 ^ d % 2 ^ 32))) (trees (remove (map tree b.children) i))) → Leaves R path level stamp k holds (branch_of before b) v new
  gone_below v taken only new made =
      let ts = map tree b.children in
      let some = size_below v taken in
      subst (Leaves R path level stamp k holds (branch_of before b) v)
      (sym (made ∙ ap (λ n. drawn_up level (branch stamp (b.size - 1) (bit_and b.bitmap (bit_not w32 (1 * 2 ^ d % 2 ^ 32))) (trees (remove ts n)))) w.place))
      (removes_gone R path total exact level stamp k holds d w.turn.here w.turn.small before b.size b.bitmap ts (branch_of before b) refl w.turn.trie w.has (tree child) w.at v taken only (b.size - 1) (omega (arith, some)))

  -- the child is left without the pair
  pub left_below : (v : V) (left : Tree K V) → Leaves R path (level + 1) stamp k holds (tree child) v left → (new : Tree K V) →
      new ≡ drawn_up level (branch stamp (b.size - 1) b.bitmap (trees (set (map tree b.children) i left))) → Leaves R path level stamp k holds (branch_of before b) v new
  left_below v left leaves new made =
      let ts = map tree b.children in
      let some = size_below v leaves.taken in
      subst (Leaves R path level stamp k holds (branch_of before b) v)
      (sym (made ∙ ap (λ n. drawn_up level (branch stamp (b.size - 1) b.bitmap (trees (set ts n left)))) w.place))
      (removes_left R path total exact level stamp k holds d w.turn.here w.turn.small before b.size b.bitmap ts (branch_of before b) refl w.turn.trie w.has (tree child) w.at v left leaves (b.size - 1) (omega (arith, some)))
