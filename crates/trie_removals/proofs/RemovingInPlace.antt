-- What a removal below a branch does to the branch where it stands.
use Rattle.std.proofs.Common.{◌≡◌, ℕ, ◌+◌, ◌-◌, ◌*◌, ◌<◌, ◌%◌, ◌^◌, Bool, List, map, set, Option, sym, ap, ◌∙◌, subst}
use Rattle.std.proofs.lemmas.List.{map-set}
use Rattle.std.proofs.Math.Seq.{map-set_same}
use Rattle.std.specs.List.{remove}
use Rattle.std.specs.declared.cmp.Ordering.{Ordering}
use Rattle.std.specs.declared.cmp.Ordering.TheVariants.{Equal}
use Rattle.std.specs.Cmp.{IsTotalOrder}
use Rattle.std.specs.Int.{bit_not, w32}
use Rattle.std.specs.Int.RustNames.{bit_and}
use Rattle.trie_shape.specs.Tree.{Tree, branch, trees}
use Rattle.trie_shape.specs.View.{tree, Below, branch_of}
use Rattle.trie_shape.specs.Drawn.{drawn_up}
use Rattle.trie_shape.specs.declared.node.Node.{Node}
use Rattle.trie_shape.proofs.Ways.{Way}
use Rattle.trie_copy.specs.Removals.{Leaves}
use Rattle.trie_removals.specs.RemovalInPlace.{TakesOut, TakesInside}
use Rattle.trie_removals.specs.declared.removal_in_place.RemovedIn.{RemovedIn}
use Rattle.trie_removals.specs.declared.removal_in_place.RemovedIn.TheVariants.{Gone, Left}
use Rattle.trie_removals.specs.declared.removal_in_place.TakenInside.{TakenInside}
use Rattle.trie_contraction.proofs.Removing.{size_below, gone_below, left_below}

-- the child of the key's way was removed from, and node now stands in its place
module _ {K V S X Y : Type 0} {R : K → K → Ordering} {path : K → ℕ} {level : ℕ} {k : K} {b : Below K V S X Y} {d i : ℕ} {child : Node K V S X Y} (value_of : Y → V) (w : Way R path level k b d i child) (total : IsTotalOrder R) (exact : (x y : K) → R x y ≡ Equal → x ≡ y)
    (before stamp : ℕ) (holds : Option V → Bool) (node : Node K V S X Y) (r : RemovedIn V S Y) (taken : TakesOut value_of R path (level + 1) stamp k holds (tree child) r (tree node)) where
  told : {s : RemovedIn V S Y} → r ≡ s → TakesOut value_of R path (level + 1) stamp k holds (tree child) s (tree node)
  told is = subst (λ s. TakesOut value_of R path (level + 1) stamp k holds (tree child) s (tree node)) is taken

  -- the branch has a pair to lose
  pub size_where_gone : {v : Y} → r ≡ Gone v → 0 < b.size
  size_where_gone {v} is = size_below w total exact before stamp holds (value_of v) (told is).0

  pub size_where_left : {v : Y} → r ≡ Left v → 0 < b.size
  size_where_left {v} is = size_below w total exact before stamp holds (value_of v) (told is).taken

  -- it has lost its child, where xs are the children's trees with the node's in the child's place
  pub gone_in_place : {v : Y} → r ≡ Gone v → (xs : List (Tree K V)) → xs ≡ set (map tree b.children) i (tree node) → (new : Tree K V) →
      new ≡ drawn_up level (branch stamp (b.size - 1) (bit_and b.bitmap (bit_not w32 (1 * 2 ^ d % 2 ^ 32))) (trees (remove xs i))) → Leaves R path level stamp k holds (branch_of before b) (value_of v) new
  gone_in_place {v} is xs written new made =
      let h = told is in
      gone_below w total exact before stamp holds (value_of v) h.0 h.1 new
      (made ∙ ap (λ ys. drawn_up level (branch stamp (b.size - 1) (bit_and b.bitmap (bit_not w32 (1 * 2 ^ d % 2 ^ 32))) (trees (remove ys i)))) (written ∙ sym (map-set tree b.children i node) ∙ map-set_same tree b.children i node child (h.3 ∙ ap tree w.is)))

  -- or its child a pair
  pub left_in_place : {v : Y} → r ≡ Left v → (xs : List (Tree K V)) → xs ≡ set (map tree b.children) i (tree node) → (new : Tree K V) →
      new ≡ drawn_up level (branch stamp (b.size - 1) b.bitmap (trees xs)) → Leaves R path level stamp k holds (branch_of before b) (value_of v) new
  left_in_place {v} is xs written new made =
      left_below w total exact before stamp holds (value_of v) (tree node) (told is) new
      (made ∙ ap (λ ys. drawn_up level (branch stamp (b.size - 1) b.bitmap (trees ys))) written)

-- a removal from trees is one from trees that are equal to them
pub takes_equal : {K V S X Y : Type 0} (value_of : Y → V) (R : K → K → Ordering) (path : K → ℕ) (level stamp : ℕ) (k : K) (holds : Option V → Bool) (old old2 new new2 : Tree K V) (r : TakenInside K V S X Y) →
    old ≡ old2 → new2 ≡ new → TakesInside value_of R path level stamp k holds old r new → TakesInside value_of R path level stamp k holds old2 r new2
takes_equal value_of R path level stamp k holds old old2 new new2 r e f h =
    subst (λ x. TakesInside value_of R path level stamp k holds x r new2) e (subst (TakesInside value_of R path level stamp k holds old r) (sym f) h)
