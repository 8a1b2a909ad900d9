-- What an exchange makes of a node where it stands.
use Rattle.std.proofs.Common.{◌≡◌, ℕ, ◌+◌, ◌-◌, Bool, Some, Option, List, [], ◌∷◌, map, length, set, get_or, refl, sym, ap, ◌∙◌, subst, arith}
use Rattle.std.specs.declared.cmp.Ordering.{Ordering}
use Rattle.std.specs.declared.cmp.Ordering.TheVariants.{Equal}
use Rattle.std.specs.Cmp.{IsTotalOrder}
use Rattle.trie_shape.specs.Tree.{Tree, IsTrie, branch, bucket, entries, trees}
use Rattle.trie_shape.specs.View.{tree, Below, branch_of}
use Rattle.trie_shape.specs.declared.node.Node.{Node}
use Rattle.trie_shape.proofs.Ways.{Way}
use Rattle.trie_copy.proofs.PutsBelow.{child_put}
use Rattle.trie_puts.specs.Exchanging.{Exchanges, ExchangesAt}
use Rattle.trie_puts.proofs.Placing.{stands_at}
use Rattle.trie_puts.specs.declared.exchange.Exchange.{Exchange}
use Rattle.trie_puts.specs.declared.exchange.Exchange.TheVariants.{Done, Elsewhere}

-- an exchange of trees is one of trees that are equal to them
pub exchange_equal : {K V S Y : Type 0} (value_of : Y → V) (R : K → K → Ordering) (path : K → ℕ) (level stamp : ℕ) (k : K) (value : Y) (holds : Option V → Bool) (r : Exchange V S Y) {old old2 new new2 : Tree K V} →
    old ≡ old2 → new2 ≡ new → Exchanges value_of R path level stamp k value holds old r new → Exchanges value_of R path level stamp k value holds old2 r new2
exchange_equal value_of R path level stamp k value holds r {old} {old2} {new} {new2} e f h =
    subst (λ x. Exchanges value_of R path level stamp k value holds x r new2) e (subst (Exchanges value_of R path level stamp k value holds old r) (sym f) h)

-- an exchange in a leaf's pair
module _ {K V S Y : Type 0} (value_of : Y → V) (R : K → K → Ordering) (total : IsTotalOrder R) (path : K → ℕ) (exact : (x y : K) → R x y ≡ Equal → x ≡ y) (level stamp : ℕ) (k : K) (value : Y) (holds : Option V → Bool) where
  pub exchange_leaf : (old : Tree K V) (before after : ℕ) (x y : K × V) (r : Exchange V S Y) → bucket before (x ∷ []) ≡ old → R k x.0 ≡ Equal → IsTrie R path level old →
      ExchangesAt value_of R path stamp value holds before x r after y → Exchanges value_of R path level stamp k value holds old r (bucket after (y ∷ []))
  exchange_leaf old before after x y r opened tie trie h =
      exchange_equal value_of R path level stamp k value holds r opened refl
      (h k level (x ∷ []) 0 (stands_at R total path exact k 0 (x ∷ []) x tt (omega arith) tie) refl (subst (IsTrie R path level) (sym opened) trie))

-- an exchange below a branch
module _ {K V S X Y : Type 0} (value_of : Y → V) {R : K → K → Ordering} {path : K → ℕ} {level : ℕ} {k : K} {b : Below K V S X Y} {d i : ℕ} {child : Node K V S X Y} (w : Way R path level k b d i child) (total : IsTotalOrder R) (exact : (x y : K) → R x y ≡ Equal → x ≡ y) (before stamp : ℕ) (value : Y) (holds : Option V → Bool) where
  pub exchange_child : (node : Node K V S X Y) (previous : Y) → Exchanges {S = S} value_of R path (level + 1) stamp k value holds (tree child) (Done previous) (tree node) →
      (new : Tree K V) → new ≡ branch stamp b.size b.bitmap (trees (set (map tree b.children) i (tree node))) → Exchanges {S = S} value_of R path level stamp k value holds (branch_of before b) (Done previous) new
  exchange_child node previous h new made =
      let writes = child_put w total exact before stamp (value_of value) (tree node) h.2 refl refl new
      (made ∙ ap (λ n. branch stamp n b.bitmap (trees (set (map tree b.children) i (tree node)))) (omega (arith, h.3))) in
      let whole = subst (IsTrie R path level) made writes.trie in
      (w.found ∙ h.0, h.1, writes, ap (λ t. length (entries t)) made ∙ sym whole.2 ∙ w.counted)
