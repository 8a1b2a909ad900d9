-- What a put does to a branch where it stands.
use Rattle.std.proofs.Common.{◌≡◌, ℕ, ◌+◌, ◌*◌, ◌%◌, ◌^◌, ◌==◌, ◌||◌, Bool, true, false, Option, None, Some, [], ◌∷◌, map, option_map, sym, ap, ◌∙◌, subst, Result, Ok, Err, IfOk, bit_or}
use mathlib.Core.Bool.{false≢true}
use Rattle.std.specs.List.{insert}
use Rattle.std.specs.FinMap.{find}
use Rattle.std.specs.declared.cmp.Ordering.{Ordering}
use Rattle.std.specs.declared.cmp.Ordering.TheVariants.{Equal}
use Rattle.std.specs.Cmp.{IsTotalOrder}
use Rattle.std.specs.Int.{bit_at}
use Rattle.std.specs.Int.RustNames.{count_ones}
use Rattle.trie_shape.specs.Tree.{Tree, branch, bucket, trees, entries}
use Rattle.trie_shape.specs.View.{tree, Below, branch_of}
use Rattle.trie_shape.proofs.Ways.{Turn, absent}
use Rattle.trie_copy.specs.Writes.{Writes}
use Rattle.trie_puts.specs.PutInPlace.{PutsIn, is_refusable}
use Rattle.trie_puts.specs.PutInside.{PutsInside, PutsLeaf}
use Rattle.trie_copy.specs.declared.put.NewPair.{NewPair}
use Rattle.trie_puts.specs.declared.put_in_place.PutInside.{PutInside}
use Rattle.trie_puts.specs.declared.put_in_place.PutInside.TheVariants.{Done, GivesWay, Elsewhere}
use Rattle.trie_copy.proofs.PutsBelow.{leaf_added}
use Rattle.trie_puts.proofs.Standing.{puts_equal}

pub refusable_absent : {V : Type 0} (holds : Option V → Bool) → holds None ≡ true → is_refusable holds None ≡ true
refusable_absent holds e = ap (λ b. b || false) e

-- a put into a node of trees is one of trees that are equal to them
pub inside_equal : {K V S X Y : Type 0} (value_of : Y → V) (R : K → K → Ordering) (path : K → ℕ) (level : ℕ) (entry : NewPair K V S X Y) (holds : Option V → Bool) (r : PutInside K V S X Y) {old old2 new new2 : Tree K V} →
    old ≡ old2 → new2 ≡ new → PutsInside value_of R path level entry holds old r new → PutsInside value_of R path level entry holds old2 r new2
inside_equal value_of R path level entry holds (Done d) {old} {old2} {new} {new2} e f h = puts_equal R path level entry.stamp.0 entry.pair.0 entry.pair.1 holds old old2 new new2 (option_map value_of d.previous) d.written e f h
inside_equal value_of R path level entry holds (GivesWay node) {old} {old2} {new} {new2} e f h = subst (λ x. PutsIn R path level entry.stamp.0 entry.pair.0 entry.pair.1 holds x None true (tree node)) e h
inside_equal value_of R path level entry holds (Elsewhere back) {old} {old2} {new} {new2} e f h = (h.0, f ∙ h.1 ∙ e)

-- a leaf put below a branch, none of whose children has the key's digit
module _ {K V S X Y : Type 0} {R : K → K → Ordering} {path : K → ℕ} {level : ℕ} {k : K} {b : Below K V S X Y} {d : ℕ} (value_of : Y → V) (t : Turn R path level k b d) (total : IsTotalOrder R) (exact : (x y : K) → R x y ≡ Equal → x ≡ y) (lacks : (bit_at b.bitmap d == 1) ≡ false) where
  abbrev added_at : ℕ → ℕ → V → Tree K V
  added_at i stamp v = branch stamp (b.size + 1) (bit_or b.bitmap (1 * 2 ^ d % 2 ^ 32)) (trees (insert (map tree b.children) i (bucket stamp ((k, v) ∷ []))))

  of_leaf : {i : ℕ} → i ≡ count_ones (b.bitmap % 2 ^ d) → (before : ℕ) (entry : NewPair K V S X Y) → entry.pair.0 ≡ k → (holds : Option V → Bool) (r : PutInside K V S X Y) (new : Tree K V) →
      PutsLeaf entry (holds None) (added_at i entry.stamp.0 entry.pair.1) (branch_of before b) r new → PutsInside value_of R path level entry holds (branch_of before b) r new
  of_leaf {i} place before entry key holds r new h = of_result r h
    where
      at_place : added_at i entry.stamp.0 entry.pair.1 ≡ added_at (count_ones (b.bitmap % 2 ^ d)) entry.stamp.0 entry.pair.1
      at_place = ap (λ n. added_at n entry.stamp.0 entry.pair.1) place

      none : find R entry.pair.0 (entries (branch_of before b)) ≡ None
      none = ap (λ q. find R q (entries (branch_of before b))) key ∙ absent t exact lacks

      of_result : (r : PutInside K V S X Y) → PutsLeaf entry (holds None) (added_at i entry.stamp.0 entry.pair.1) (branch_of before b) r new → PutsInside value_of R path level entry holds (branch_of before b) r new
      of_result (Done d) h = record {
        previous_is = ap (option_map value_of) h.0 ∙ sym none;
        written_is = h.1 ∙ ap holds (sym none);
        writes = λ e. subst (λ q. Writes R path level entry.stamp.0 q (Some entry.pair.1) (branch_of before b) new) (sym key) (leaf_added t total exact lacks before entry.stamp.0 entry.pair.1 new (h.2 e ∙ at_place));
        kept = h.3;
      }
      of_result (GivesWay node) h = record {
        previous_is = sym none;
        written_is = sym h.0 ∙ ap holds (sym none);
        writes = λ e. subst (λ q. Writes R path level entry.stamp.0 q (Some entry.pair.1) (branch_of before b) (tree node)) (sym key) (leaf_added t total exact lacks before entry.stamp.0 entry.pair.1 (tree node) (h.1 ∙ at_place));
        kept = λ e. absurd (false≢true (sym e));
      }
      of_result (Elsewhere e) h = h

  pub leaf_inside : {i : ℕ} → i ≡ count_ones (b.bitmap % 2 ^ d) → (before : ℕ) (entry : NewPair K V S X Y) → entry.pair.0 ≡ k → (holds : Option V → Bool) {E : Type 0} (r : Result (PutInside K V S X Y) E) (new : Tree K V) →
      IfOk r (λ r. PutsLeaf entry (holds None) (added_at i entry.stamp.0 entry.pair.1) (branch_of before b) r new) → IfOk r (λ r. PutsInside value_of R path level entry holds (branch_of before b) r new)
  leaf_inside place before entry key holds (Ok r) new h = of_leaf place before entry key holds r new h
  leaf_inside place before entry key holds (Err e) new h = tt
