-- The way of a key below a branch whose children stand in a row, and the row with a child written.
use Rattle.std.proofs.Common.{◌≡◌, ℕ, zero, suc, ◌<◌, ◌≤◌, ◌==◌, ◌+◌, ◌*◌, ◌/◌, ◌%◌, ◌^◌, true, false, cond, List, [], ◌∷◌, length, map, take, get_or, set, refl, sym, ap, ◌∙◌, arith}
use Rattle.std.proofs.lemmas.List.{map-set, get_or-take}
use Rattle.std.proofs.lemmas.Nat.{mul-le}
use Rattle.hash_path.specs.Digits.{fan_out}
use Rattle.trie_shape.specs.Tree.{digits_from, digits_of}
use Rattle.trie_shape.proofs.Bits.{length-digits_of}
use Rattle.std.proofs.Math.Seq.{map-set_same, take-set-lt}
use Rattle.std.specs.declared.cmp.Ordering.{Ordering}
use Rattle.std.specs.declared.cmp.Ordering.TheVariants.{Equal}
use Rattle.std.specs.Int.{bit_at}
use Rattle.std.specs.Int.RustNames.{count_ones}
use Rattle.trie_shape.specs.View.{tree, in_row}
use Rattle.trie_shape.specs.declared.node.Node.{Node}
use Rattle.trie_shape.proofs.Ways.{Turn, Way, children_long, row_long, within, way}

module _ {K V S X Y : Type 0} {R : K → K → Ordering} {path : K → ℕ} {level : ℕ} {k : K} {d : ℕ} (size bitmap : ℕ) (row : List (Node K V S X Y)) (t : Turn R path level k (in_row size bitmap row) d) where
  -- the row has room for the children
  pub row_has : count_ones bitmap ≤ length row
  row_has = row_long R path level 0 size bitmap row t.trie

  -- the place of a child's digit is one of the children's
  pub place_used : (bit_at bitmap d == 1) ≡ true → {i : ℕ} → i ≡ count_ones (bitmap % 2 ^ d) → i < count_ones bitmap
  place_used has place = omega (arith, within t has place, children_long R path level 0 (in_row size bitmap row) t.trie)

  -- and of the row's
  pub place_in_row : (bit_at bitmap d == 1) ≡ true → {i : ℕ} → i ≡ count_ones (bitmap % 2 ^ d) → i < length row
  place_in_row has place = omega (arith, place_used has place, row_has)

  -- the child that stands there
  pub way_in_row : ((x y : K) → R x y ≡ Equal → x ≡ y) → (bit_at bitmap d == 1) ≡ true → {i : ℕ} → i ≡ count_ones (bitmap % 2 ^ d) → {child : Node K V S X Y} → child ≡ get_or row i child → Way R path level k (in_row size bitmap row) d i child
  way_in_row exact has {i} place {child} is = way t exact has place (is ∙ sym (get_or-take (count_ones bitmap) row i child (place_used has place)))

-- what stands at a place, whatever else were to be given there
pub held_there : {A : Type 0} (xs : List A) (i : ℕ) (x : A) → i < length xs → get_or xs i x ≡ get_or xs i (get_or xs i x)
held_there [] i x lt = absurd (omega arith)
held_there (y ∷ ys) zero x lt = refl
held_there (y ∷ ys) (suc i) x lt = held_there ys i x (omega (arith, lt))

module _ {K V S X Y : Type 0} (n : ℕ) (row : List (Node K V S X Y)) (i : ℕ) (lt : i < n) (node : Node K V S X Y) where
  -- the children once one of them is written
  pub set_in_row : map tree (take n (set row i node)) ≡ set (map tree (take n row)) i (tree node)
  set_in_row = ap (map tree) (take-set-lt n row i node lt) ∙ map-set tree (take n row) i node

  -- and where it stays the tree that it was
  pub same_in_row : (child : Node K V S X Y) → child ≡ get_or row i child → tree node ≡ tree child → map tree (take n (set row i node)) ≡ map tree (take n row)
  same_in_row child is e =
      ap (map tree) (take-set-lt n row i node lt)
      ∙ map-set_same tree (take n row) i node child (e ∙ ap tree (is ∙ sym (get_or-take n row i child lt)))

few_digits : (count d m : ℕ) → length (digits_from count d m) ≤ count
few_digits zero d m = omega arith
few_digits (suc count) d m =
    elim (m % 2 == 1) as (λ b. length (cond b (d ∷ digits_from count (d + 1) (m / 2)) (digits_from count (d + 1) (m / 2))) ≤ suc count) [
      | true ↦ omega (arith, few_digits count (d + 1) (m / 2))
      | false ↦ omega (arith, few_digits count (d + 1) (m / 2))
    ]

few_ones : (m : ℕ) → m < 2 ^ fan_out → count_ones m ≤ fan_out
unfolding digits_of
few_ones m small = omega (arith, few_digits fan_out 0 m, length-digits_of m small)

-- the bytes before a child in its row are counted by a word, where a whole row of places of n bytes has a size
pub place_fits : (bitmap at n : ℕ) → bitmap < 2 ^ fan_out → at < count_ones bitmap → 32 * n < 2 ^ 63 → at * n < 2 ^ 64
place_fits bitmap at n small lt fit = omega (arith, mul-le at n 32 n (omega (arith, lt, few_ones bitmap small)) (omega arith), fit)
