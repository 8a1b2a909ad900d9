-- The root of the pairs of one first digit: a branch with one child of another root.
use Rattle.std.proofs.Common.{◌≡◌, ℕ, zero, suc, ◌*◌, ◌<◌, ◌≤◌, ◌==◌, ◌%◌, ◌^◌, false, cond, [], ◌∷◌, length, Option, Some, None, IfSome, refl, sym, ap, ◌∙◌, subst, arith, leb, inl, inr}
use Rattle.std.proofs.lemmas.Bool.{le-leb}
use Rattle.std.proofs.lemmas.Bool.Decides.{eqb_tells}
use Rattle.std.proofs.lemmas.Nat.Bits.{bit_at-zero}
use Rattle.std.specs.declared.cmp.Ordering.{Ordering}
use Rattle.std.specs.declared.cmp.Ordering.TheVariants.{Equal}
use Rattle.std.specs.Cmp.{IsTotalOrder}
use Rattle.std.specs.FinMap.{find}
use Rattle.std.specs.Int.{bit_at}
use Rattle.std.specs.Int.Bits.{or_zero_l}
use Rattle.std.specs.List.{insert}
use Rattle.std.specs.Option.{option_or}
use Rattle.hash_path.specs.Digits.{digit, fan_out, word_bits}
use Rattle.trie_merging.specs.Merges.{StampsPass, child_at, pairs_of}
use Rattle.trie_shape.specs.Map.{value_at}
use Rattle.trie_shape.specs.Roots.{IsRoot, map_of, word_of}
use Rattle.trie_shape.specs.Shape.{Fits, NoneAbove, nodes}
use Rattle.trie_shape.specs.Tree.{Tree, branch, more_trees, no_trees, entries, IsTrie}
use Rattle.trie_shape.proofs.Divides.{trie_fits}
use Rattle.trie_shape.proofs.Empty.{empty_is_root}
use Rattle.trie_shape.proofs.Roots.{find_entries, length_map_of, root_is_trie, trie_is_root}
use Rattle.trie_shape.proofs.Tries.{find_other}
use Rattle.trie_merging.proofs.ChildAt.{IsBelow}
use Rattle.trie_merging.proofs.StampTests.{listed_pass, none_above_pass, pass_listed, pass_none_above}
use Rattle.united_roots.proofs.FirstDigit.{root_side}
use Rattle.united_roots.proofs.OneMore.{more_finds, more_trie}

or_nothing : {A : Type 0} (o : Option A) → option_or o None ≡ o
or_nothing (Some x) = refl
or_nothing None = refl

-- an element is alone in a list that had none, at whatever place
alone : {A : Type 0} (n : ℕ) (x : A) → x ∷ [] ≡ insert [] n x
alone zero x = refl
alone (suc n) x = refl

module _ {K V : Type 0} (R : K → K → Ordering) (path : K → ℕ) (total : IsTotalOrder R) (exact : (x y : K) → R x y ≡ Equal → x ≡ y) (small : (k : K) → path k < 2 ^ word_bits) (d : ℕ) (root : Tree K V) (is_root : IsRoot R path root) where
  root_trie : IsTrie R path 0 root
  root_trie = root_is_trie R path total exact small root is_root

  -- a map that has, at the keys of the digit, what the root's has, and no other key
  abbrev IsPart : (K → Option V) → Type 0
  IsPart at = (q : K) → at q ≡ cond (digit (path q) 0 == d) (value_at R (map_of R root) q) None

  -- what the root's map has at a key of the digit is found below the digit's child
  at_digit : (at : K → Option V) → ((q : K) → at q ≡ find R q (pairs_of (child_at root d))) → IsPart at
  at_digit at is q = elim (eqb_tells (digit (path q) 0) d) as (λ _. at q ≡ cond (digit (path q) 0 == d) (value_at R (map_of R root) q) None) [
    | inl e ↦
        is q
        ∙ ap (λ n. find R q (pairs_of (child_at root n))) (sym e.1)
        ∙ sym ((root_side R path total exact root root_trie).1.finds q)
        ∙ find_entries R path total root q
        ∙ ap (λ b. cond b (value_at R (map_of R root) q) None) (sym e.0)
    | inr e ↦
        is q
        ∙ nowhere (child_at root d) ((root_side R path total exact root root_trie).1.known d) e.1
        ∙ ap (λ b. cond b (value_at R (map_of R root) q) None) (sym e.0)
  ]
    where
      nowhere : (o : Option (Tree K V)) → IfSome o (IsBelow R path 0 d) → (digit (path q) 0 ≡ d → ⊥) → find R q (pairs_of o) ≡ None
      nowhere (Some c) h ne = find_other R path exact 0 d q (entries c) ne h.keys
      nowhere None h ne = refl

  -- there is no child of the digit
  pub part_none : None ≡ child_at root d → (m : _) → m ≡ [] → IsPart (value_at R m)
  part_none none m empty = at_digit (value_at R m) (λ q. ap (λ n. value_at R n q) empty ∙ ap (λ o. find R q (pairs_of o)) none)

  module _ (below : d < fan_out) (c : Tree K V) (some : Some c ≡ child_at root d) (newest size : ℕ) (sized : size ≡ length (entries c)) where
    -- the branch with this child alone
    abbrev only : Tree K V
    only = branch newest size (1 * 2 ^ d % 2 ^ 32) (more_trees c no_trees)

    abbrev no_child : Tree K V
    no_child = branch newest 0 0 no_trees

    empty_trie : IsTrie R path 0 no_child
    empty_trie = root_is_trie R path total exact small no_child (empty_is_root R path newest)

    no_bit : (bit_at 0 d == 1) ≡ false
    no_bit = ap (λ n. n == 1) (bit_at-zero d)

    pub below_root : IsBelow R path 0 d c
    below_root = subst (λ o. IfSome o (IsBelow R path 0 d)) (sym some) ((root_side R path total exact root root_trie).1.known d)

    only_trie : IsTrie R path 0 only
    only_trie =
        subst (λ b. IsTrie R path 0 (branch newest size b (more_trees c no_trees))) (or_zero_l (1 * 2 ^ d % 2 ^ 32))
        (more_trie R path exact d below newest 0 0 [] empty_trie no_bit c below_root (c ∷ []) (alone _ c) newest size (omega (arith, sized)))

    pub only_root : IsRoot R path only
    only_root = trie_is_root R path total exact small only only_trie

    only_finds : (q : K) → find R q (entries only) ≡ find R q (entries c)
    only_finds q = more_finds R path exact d below newest 0 0 [] empty_trie no_bit c below_root (c ∷ []) (alone _ c) q ∙ or_nothing (find R q (entries c))

    pub part_some : IsPart (value_at R (map_of R only))
    part_some = at_digit (value_at R (map_of R only)) (λ q. sym (find_entries R path total only q) ∙ only_finds q ∙ ap (λ o. find R q (pairs_of o)) some)

    pub part_few : length (map_of R only) ≤ length (map_of R root)
    part_few =
        omega (
          arith,
          sized,
          only_trie.2,
          length_map_of R path total exact small only only_trie,
          (root_side R path total exact root root_trie).1.fewer d,
          ap (λ (o : Option (Tree K V)). length (pairs_of o)) some,
          length_map_of R path total exact small root root_trie,
        )

    pub part_none_above : NoneAbove newest (nodes (word_of path) root) → NoneAbove newest (nodes (word_of path) only)
    part_none_above none =
        let passes : StampsPass (λ s. leb s newest) root = listed_pass R path (λ s. leb s newest) 0 [] root root_trie (none_above_pass newest (nodes (word_of path) root) none) in
        let child : StampsPass (λ s. leb s newest) c = subst (λ o. IfSome o (StampsPass (λ s. leb s newest))) (sym some) ((root_side R path total exact root root_trie).1.within (λ s. leb s newest) d passes) in
        pass_none_above newest (nodes (word_of path) only) (pass_listed R path (λ s. leb s newest) [] only (le-leb newest newest (omega arith), (child, tt)))

-- what is shown of the root of one first digit
pub record IsPartOf {K V : Type 0} (R : K → K → Ordering) (path : K → ℕ) (d newest : ℕ) (root part : Tree K V) : Type 0 where
  pub is_root : IsRoot R path part
  pub at_key : (q : K) → value_at R (map_of R part) q ≡ cond (digit (path q) 0 == d) (value_at R (map_of R root) q) None
  pub few : length (map_of R part) ≤ length (map_of R root)
  pub none_above : NoneAbove newest (nodes (word_of path) part)

pub only_is_part : {K V : Type 0} (R : K → K → Ordering) (path : K → ℕ) (total : IsTotalOrder R) (exact : (x y : K) → R x y ≡ Equal → x ≡ y) (small : (k : K) → path k < 2 ^ word_bits) (d : ℕ) (root : Tree K V) → IsRoot R path root → d < fan_out → (c : Tree K V) → Some c ≡ child_at root d → (newest size : ℕ) → (Fits c → size ≡ length (entries c)) → NoneAbove newest (nodes (word_of path) root) → (part : Tree K V) → part ≡ branch newest size (1 * 2 ^ d % 2 ^ 32) (more_trees c no_trees) → IsPartOf R path d newest root part
only_is_part R path total exact small d root is_root below c some newest size sized none part is =
    let known = below_root R path total exact small d root is_root below c some newest (length (entries c)) refl in
    let counted = sized (trie_fits R path 1 c known.trie) in
    subst (IsPartOf R path d newest root) (sym is) (record {
      is_root = only_root R path total exact small d root is_root below c some newest size counted;
      at_key = part_some R path total exact small d root is_root below c some newest size counted;
      few = part_few R path total exact small d root is_root below c some newest size counted;
      none_above = part_none_above R path total exact small d root is_root below c some newest size counted none;
    })
