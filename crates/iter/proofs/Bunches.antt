-- Pairs that are taken from a trie many at a time.
use Rattle.std.proofs.Common.{◌≡◌, ℕ, zero, suc, ◌+◌, ◌<◌, ◌≤◌, ◌==◌, Bool, true, List, [], ◌∷◌, ◌++◌, Option, Some, None, All, IsSome, length, map, take, drop, get_or, refl, ap, ◌∙◌, sym, arith, length-append}
use Rattle.std.proofs.lemmas.Bool.{eqb-true}
use Rattle.std.proofs.lemmas.List.{append_assoc, drop_more, flat_map_more, length-map, map-append, nil_from_length, take_more}
use Rattle.std.proofs.lemmas.List.Elements.{All-nil, All-cons}
use Rattle.std.proofs.lemmas.List.Folds.{length-flat_map-take}
use Rattle.std.proofs.lemmas.List.Sums.{sum_by-cons}
use Rattle.trie_shape.specs.Counts.{node_count, count_of_all}
use Rattle.trie_shape.specs.Inside.{lent}
use Rattle.trie_shape.specs.Tree.{Tree, entries, entries_of_all, trees}
use Rattle.trie_shape.specs.View.{branch_of, pair_values, tree}
use Rattle.trie_shape.specs.declared.contents.Branch.{Branch as Lent}
use Rattle.trie_shape.specs.declared.node.Node.{Node}
use Rattle.iter.specs.Bunches.{held, nodes_in, pairs_held, pairs_in}
use denote.Ref.{Bor}

-- a place of a bunch
abbrev pub Place : Type 0 → Type 0 → Type 0
Place K V = Option (Bor (K × V))

module _ {K V : Type 0} where
  -- places each of which holds a pair have the pairs that were pushed into them
  pub held_pairs : (places : List (Place K V)) (ps : List (K × V)) → map held places ≡ map Some ps → pairs_held places ≡ ps
  held_pairs [] [] e = refl
  held_pairs [] (p ∷ ps) e = absurd (cc)
  held_pairs (place ∷ places) [] e = absurd (cc)
  held_pairs (None ∷ places) (p ∷ ps) e = absurd (cc)
  held_pairs (Some x ∷ places) (p ∷ ps) e =
      let first : pair_values x.now ≡ p = cc in
      let rest : map held places ≡ map Some ps = cc in
      ap (λ y. y ∷ pairs_held places) first ∙ ap (λ ys. p ∷ ys) (held_pairs places ps rest)

  pub all_held : (places : List (Place K V)) (ps : List (K × V)) → map held places ≡ map Some ps → All IsSome places
  all_held [] ps e = All-nil IsSome
  all_held (place ∷ places) [] e = absurd (cc)
  all_held (None ∷ places) (p ∷ ps) e = absurd (cc)
  all_held (Some x ∷ places) (p ∷ ps) e =
      let rest : map held places ≡ map Some ps = cc in
      All-cons IsSome (Some x) places refl (all_held places ps rest)

  -- each pair that is pushed takes one place
  pub pushed_count : (new old : List (Place K V)) (ps : List (K × V)) → map held new ≡ map held old ++ map Some ps → length new ≡ length old + length ps
  pushed_count new old ps e =
      omega (arith, ap length e, length-map new held, length-append (map held old) (map Some ps), length-map old held, length-map ps Some)

  -- the nodes of a row up to a number, and the one there, take no more places than the row has pairs
  pub room_for_child : {S X Y : Type 0} (row : List (Node K V S X Y)) (child : Node K V S X Y) (n : ℕ) (new old : List (Place K V)) → n < length row → child ≡ get_or row n child
      → map held new ≡ map held old ++ map Some (pairs_in (take n row)) → length new + length (entries (tree child)) ≤ length old + length (pairs_in row)
  room_for_child row child n new old below at e =
      let pushed = pushed_count new old (pairs_in (take n row)) e in
      let part = length-flat_map-take (λ node. entries (tree node)) row n child below in
      omega (arith, pushed, part, ap (λ u. length (entries (tree u))) at)

  -- a node of a row was pushed behind those before it
  pub pushed_more : {S X Y : Type 0} (row : List (Node K V S X Y)) (child : Node K V S X Y) (n : ℕ) (es : List (K × V)) (new mid old : List (Place K V)) → n < length row → child ≡ get_or row n child → entries (tree child) ≡ es
      → map held mid ≡ map held old ++ map Some (pairs_in (take n row)) → map held new ≡ map held mid ++ map Some es → map held new ≡ map held old ++ map Some (pairs_in (take (n + 1) row))
  pushed_more row child n es new mid old below at own before e =
      let ps = pairs_in (take n row) in
      let more : pairs_in (take (n + 1) row) ≡ ps ++ es =
      ap pairs_in (take_more row n child below ∙ ap (λ x. take n row ++ x ∷ []) (sym at)) ∙ sym (flat_map_more (λ node. entries (tree node)) [] (take n row) child) ∙ ap (λ xs. ps ++ xs) own in
      e ∙ ap (λ xs. xs ++ map Some es) before ∙ append_assoc (map held old) (map Some ps) (map Some es) ∙ ap (λ xs. map held old ++ xs) (sym (map-append Some ps es) ∙ ap (map Some) (sym more))

  -- a branch has the pairs below its row, and the nodes there and itself
  pairs_of_row : {S X Y : Type 0} (row : List (Node K V S X Y)) → entries_of_all (trees (map tree row)) ≡ pairs_in row
  pairs_of_row [] = refl
  pairs_of_row (node ∷ row) = ap (λ ps. entries (tree node) ++ ps) (pairs_of_row row)

  nodes_of_row : {S X Y : Type 0} (row : List (Node K V S X Y)) → count_of_all (trees (map tree row)) ≡ nodes_in row
  nodes_of_row [] = refl
  nodes_of_row (node ∷ row) = ap (λ n. node_count (tree node) + n) (nodes_of_row row) ∙ sym (sum_by-cons (λ u. node_count (tree u)) node row)

  pub pairs_opened : {S X Y : Type 0} (t : Tree K V) (b : Lent K V S X Y) → t ≡ branch_of b.stamp.0 (lent b) → entries t ≡ pairs_in b.children.now
  pairs_opened t b e = ap entries e ∙ pairs_of_row b.children.now

  pub nodes_opened : {S X Y : Type 0} (t : Tree K V) (b : Lent K V S X Y) → t ≡ branch_of b.stamp.0 (lent b) → node_count t ≡ suc (nodes_in b.children.now)
  nodes_opened t b e = ap node_count e ∙ ap suc (nodes_of_row b.children.now)

  -- a node of a row has no more nodes than the row
  pub node_within : {S X Y : Type 0} (row : List (Node K V S X Y)) (child : Node K V S X Y) (n : ℕ) → n < length row → child ≡ get_or row n child → node_count (tree child) ≤ nodes_in row
  node_within [] child n below at = absurd (omega arith)
  node_within (node ∷ row) child zero below at =
      let first : node_count (tree child) ≡ node_count (tree node) = ap (λ u. node_count (tree u)) at in
      omega (arith, first, sum_by-cons (λ u. node_count (tree u)) node row)
  node_within (node ∷ row) child (suc n) below at = omega (arith, node_within row child n (omega arith) at, sum_by-cons (λ u. node_count (tree u)) node row)

  -- the pair at a number is the next of those from there on
  pub next_held : (places : List (Place K V)) (i : ℕ) (place : Place K V) (x : Bor (K × V)) → i < length places → place ≡ get_or places i place → place ≡ Some x
      → pairs_held (drop i places) ≡ pair_values x.now ∷ pairs_held (drop (i + 1) places)
  next_held places i place x lt at is = ap pairs_held (drop_more places i place lt ∙ ap (λ p. p ∷ drop (i + 1) places) (sym at ∙ is))

  -- the front of a bucket was pushed, and the rest of it is left
  pub front_pushed : (places : List (Place K V)) (bucket front back : List (K × V)) (rest : List (K × V)) → map held places ≡ map Some (map pair_values front) → bucket ≡ front ++ back
      → map pair_values bucket ++ rest ≡ pairs_held places ++ (map pair_values back ++ rest)
  front_pushed places bucket front back rest e split =
      ap (λ xs. map pair_values xs ++ rest) split ∙ ap (λ ys. ys ++ rest) (map-append pair_values front back)
      ∙ append_assoc (map pair_values front) (map pair_values back) rest
      ∙ ap (λ ys. ys ++ (map pair_values back ++ rest)) (sym (held_pairs places (map pair_values front) e))

-- a slice that tells that it is empty has no elements
pub empty_of : {X : Type 0} (xs : List X) (b : Bool) → b ≡ (length xs == 0) → b ≡ true → xs ≡ []
empty_of xs b is e = nil_from_length xs (eqb-true (length xs) 0 (sym is ∙ e))
