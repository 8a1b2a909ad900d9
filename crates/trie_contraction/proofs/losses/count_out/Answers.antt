use Rattle.std.proofs.Common.{◌≡◌, ◌-◌, [], ◌∷◌, map, take, length, get_or, ap, ◌∙◌, sym, arith, subst}
use Rattle.std.specs.Int.RustNames.{count_ones}
use Rattle.std.proofs.lemmas.List.{length-map, length-take-le}
use Rattle.trie_shape.specs.Tree.{branch, trees}
use Rattle.trie_shape.specs.View.{tree}
use Rattle.trie_shape.specs.Drawn.{drawn_up}
use Rattle.trie_contraction.proofs.Drawn.{drawn_up_root, drawn_up_more, drawn_up_branch}
use Rattle.trie_shape.proofs.Places.{first_of}
use Rattle.trie_contraction.proofs.losses.count_out.Goals as goal
use Rattle.trie_contraction.proofs.losses.count_out.Goals.{then-level-gt0+then-bitmap-eq1+else-is_pairs, else-level-gt0, else-level-gt0-via-then-level-gt0+else-bitmap-eq1, else-level-gt0-via-else-level-gt0}

pub returns-clause-stays : goal.returns-clause-stays
returns-clause-stays g c =
    let a = c.args in
    let s = a.new_stamp.0 in
    let size = a.size.now - 1 in
    let row = a.row.now in
    let items = take (count_ones a.bitmap) row in
    let ts = map tree items in
    let long : length ts ≡ count_ones a.bitmap = length-map items tree ∙ length-take-le (count_ones a.bitmap) row c.requires.row in
    let kept : drawn_up a.level (branch s size a.bitmap (trees ts)) ≡ branch s size a.bitmap (trees ts) =
    elim c.if-level-gt0.branch [
      | then-level-gt0+then-bitmap-eq1+else-is_pairs w ↦
          let n = get_or row 0 w.index-row-0.result in
          let one : count_ones a.bitmap ≡ 1 = w.if-bitmap-eq1.true in
          let only : ts ≡ tree n ∷ [] = ap (map tree) (ap (λ k. take k row) one ∙ first_of row w.index-row-0.result (omega (arith, c.requires.row, one))) in
          subst (λ xs. drawn_up a.level (branch s size a.bitmap (trees xs)) ≡ branch s size a.bitmap (trees xs)) (sym only) (drawn_up_branch a.level s size a.bitmap (tree n) (sym w.is_pairs.ensures ∙ w.if-is_pairs.false))
      | else-level-gt0 w ↦ elim w.else-level-gt0.branch [
        | else-level-gt0-via-then-level-gt0+else-bitmap-eq1 v ↦ drawn_up_more a.level s size a.bitmap ts (λ one. omega (arith, one, long, v.if-bitmap-eq1.false))
        | else-level-gt0-via-else-level-gt0 v ↦ drawn_up_root a.level _ (omega (arith, v.if-level-gt0.false))
      ]
    ] in
    sym kept
