use Rattle.std.proofs.Common.{◌≡◌, ◌*◌, ◌%◌, ◌^◌, ◌-◌, [], ◌∷◌, map, take, length, get_or, ap, ◌∙◌, sym, arith, subst}
use Rattle.std.specs.List.{remove}
use Rattle.std.specs.Int.{bit_not, w32}
use Rattle.std.specs.Int.RustNames.{bit_and, count_ones}
use Rattle.std.proofs.lemmas.List.{length-map, length-take-le, get_or-map, get_or-take}
use Rattle.std.proofs.lemmas.List.Edits.{length-remove}
use Rattle.trie_shape.specs.Tree.{branch, trees}
use Rattle.trie_shape.specs.View.{tree}
use Rattle.trie_shape.specs.Drawn.{drawn_up}
use Rattle.trie_contraction.proofs.Drawn.{drawn_up_root, drawn_up_more, drawn_up_branch}
use Rattle.trie_shape.proofs.Shortened.{remove_of_two, map_remove}
use Rattle.trie_contraction.proofs.losses.lose_child.Goals as goal
use Rattle.trie_contraction.proofs.losses.lose_child.Goals.{then-level-gt0+then-used-eq2+else-is_pairs, else-level-gt0, else-level-gt0-via-then-level-gt0+else-used-eq2, else-level-gt0-via-else-level-gt0}

pub returns-clause-stays : goal.returns-clause-stays
returns-clause-stays g c =
    let a = c.args in
    let s = a.new_stamp.0 in
    let size = a.size.now - 1 in
    let narrower = bit_and a.bitmap.now (bit_not w32 (1 * 2 ^ a.digit % 2 ^ 32)) in
    let n = count_ones a.bitmap.now in
    let row = a.row.now in
    let items = take n row in
    let ts = remove (map tree items) a.at in
    let room : length items ≡ n = length-take-le n row c.requires.row in
    let long : length (map tree items) ≡ n = length-map items tree ∙ room in
    let shorter = length-remove (map tree items) a.at (omega (arith, long, c.requires.at)) in
    let kept : drawn_up a.level (branch s size narrower (trees ts)) ≡ branch s size narrower (trees ts) =
    elim c.if-level-gt0.branch [
      | then-level-gt0+then-used-eq2+else-is_pairs w ↦
          let x = w.index-row-at.result in
          let t = tree (get_or row (1 - a.at) x) in
          let two : n ≡ 2 = w.if-used-eq2.true in
          let only = remove_of_two (map tree items) a.at t (omega (arith, long, two)) (omega (arith, long, c.requires.at))
          ∙ ap (λ t. t ∷ []) (get_or-map tree items (1 - a.at) x t (omega (arith, two, room, c.requires.at)) ∙ ap tree (get_or-take n row (1 - a.at) x (omega (arith, two, c.requires.at)))) in
          subst (λ xs. drawn_up a.level (branch s size narrower (trees xs)) ≡ branch s size narrower (trees xs)) (sym only) (drawn_up_branch a.level s size narrower t (sym w.is_pairs.ensures ∙ w.if-is_pairs.false))
      | else-level-gt0 w ↦ elim w.else-level-gt0.branch [
        | else-level-gt0-via-then-level-gt0+else-used-eq2 v ↦ drawn_up_more a.level s size narrower ts (λ one. omega (arith, one, long, shorter, v.if-used-eq2.false))
        | else-level-gt0-via-else-level-gt0 v ↦ drawn_up_root a.level _ (omega (arith, v.if-level-gt0.false))
      ]
    ] in
    let fewer = c.without_digit.ensures.ones in
    let left : count_ones c.without_digit.result ≡ n - 1 = omega (arith, fewer) in
    let there : take (count_ones c.without_digit.result) c.close_up.new.row ≡ remove items a.at = ap (λ k. take k c.close_up.new.row) left ∙ c.close_up.ensures.row in
    (λ i. branch s size (c.without_digit.ensures.value i) (trees (map tree (there i)))) ∙ ap (λ xs. branch s size narrower (trees xs)) (map_remove tree items a.at (omega (arith, room, c.requires.at))) ∙ sym kept
