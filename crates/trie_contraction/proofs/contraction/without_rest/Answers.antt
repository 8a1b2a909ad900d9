use Rattle.std.proofs.Common.{◌≡◌, ◌*◌, ◌%◌, ◌^◌, ◌-◌, [], ◌∷◌, map, length, ap, ◌∙◌, sym, arith, subst, IfOk}
use Rattle.std.specs.List.{remove}
use Rattle.std.specs.Int.{bit_not, w32}
use Rattle.std.specs.Int.RustNames.{bit_and}
use Rattle.std.proofs.lemmas.List.{length-map, get_or-map}
use Rattle.std.proofs.lemmas.List.Edits.{length-remove}
use Rattle.trie_shape.specs.Tree.{branch, trees}
use Rattle.trie_shape.specs.View.{tree}
use Rattle.trie_shape.specs.Drawn.{drawn_up}
use Rattle.trie_contraction.proofs.Drawn.{drawn_up_only, drawn_up_root, drawn_up_more, drawn_up_branch}
use Rattle.trie_shape.proofs.Shortened.{remove_of_two}
use Rattle.trie_contraction.proofs.contraction.without_rest.Goals as goal
use Rattle.trie_contraction.proofs.contraction.without_rest.Goals.{then-level-gt0+then-old-eq2+else-is_pairs, else-level-gt0, else-level-gt0-via-then-level-gt0+else-old-eq2, else-level-gt0-via-else-level-gt0}

pub returns-then-is_pairs : goal.returns-then-is_pairs
returns-then-is_pairs g c =
    let a = c.args in
    let b = a.old in
    let items = b.children.now in
    let narrower = bit_and b.bitmap (bit_not w32 (1 * 2 ^ a.digit % 2 ^ 32)) in
    let two : length items ≡ 2 = omega (arith, c.if-old-eq2.true) in
    let long = length-map items tree in
    let n = c.nth-other.result.now in
    let only = remove_of_two (map tree items) a.at (tree n) (omega (arith, long, two)) (omega (arith, long, c.requires.at))
    ∙ ap (λ t. t ∷ []) (get_or-map tree items (1 - a.at) n (tree n) (omega (arith, two, c.requires.at)) ∙ sym (ap tree c.nth-other.ensures)) in
    let drawn = ap (λ ts. drawn_up a.level (branch a.stamp.0 (b.size - 1) narrower (trees ts))) only ∙ drawn_up_only a.level a.stamp.0 (b.size - 1) narrower (tree n) (omega (arith, c.if-level-gt0.true)) (sym c.is_pairs.ensures ∙ c.if-is_pairs.true) in
    subst (λ t. IfOk c.try_clone.result (λ n. tree n ≡ t)) (sym drawn) c.try_clone.ensures

pub returns : goal.returns
returns g c =
    let a = c.args in
    let b = a.old in
    let s = a.stamp.0 in
    let size = b.size - 1 in
    let items = b.children.now in
    let narrower = bit_and b.bitmap (bit_not w32 (1 * 2 ^ a.digit % 2 ^ 32)) in
    let ts = remove (map tree items) a.at in
    let long = length-map items tree in
    let shorter = length-remove (map tree items) a.at (omega (arith, long, c.requires.at)) in
    let kept : drawn_up a.level (branch s size narrower (trees ts)) ≡ branch s size narrower (trees ts) =
    elim c.if-level-gt0.branch [
      | then-level-gt0+then-old-eq2+else-is_pairs w ↦
          let n = w.nth-other.result.now in
          let two : length items ≡ 2 = omega (arith, w.if-old-eq2.true) in
          let only = remove_of_two (map tree items) a.at (tree n) (omega (arith, long, two)) (omega (arith, long, c.requires.at))
          ∙ ap (λ t. t ∷ []) (get_or-map tree items (1 - a.at) n (tree n) (omega (arith, two, c.requires.at)) ∙ sym (ap tree w.nth-other.ensures)) in
          subst (λ xs. drawn_up a.level (branch s size narrower (trees xs)) ≡ branch s size narrower (trees xs)) (sym only) (drawn_up_branch a.level s size narrower (tree n) (sym w.is_pairs.ensures ∙ w.if-is_pairs.false))
      | else-level-gt0 w ↦ elim w.else-level-gt0.branch [
        | else-level-gt0-via-then-level-gt0+else-old-eq2 v ↦ drawn_up_more a.level s size narrower ts (λ one. omega (arith, one, long, shorter, v.if-old-eq2.false))
        | else-level-gt0-via-else-level-gt0 v ↦ drawn_up_root a.level _ (omega (arith, v.if-level-gt0.false))
      ]
    ] in
    subst (λ t. IfOk c.without_child.result (λ n. tree n ≡ t)) (sym kept) c.without_child.ensures
