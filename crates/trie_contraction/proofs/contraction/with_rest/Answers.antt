use Rattle.std.proofs.Common.{◌≡◌, ◌-◌, map, set, ap, ◌∙◌, sym, arith, subst, IfOk}
use Rattle.std.proofs.lemmas.List.{length-map}
use Rattle.std.proofs.lemmas.List.{length-set}
use Rattle.trie_shape.specs.Tree.{branch, trees}
use Rattle.trie_shape.specs.View.{tree}
use Rattle.trie_shape.specs.Drawn.{drawn_up}
use Rattle.trie_contraction.proofs.Drawn.{drawn_up_only, drawn_up_root, drawn_up_more, drawn_up_branch}
use Rattle.trie_shape.proofs.Shortened.{set_only}
use Rattle.trie_contraction.proofs.contraction.with_rest.Goals as goal
use Rattle.trie_contraction.proofs.contraction.with_rest.Goals.{else-level-gt0-via-then-level-gt0+then-old-eq1+else-is_pairs, else-level-gt0-via-then-level-gt0+else-old-eq1, else-level-gt0-via-else-level-gt0}

pub returns-then-is_pairs : goal.returns-then-is_pairs
returns-then-is_pairs g c =
    let a = c.args in
    let b = a.old in
    let ts = map tree b.children.now in
    let long = length-map b.children.now tree in
    let only = set_only ts a.at (tree a.child) (omega (arith, long, c.if-old-eq1.true)) (omega (arith, long, c.requires.at)) in
    sym (ap (λ xs. drawn_up a.level (branch a.stamp.0 (b.size - 1) b.bitmap (trees xs))) only ∙ drawn_up_only a.level a.stamp.0 (b.size - 1) b.bitmap (tree a.child) (omega (arith, c.if-level-gt0.true)) (sym c.is_pairs.ensures ∙ c.if-is_pairs.true))

pub returns : goal.returns
returns g c =
    let a = c.args in
    let b = a.old in
    let size = b.size - 1 in
    let items = b.children.now in
    let ts = set (map tree items) a.at (tree a.child) in
    let long = length-map items tree in
    let longer = length-set (map tree items) a.at (tree a.child) in
    let kept : drawn_up a.level (branch a.stamp.0 size b.bitmap (trees ts)) ≡ branch a.stamp.0 size b.bitmap (trees ts) =
    elim c.else-level-gt0.branch [
      | else-level-gt0-via-then-level-gt0+then-old-eq1+else-is_pairs w ↦
          let only = set_only (map tree items) a.at (tree a.child) (omega (arith, long, w.if-old-eq1.true)) (omega (arith, long, c.requires.at)) in
          subst (λ xs. drawn_up a.level (branch a.stamp.0 size b.bitmap (trees xs)) ≡ branch a.stamp.0 size b.bitmap (trees xs)) (sym only) (drawn_up_branch a.level a.stamp.0 size b.bitmap (tree a.child) (sym w.is_pairs.ensures ∙ w.if-is_pairs.false))
      | else-level-gt0-via-then-level-gt0+else-old-eq1 w ↦ drawn_up_more a.level a.stamp.0 size b.bitmap ts (λ one. omega (arith, one, long, longer, w.if-old-eq1.false))
      | else-level-gt0-via-else-level-gt0 w ↦ drawn_up_root a.level _ (omega (arith, w.if-level-gt0.false))
    ] in
    subst (λ t. IfOk c.with_child.result (λ n. tree n ≡ t)) (sym kept) c.with_child.ensures
