use Rattle.std.proofs.Common.{◌≡◌, ◌+◌, ◌-◌, ◌*◌, ◌%◌, ◌^◌, length, drop, length-drop, arith, subst, IfOk}
use Rattle.std.specs.Int.{bit_not, w32}
use Rattle.std.specs.Int.RustNames.{bit_and}
use Rattle.std.proofs.lemmas.List.{length-take-le}
use Rattle.trie_shape.specs.Tree.{branch, trees}
use Rattle.trie_shape.specs.View.{tree}
use Rattle.trie_shape.proofs.Shortened.{parts_remove}
use Rattle.trie_shape.proofs.Ones.{ones_clear}
use Rattle.trie_contraction.proofs.contraction.without_child.Goals as goal

pub branch_of_parts-requires : goal.branch_of_parts-requires
branch_of_parts-requires g c =
    let a = c.args in
    let xs = a.old.children.now in
    let behind = drop (a.at + 1) xs in
    omega (
      arith,
      length-take-le a.at xs (omega (arith, c.requires.at)),
      length-take-le (length xs - (a.at + 1)) behind (omega (arith, length-drop (a.at + 1) xs)),
      length-drop (a.at + 1) xs,
      c.requires.at,
      c.requires.count,
      ones_clear a.old.bitmap a.digit (omega (arith, c.ranges)) c.requires.digit c.requires.has,
    )

pub returns : goal.returns
returns g c =
    let a = c.args in
    subst (λ ys. IfOk c.branch_of_parts.result (λ n. tree n ≡ branch a.stamp.0 (a.old.size - 1) (bit_and a.old.bitmap (bit_not w32 (1 * 2 ^ a.digit % 2 ^ 32))) (trees ys))) (parts_remove tree a.old.children.now a.at c.requires.at) c.branch_of_parts.ensures
