use Rattle.std.proofs.Common.{rules}
use Rattle.trie_shape.proofs.Views.{tree-Two, tree-Four, tree-Eight, tree-Sixteen, tree-All}
use Rattle.trie_shape.proofs.Places.{rowed}
use Rattle.trie_shape.proofs.rows.branch_of_parts.Goals as goal

pub returns-then-used-le2 : goal.returns-then-used-le2
returns-then-used-le2 g c =
    let a = c.args in
    let row = c.in_ok-row_of_parts.field-0 in
    rowed _ a.stamp.0 a.size a.bitmap _ row.value _ (tree-Two a.bitmap a.stamp a.size row) c.requires.count c.in_ok-row_of_parts.ensures

pub returns-then-used-le4 : goal.returns-then-used-le4
returns-then-used-le4 g c =
    let a = c.args in
    let row = c.in_ok-row_of_parts-2.field-0 in
    rowed _ a.stamp.0 a.size a.bitmap _ row.value _ (tree-Four a.bitmap a.stamp a.size row) c.requires.count c.in_ok-row_of_parts-2.ensures

pub returns-then-used-le8 : goal.returns-then-used-le8
returns-then-used-le8 g c =
    let a = c.args in
    let row = c.in_ok-row_of_parts-3.field-0 in
    rowed _ a.stamp.0 a.size a.bitmap _ row.value _ (tree-Eight a.bitmap a.stamp a.size row) c.requires.count c.in_ok-row_of_parts-3.ensures

pub returns-then-used-le16 : goal.returns-then-used-le16
returns-then-used-le16 g c =
    let a = c.args in
    let row = c.in_ok-row_of_parts-4.field-0 in
    rowed _ a.stamp.0 a.size a.bitmap _ row.value _ (tree-Sixteen a.bitmap a.stamp a.size row) c.requires.count c.in_ok-row_of_parts-4.ensures

pub returns : goal.returns
returns g c =
    let a = c.args in
    let row = c.in_ok-row_of_parts-5.field-0 in
    rowed _ a.stamp.0 a.size a.bitmap _ row.value _ (tree-All a.bitmap a.stamp a.size row) c.requires.count c.in_ok-row_of_parts-5.ensures

pub row_of_parts-requires-2 : goal.row_of_parts-requires-2
row_of_parts-requires-2 g c = let fit = g.met.S.Slots.rows in search (rules, fit)
