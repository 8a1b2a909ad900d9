use Rattle.std.proofs.Common.{◌+◌, ◌*◌, ◌%◌, ◌^◌, bit_or}
use Rattle.std.specs.Int.RustNames.{count_ones}
use Rattle.trie_shape.proofs.Views.{tree-Four, tree-Eight, tree-Sixteen, tree-All}
use Rattle.trie_shape.proofs.Places.{grown}
use Rattle.trie_shape.proofs.growing.outgrow.Goals as goal

pub returns-then-used-lt4-clause-ok : goal.returns-then-used-lt4-clause-ok
returns-then-used-lt4-clause-ok g c =
    let a = c.args in
    let wider = c.with_digit-bitmap.result in
    let row = c.in_ok-moved.field-0 in
    grown _ a.new_stamp.0 (a.size + 1) (bit_or a.bitmap (1 * 2 ^ a.digit % 2 ^ 32)) wider (count_ones a.bitmap) a.at a.row.now row.value a.child (tree-Four wider a.new_stamp (a.size + 1) row) c.with_digit-bitmap.ensures.value c.with_digit-bitmap.ensures.ones c.in_ok-moved.ensures.ok c.requires.at c.requires.row

pub returns-then-used-lt8-clause-ok : goal.returns-then-used-lt8-clause-ok
returns-then-used-lt8-clause-ok g c =
    let a = c.args in
    let wider = c.with_digit-bitmap.result in
    let row = c.in_ok-moved-2.field-0 in
    grown _ a.new_stamp.0 (a.size + 1) (bit_or a.bitmap (1 * 2 ^ a.digit % 2 ^ 32)) wider (count_ones a.bitmap) a.at a.row.now row.value a.child (tree-Eight wider a.new_stamp (a.size + 1) row) c.with_digit-bitmap.ensures.value c.with_digit-bitmap.ensures.ones c.in_ok-moved-2.ensures.ok c.requires.at c.requires.row

pub returns-then-used-lt16-clause-ok : goal.returns-then-used-lt16-clause-ok
returns-then-used-lt16-clause-ok g c =
    let a = c.args in
    let wider = c.with_digit-bitmap.result in
    let row = c.in_ok-moved-3.field-0 in
    grown _ a.new_stamp.0 (a.size + 1) (bit_or a.bitmap (1 * 2 ^ a.digit % 2 ^ 32)) wider (count_ones a.bitmap) a.at a.row.now row.value a.child (tree-Sixteen wider a.new_stamp (a.size + 1) row) c.with_digit-bitmap.ensures.value c.with_digit-bitmap.ensures.ones c.in_ok-moved-3.ensures.ok c.requires.at c.requires.row

pub returns-clause-ok : goal.returns-clause-ok
returns-clause-ok g c =
    let a = c.args in
    let wider = c.with_digit-bitmap.result in
    let row = c.in_ok-moved-4.field-0 in
    grown _ a.new_stamp.0 (a.size + 1) (bit_or a.bitmap (1 * 2 ^ a.digit % 2 ^ 32)) wider (count_ones a.bitmap) a.at a.row.now row.value a.child (tree-All wider a.new_stamp (a.size + 1) row) c.with_digit-bitmap.ensures.value c.with_digit-bitmap.ensures.ones c.in_ok-moved-4.ensures.ok c.requires.at c.requires.row
