use Rattle.std.proofs.Common.{◌≡◌, ℕ, ◌+◌, ◌-◌, List, ◌<◌, [], ◌∷◌, ◌++◌, length, take, ap, sym, ◌∙◌, arith}
use Rattle.std.proofs.lemmas.List.{take_more, flat_map_more}
use Rattle.std.specs.List.{flat_map}
use Rattle.trie_shape.specs.Outline.{children}
use Rattle.trie_shape.specs.Tree.{entries}
use Rattle.trie_shape.specs.View.{tree}
use Rattle.c_map.specs.Fillings.{filled}
use Rattle.c_map.specs.Pages.{spelled}
use Rattle.c_map.specs.declared.page.Filling.{Filling}
use Rattle.c_map.proofs.Fillings.{filled-full, filled-skipped, filled-all}
use Rattle.c_map.proofs.page.+fill.Goals as goal

-- a page that is full stays as it is
pub returns-then-at-gt0-clause-filled : goal.returns-then-at-gt0-clause-filled
returns-then-at-gt0-clause-filled g t c =
    sym (filled-full (spelled g.V.Shown.number g.V.Shown.bytes) (c.args.at, c.args.buffer.now) (entries (tree c.args.node.now)) (grind (arith, c.if-at-gt0.true)))

-- and of a subtrie that comes before the page nothing is written
pub returns-then-size-at-clause-filled : goal.returns-then-size-at-clause-filled
returns-then-size-at-clause-filled g t c =
    let size = c.size-size.ensures c.requires.fits in
    let passed = filled-skipped (spelled g.V.Shown.number g.V.Shown.bytes) c.args.at c.args.buffer.now (entries (tree c.args.node.now)) (grind (arith, c.if-at-gt0.false)) (omega (arith, size, c.if-size-at.true)) in
    ap (λ n. (record c.args.at { skip = c.args.at.skip - n }, c.args.buffer.now)) size ∙ sym passed

-- the child is the next one
pub loop-n-preserved : goal.loop-n-preserved
loop-n-preserved g t c =
    let spell = spelled g.V.Shown.number g.V.Shown.bytes in
    let whole = tree c.args.node.now in
    let kids = children whole in
    let child = tree c.child.result.now in
    let n = c.loop-n.n in
    let begun : Filling × List ℕ = (c.args.at, c.args.buffer.now) in
    let count = c.bitmap_counts_children.ensures.count whole c.in-Branch.bitmap c.requires.fits c.in-Branch.ensures in
    let below : n < length kids = omega (arith, count) in
    let more = filled-all spell begun (c.loop-n.at, c.loop-n.buffer) (c.fill-at.result, c.fill-at.new.buffer) (flat_map entries (take n kids)) (entries child) c.loop-n.invariant.filled c.fill-at.ensures.filled in
    let longer : take (n + 1) kids ≡ take n kids ++ child ∷ [] = take_more kids n child below ∙ ap (λ x. take n kids ++ x ∷ []) (sym c.child.ensures) in
    record {
      filled = more ∙ ap (filled spell begun) (flat_map_more entries [] (take n kids) child ∙ ap (flat_map entries) (sym longer));
      few = c.fill-at.ensures.few;
    }
