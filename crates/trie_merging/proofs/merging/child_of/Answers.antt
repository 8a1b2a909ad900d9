use Rattle.std.proofs.Common.{sym, ap, ◌∙◌, arith, get_or}
use Rattle.trie_shape.specs.Outline.{children}
use Rattle.trie_shape.specs.View.{tree}
use Rattle.trie_merging.proofs.ChildAt.{place_in, child_in, child_out}
use Rattle.trie_merging.proofs.merging.child_of.Goals as goal

pub child-requires : goal.child-requires
child-requires g c =
    let a = c.args in
    omega (arith, c.place.ensures, place_in (tree a.branch.now) a.bitmap a.digit c.requires.digit c.requires.fits c.requires.branch (sym c.has_digit.ensures ∙ c.if-has_digit.true))

pub returns-then-has_digit : goal.returns-then-has_digit
returns-then-has_digit g c =
    let a = c.args in
    let t = tree a.branch.now in
    let u = tree c.child.result.now in
    child_in t a.bitmap a.digit c.requires.digit c.requires.fits c.requires.branch (sym c.has_digit.ensures ∙ c.if-has_digit.true) u (c.child.ensures ∙ ap (λ n. get_or (children t) n u) c.place.ensures)

pub returns-else-has_digit : goal.returns-else-has_digit
returns-else-has_digit g c =
    let a = c.args in
    child_out (tree a.branch.now) a.bitmap a.digit c.requires.digit c.requires.branch (sym c.has_digit.ensures ∙ c.if-has_digit.false)
