use Rattle.std.proofs.Common.{arith, get_or, ◌<◌, sym, ap, ◌∙◌}
use Rattle.hash_path.specs.Digits.{fan_out}
use Rattle.trie_shape.specs.Outline.{children}
use Rattle.trie_shape.specs.View.{tree}
use Rattle.trie_shape.proofs.Roots.{root_is_trie}
use Rattle.trie_merging.proofs.ChildAt.{place_in, child_in, child_out}
use Rattle.united_roots.proofs.FirstDigit.{lacks_beyond}
use Rattle.united_roots.proofs.root_row.child_of.Goals as goal
use Rattle.united_roots.proofs.root_row.child_of.Goals.{else-digit-lt-FAN_OUT-via-then-digit-lt-FAN_OUT+else-has_digit, else-digit-lt-FAN_OUT-via-else-digit-lt-FAN_OUT}

pub child-requires : goal.child-requires
child-requires g c =
    let a = c.args in
    let below : a.digit < fan_out = c.if-digit-lt-FAN_OUT.true in
    omega (arith, c.place.ensures, place_in (tree a.root.now) c.in-Branch.bitmap a.digit below c.requires.fits c.in-Branch.ensures (sym c.has_digit.ensures ∙ c.if-has_digit.true))

pub returns-then-has_digit-clause-child : goal.returns-then-has_digit-clause-child
returns-then-has_digit-clause-child g c =
    let a = c.args in
    let t = tree a.root.now in
    let u = tree c.child.result.now in
    let below : a.digit < fan_out = c.if-digit-lt-FAN_OUT.true in
    child_in t c.in-Branch.bitmap a.digit below c.requires.fits c.in-Branch.ensures (sym c.has_digit.ensures ∙ c.if-has_digit.true) u (c.child.ensures ∙ ap (λ n. get_or (children t) n u) c.place.ensures)

pub returns-else-digit-lt-FAN_OUT-clause-child : goal.returns-else-digit-lt-FAN_OUT-clause-child
returns-else-digit-lt-FAN_OUT-clause-child g c =
    let R = g.K.Ord.cmp in
    let path = g.K.PathKey.path_of in
    let exact = g.met.K.PathKey.exact in
    let a = c.args in
    let t = tree a.root.now in
    elim c.else-digit-lt-FAN_OUT.branch [
      | else-digit-lt-FAN_OUT-via-then-digit-lt-FAN_OUT+else-has_digit w ↦ child_out t c.in-Branch.bitmap a.digit w.if-digit-lt-FAN_OUT.true c.in-Branch.ensures (sym w.has_digit.ensures ∙ w.if-has_digit.false)
      | else-digit-lt-FAN_OUT-via-else-digit-lt-FAN_OUT w ↦ lacks_beyond R path g.met.K.Ord.total exact a.digit w.if-digit-lt-FAN_OUT.false t (root_is_trie R path g.met.K.Ord.total exact g.met.K.PathKey.small t c.requires)
    ]
