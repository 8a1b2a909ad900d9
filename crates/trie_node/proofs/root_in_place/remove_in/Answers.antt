use Rattle.std.proofs.Common.{◌&&◌, true, true≢false, sym, ap, ◌∙◌}
use Rattle.trie_shape.specs.Map.{value_at}
use Rattle.trie_shape.specs.Tree.{entries}
use Rattle.trie_shape.specs.View.{tree}
use Rattle.trie_shape.specs.Roots.{map_of}
use Rattle.trie_copy.proofs.Cases.{either}
use Rattle.trie_copy.proofs.Taken.{absent_of, without_absent}
use Rattle.trie_node.proofs.root_in_place.remove_in.Goals as goal

pub returns-clause-map : goal.returns-clause-map
returns-clause-map g c =
    let R = g.K.Ord.cmp in
    let a = c.args in
    let done = c.in_ok-remove_in_where in
    let old = tree a.node.now in
    either done.field-0.written (λ e. (done.ensures.removed e).map)
    (λ e. ap (map_of R) (done.ensures.kept e) ∙ without_absent R g.met.K.Ord.total g.met.K.PathKey.exact (entries old) (g.Q.Sought.key_of a.key) (absent_of (value_at R (map_of R old) (g.Q.Sought.key_of a.key)) (sym e ∙ done.ensures.written)))

pub returns-clause-stamps : goal.returns-clause-stamps
returns-clause-stamps g c =
    let done = c.in_ok-remove_in_where in
    λ there. either done.field-0.written (λ e. (done.ensures.removed e).stamps) (λ e. absurd (true≢false (sym (ap (λ b. b && true) there) ∙ sym done.ensures.written ∙ e)))
