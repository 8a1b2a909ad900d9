use Rattle.std.proofs.Common.{IfSome, is_some, sym, ap, ◌∙◌, subst}
use Rattle.trie_shape.specs.Map.{value_at}
use Rattle.trie_shape.specs.Tree.{entries}
use Rattle.trie_shape.specs.View.{tree}
use Rattle.trie_shape.specs.Roots.{map_of, word_of}
use Rattle.trie_shape.specs.Shape.{nodes, Restamps}
use Rattle.trie_copy.specs.Changes.{IsRemoval}
use Rattle.trie_copy.proofs.Taken.{absent_of, without_absent}
use Rattle.trie_shape.proofs.Views.{on_ok}
use Rattle.trie_contraction.proofs.removal.with_removed.Goals as goal

pub returns-in-None-clause-map : goal.returns-in-None-clause-map
returns-in-None-clause-map g c =
    let R = g.K.Ord.cmp in
    let a = c.args in
    let absent = absent_of (value_at R (map_of R (tree a.node.now)) (g.Q.Sought.key_of a.key)) (ap is_some (sym c.in-None.is) ∙ c.in_ok-root.ensures.written) in
    on_ok c.try_clone.result _ _ (λ n same. ap (map_of R) same ∙ without_absent R g.met.K.Ord.total g.met.K.PathKey.exact (entries (tree a.node.now)) (g.Q.Sought.key_of a.key) absent) c.try_clone.ensures

pub returns-in-Some-clause-stamps : goal.returns-in-Some-clause-stamps
returns-in-Some-clause-stamps g c =
    let a = c.args in
    let removed = subst (λ root. IfSome root (λ n. IsRemoval g.K.Ord.cmp g.K.PathKey.path_of a.stamp.0 (g.Q.Sought.key_of a.key) (tree a.node.now) (tree n))) c.in-Some.is c.in_ok-root.ensures.removed in
    λ present. subst (λ n. Restamps a.stamp.0 (word_of g.K.PathKey.path_of (g.Q.Sought.key_of a.key)) (nodes (word_of g.K.PathKey.path_of) (tree a.node.now)) (nodes (word_of g.K.PathKey.path_of) (tree n))) (sym c.in-Some.root-is) removed.stamps
