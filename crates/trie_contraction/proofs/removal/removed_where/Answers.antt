use Rattle.std.proofs.Common.{◌&&◌, is_some, sym, ap, ◌∙◌, subst}
use Rattle.trie_shape.specs.View.{tree}
use Rattle.trie_copy.specs.Removals.{Removes}
use Rattle.trie_shape.proofs.Roots.{find_entries, root_is_trie}
use Rattle.trie_copy.proofs.RootWrites.{write_removes}
use Rattle.trie_copy.proofs.Cases.{at_err}
use Rattle.trie_contraction.proofs.removal.removed_where.Goals as goal

pub remove_at-requires-clause-trie : goal.remove_at-requires-clause-trie
remove_at-requires-clause-trie g c = root_is_trie g.K.Ord.cmp g.K.PathKey.path_of g.met.K.Ord.total g.met.K.PathKey.exact g.met.K.PathKey.small (tree c.args.node.now) c.requires.root

pub returns-in-Nothing-clause-previous : goal.returns-in-Nothing-clause-previous
returns-in-Nothing-clause-previous g c =
    let a = c.args in
    let h = subst (Removes g.K.Ord.cmp g.K.PathKey.path_of 0 a.stamp.0 (g.Q.Sought.key_of a.key) (g.C.Condition.holds a.condition.now) (tree a.node.now)) c.in-Nothing.is c.in_ok-previous.ensures.ok in
    h.0 ∙ find_entries g.K.Ord.cmp g.K.PathKey.path_of g.met.K.Ord.total (tree a.node.now) (g.Q.Sought.key_of a.key)

pub returns-in-Nothing-clause-written : goal.returns-in-Nothing-clause-written
returns-in-Nothing-clause-written g c =
    let a = c.args in
    let h = subst (Removes g.K.Ord.cmp g.K.PathKey.path_of 0 a.stamp.0 (g.Q.Sought.key_of a.key) (g.C.Condition.holds a.condition.now) (tree a.node.now)) c.in-Nothing.is c.in_ok-previous.ensures.ok in
    sym h.1 ∙ ap (λ o. is_some o && g.C.Condition.holds a.condition.now o) (find_entries g.K.Ord.cmp g.K.PathKey.path_of g.met.K.Ord.total (tree a.node.now) (g.Q.Sought.key_of a.key))

pub returns-in-Left-clause-previous : goal.returns-in-Left-clause-previous
returns-in-Left-clause-previous g c =
    let a = c.args in
    let h = subst (Removes g.K.Ord.cmp g.K.PathKey.path_of 0 a.stamp.0 (g.Q.Sought.key_of a.key) (g.C.Condition.holds a.condition.now) (tree a.node.now)) c.in-Left.is c.in_ok-previous.ensures.ok in
    sym h.taken.0 ∙ find_entries g.K.Ord.cmp g.K.PathKey.path_of g.met.K.Ord.total (tree a.node.now) (g.Q.Sought.key_of a.key)

pub returns-in-Left-clause-written : goal.returns-in-Left-clause-written
returns-in-Left-clause-written g c =
    let a = c.args in
    let h = subst (Removes g.K.Ord.cmp g.K.PathKey.path_of 0 a.stamp.0 (g.Q.Sought.key_of a.key) (g.C.Condition.holds a.condition.now) (tree a.node.now)) c.in-Left.is c.in_ok-previous.ensures.ok in
    sym h.taken.1 ∙ ap (λ o. is_some o && g.C.Condition.holds a.condition.now o) (sym h.taken.0 ∙ find_entries g.K.Ord.cmp g.K.PathKey.path_of g.met.K.Ord.total (tree a.node.now) (g.Q.Sought.key_of a.key))

pub returns-in-Left-clause-removed : goal.returns-in-Left-clause-removed
returns-in-Left-clause-removed g c =
    let a = c.args in
    let h = subst (Removes g.K.Ord.cmp g.K.PathKey.path_of 0 a.stamp.0 (g.Q.Sought.key_of a.key) (g.C.Condition.holds a.condition.now) (tree a.node.now)) c.in-Left.is c.in_ok-previous.ensures.ok in
    write_removes g.K.Ord.cmp g.K.PathKey.path_of g.met.K.Ord.total g.met.K.PathKey.exact g.met.K.PathKey.small a.stamp.0 (g.Q.Sought.key_of a.key) (tree a.node.now) (tree c.in-Left.root) h.writes

pub returns-in_err-previous-clause-due : goal.returns-in_err-previous-clause-due
returns-in_err-previous-clause-due g c =
    let found = find_entries g.K.Ord.cmp g.K.PathKey.path_of g.met.K.Ord.total (tree c.args.node.now) (g.Q.Sought.key_of c.args.key) in
    at_err c.from_residual.result (ap (λ o. is_some o && g.C.Condition.holds c.args.condition.now o) (sym found) ∙ c.in_err-previous.ensures.due)
