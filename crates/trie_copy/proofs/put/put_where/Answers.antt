use Rattle.std.proofs.Common.{Some, sym, ap, ◌∙◌, subst, arith}
use Rattle.std.specs.FinMap.{find}
use Rattle.std.proofs.lemmas.Result.{on_err_weaker}
use Rattle.trie_shape.specs.Tree.{entries}
use Rattle.trie_shape.specs.View.{tree}
use Rattle.trie_copy.specs.Writes.{Writes}
use Rattle.trie_copy.proofs.Answered.{is_some_mapped, if_some_mapped}
use Rattle.trie_shape.proofs.Roots.{find_entries, root_is_trie, length_map_of}
use Rattle.trie_copy.proofs.RootWrites.{write_puts}
use Rattle.trie_shape.proofs.Views.{on_ok}
use Rattle.trie_copy.proofs.put.put_where.Goals as goal

pub put_at-requires : goal.put_at-requires
put_at-requires g c =
    let R = g.K.Ord.cmp in
    let path = g.K.PathKey.path_of in
    let t = tree c.args.node.now in
    let trie = root_is_trie R path g.met.K.Ord.total g.met.K.PathKey.exact g.met.K.PathKey.small t c.requires.root in
    record {
      trie = trie;
      path = c.path.ensures ∙ ap path c.key.ensures;
      agree = λ q found. omega arith;
      room = omega (arith, length_map_of R path g.met.K.Ord.total g.met.K.PathKey.exact g.met.K.PathKey.small t trie, c.requires.room);
    }

pub returns-clause-previous : goal.returns-clause-previous
returns-clause-previous g c =
    let R = g.K.Ord.cmp in
    let t = tree c.args.node.now in
    let found = ap (λ p. find R p.0 (entries t)) c.new-pair.ensures ∙ find_entries R g.K.PathKey.path_of g.met.K.Ord.total t (g.S.KeySlots.key_of c.args.key) in
    on_ok c.put_at.result _ _ (λ w h. h.previous_is ∙ found) c.put_at.ensures.ok

pub returns-clause-written : goal.returns-clause-written
returns-clause-written g c =
    let R = g.K.Ord.cmp in
    let t = tree c.args.node.now in
    let found = ap (λ p. find R p.0 (entries t)) c.new-pair.ensures ∙ find_entries R g.K.PathKey.path_of g.met.K.Ord.total t (g.S.KeySlots.key_of c.args.key) in
    on_ok c.put_at.result _ _ (λ w h. is_some_mapped tree w.root ∙ h.written ∙ ap (g.C.Condition.holds c.args.condition.now) found) c.put_at.ensures.ok

pub returns-clause-put : goal.returns-clause-put
returns-clause-put g c =
    let R = g.K.Ord.cmp in
    let path = g.K.PathKey.path_of in
    let t = tree c.args.node.now in
    let s = c.args.stamp.0 in
    let puts = write_puts R path g.met.K.Ord.total g.met.K.PathKey.exact g.met.K.PathKey.small s (g.S.KeySlots.key_of c.args.key) t in
    on_ok c.put_at.result _ _ (λ w h. if_some_mapped tree w.root _ _ (λ n writes. puts (tree n) (g.S.ValueSlots.value_of c.args.value) (subst (λ p. Writes R path 0 s p.0 (Some p.1) t (tree n)) c.new-pair.ensures writes)) h.writes) c.put_at.ensures.ok

pub returns-clause-due : goal.returns-clause-due
returns-clause-due g c =
    let R = g.K.Ord.cmp in
    let t = tree c.args.node.now in
    let found = ap (λ p. find R p.0 (entries t)) c.new-pair.ensures ∙ find_entries R g.K.PathKey.path_of g.met.K.Ord.total t (g.S.KeySlots.key_of c.args.key) in
    on_err_weaker c.put_at.result (λ e. ap (g.C.Condition.holds c.args.condition.now) (sym found) ∙ e) c.put_at.ensures.due
