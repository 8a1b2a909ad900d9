use Rattle.std.proofs.Common.{Some, sym, ap, ◌∙◌, subst, arith}
use Rattle.std.specs.FinMap.{find}
use Rattle.std.proofs.lemmas.Result.{on_err_weaker}
use Rattle.trie_puts.specs.PutInPlace.{is_refusable}
use Rattle.trie_shape.specs.Tree.{entries}
use Rattle.trie_shape.specs.View.{tree}
use Rattle.trie_copy.specs.Writes.{Writes}
use Rattle.trie_shape.proofs.Roots.{find_entries, root_is_trie, length_map_of}
use Rattle.trie_copy.proofs.RootWrites.{write_puts}
use Rattle.trie_shape.proofs.Views.{on_ok}
use Rattle.trie_node.proofs.root_in_place.put_in_where_along.Goals as goal

pub put_in_at-requires : goal.put_in_at-requires
put_in_at-requires g c =
    let R = g.K.Ord.cmp in
    let path = g.K.PathKey.path_of in
    let t = tree c.args.node.now in
    let trie = root_is_trie R path g.met.K.Ord.total g.met.K.PathKey.exact g.met.K.PathKey.small t c.requires.root in
    record {
      trie = trie;
      path = c.requires.path ∙ ap (λ p. path p.0) (sym c.new-pair.ensures);
      agree = λ q found. omega arith;
      room = omega (arith, length_map_of R path g.met.K.Ord.total g.met.K.PathKey.exact g.met.K.PathKey.small t trie, c.requires.room);
    }

pub returns-clause-previous : goal.returns-clause-previous
returns-clause-previous g c =
    let R = g.K.Ord.cmp in
    let t = tree c.args.node.now in
    let found = ap (λ p. find R p.0 (entries t)) c.new-pair.ensures ∙ find_entries R g.K.PathKey.path_of g.met.K.Ord.total t (g.S.KeySlots.key_of c.args.key) in
    on_ok c.put_in_at.result _ _ (λ w h. h.previous_is ∙ found) c.put_in_at.ensures.ok

pub returns-clause-written : goal.returns-clause-written
returns-clause-written g c =
    let R = g.K.Ord.cmp in
    let t = tree c.args.node.now in
    let found = ap (λ p. find R p.0 (entries t)) c.new-pair.ensures ∙ find_entries R g.K.PathKey.path_of g.met.K.Ord.total t (g.S.KeySlots.key_of c.args.key) in
    on_ok c.put_in_at.result _ _ (λ w h. h.written_is ∙ ap (g.C.Condition.holds c.args.condition.now) found) c.put_in_at.ensures.ok

pub returns-clause-put : goal.returns-clause-put
returns-clause-put g c =
    let R = g.K.Ord.cmp in
    let path = g.K.PathKey.path_of in
    let t = tree c.args.node.now in
    let new = tree c.put_in_at.new.node in
    let s = c.args.stamp.0 in
    let puts = write_puts R path g.met.K.Ord.total g.met.K.PathKey.exact g.met.K.PathKey.small s (g.S.KeySlots.key_of c.args.key) t in
    on_ok c.put_in_at.result _ _ (λ w h e. puts new (g.S.ValueSlots.value_of c.args.value) (subst (λ p. Writes R path 0 s p.0 (Some p.1) t new) c.new-pair.ensures (h.writes e))) c.put_in_at.ensures.ok

pub returns-clause-kept : goal.returns-clause-kept
returns-clause-kept g c = on_ok c.put_in_at.result _ _ (λ w h e. h.kept e) c.put_in_at.ensures.ok

pub returns-clause-due : goal.returns-clause-due
returns-clause-due g c =
    let R = g.K.Ord.cmp in
    let t = tree c.args.node.now in
    let found = ap (λ p. find R p.0 (entries t)) c.new-pair.ensures ∙ find_entries R g.K.PathKey.path_of g.met.K.Ord.total t (g.S.KeySlots.key_of c.args.key) in
    on_err_weaker c.put_in_at.result (λ e. ap (is_refusable (g.C.Condition.holds c.args.condition.now)) (sym found) ∙ e) c.put_in_at.ensures.due
