use Rattle.std.proofs.Common.{Some, not, if◌then◌else◌, map, sym, ap, ◌∙◌, subst, true≢false, arith}
use Rattle.std.proofs.lemmas.List.{length-map}
use Rattle.std.specs.List.{insert}
use Rattle.trie_shape.specs.Tree.{bucket}
use Rattle.trie_shape.specs.View.{pair_values}
use Rattle.trie_copy.specs.Writes.{Writes}
use Rattle.trie_copy.proofs.Cases.{map_insert}
use Rattle.trie_copy.proofs.Words.{puts_in_word}
use Rattle.trie_puts.proofs.bucket_puts.insert_pair.Goals as goal

pub returns-clause-ok : goal.returns-clause-ok
returns-clause-ok g c level trie =
    let R = g.K.Ord.cmp in
    let path = g.K.PathKey.path_of in
    let a = c.args in
    let k = a.entry.pair.0 in
    let v = a.entry.pair.1 in
    let s = a.entry.stamp.0 in
    let items = a.pairs.now.items in
    let es = map pair_values items in
    let goes = c.requires.goes in
    let grown = c.insert.ensures.items ∙ ap (λ b. if b then insert items a.at a.entry.pair else items) (c.is_err.ensures.negation ∙ ap not c.if-is_err.false) in
    let made = ap (map pair_values) grown ∙ map_insert pair_values items a.at a.entry.pair (omega (arith, length-map items pair_values, goes.within)) in
    record {
      previous_is = sym goes.absent;
      written_is = sym c.if-not-holds_of_absent.false ∙ c.holds_of_absent.ensures ∙ ap (g.C.Condition.holds a.condition.now) (sym goes.absent);
      writes = λ e. subst (λ xs. Writes R path level s k (Some v) (bucket a.stamp.now.0 es) (bucket s xs)) (goes.puts v ∙ sym made)
          (puts_in_word R path g.met.K.Ord.total g.met.K.PathKey.exact k v level s a.stamp.now.0 es trie c.requires.word);
      kept = λ e. absurd (true≢false e);
    }
