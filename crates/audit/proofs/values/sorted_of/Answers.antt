use Rattle.std.proofs.Common.{◌≡◌, [], rules}
use Rattle.hash_path.specs.Fnv.{fnv1a}
use Rattle.keys.specs.Order.{bytes_cmp}
use Rattle.trie_shape.specs.Order.{walked}
use Rattle.versions.specs.Map.{with_pair}
use Rattle.audit.proofs.values.sorted_of.Goals as goal

pub loop-key-init : goal.loop-key-init
loop-key-init c =
    let walk : c.into_iter-key-iterator.result.rest ≡ walked bytes_cmp fnv1a c.args.map.now.entries = search rules in
    let none : c.new-sorted.result.entries ≡ [] = search rules in
    record {
      next = tt;
      finite = tt;
      listed = rw (none, walk) (c.walk_lists_map.ensures.gathered c.args.map.now.entries c.len.ensures.sorted);
    }

pub loop-key-preserved : goal.loop-key-preserved
loop-key-preserved c =
    let put : c.put_pair.new.values.entries ≡ with_pair bytes_cmp c.loop-key.sorted.entries c.in-Some.key.now.value c.in-Some.value.now.value = search rules in
    record {
      next = tt;
      finite = tt;
      listed = rw put (rw c.in-Some.ensures.steps.steps at c.loop-key.invariant.listed);
    }
