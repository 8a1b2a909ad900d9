use Rattle.std.proofs.Common.{◌≡◌, length, sym, ap, subst, ◌∙◌, arith}
use Rattle.trie_shape.specs.Order.{walked}
use Rattle.trie_shape.specs.Roots.{map_of}
use Rattle.trie_shape.specs.View.{tree}
use Rattle.versions.specs.Map.{IsMap, union}
use Rattle.bulk_work.specs.Answers.{IsImage}
use Rattle.bulk_ops.proofs.Imaged.{imaged_put, put_le, put_sorted}
use Rattle.bulk_work.proofs.Works.{Working, begun, ended, worked}
use Rattle.combiner.specs.Bulks.{IsAdded}
use Rattle.bulk_ops.proofs.imaging.more_images.Goals as goal

-- the walk lists the map of the root
pub loop-key-init : goal.loop-key-init
loop-key-init g c =
    let R = g.K.Ord.cmp in
    let path = g.K.PathKey.path_of in
    let all = map_of R (tree c.args.root.now) in
    let laws = c.walk_lists_map.ensures in
    let sorted : IsMap R all = c.root_is_map.ensures.sorted (tree c.args.root.now) in
    let walk : c.into_iter-key-iterator.result ≡ walked R path all = c.into_iter-key-iterator.ensures.into_iter_gives ∙ c.bunches_of_root-key-items.ensures in
    record {
      next = tt;
      finite = tt;
      working = λ p m means is apart. subst (λ rest. Working R (λ m w. IsImage R p m w) rest (union R m all) c.args.map.entries) (sym walk)
          (begun R g.met.K.Ord.total (λ m w. IsImage R p m w) g.met.K.PathKey.exact m all (walked R path all) c.args.map.entries is apart (laws.once all) (laws.finds all) (laws.count all apart.right));
      sorted = c.len.ensures.sorted;
      room = omega (arith, ap length walk, laws.count all sorted, c.requires.room);
      limit = c.requires.limit;
      stamp = c.requires.stamp;
    }

-- there is room for one more image
pub put-requires : goal.put-requires
put-requires g c = omega (arith, ap length c.in-Some.ensures.steps, c.loop-key.invariant.room, c.loop-key.invariant.limit)

-- one more image is put
pub loop-key-preserved : goal.loop-key-preserved
loop-key-preserved g c =
    let R = g.K.Ord.cmp in
    let now = c.loop-key.invariant in
    let old = c.loop-key.all.entries in
    let pair : g.row.K.Denot × g.row.V.Denot = (c.in-Some.key.now.value, c.in-Some.value.now.value) in
    let image : g.row.K.Denot × g.row.V.Denot = (c.in-Ok.image.value, c.in-Ok.made.value) in
    let all = map_of R (tree c.args.root.now) in
    let put = c.in-Ok-put.ensures.entries in
    record {
      next = tt;
      finite = tt;
      working = λ p m means is apart.
          let work = subst (λ rest. Working R (λ m w. IsImage R p m w) rest (union R m all) old) c.in-Some.ensures.steps (now.working p m means is apart) in
          let says = c.in-Ok.ensures p means ∙ (λ i. p (c.deref.ensures i) (c.deref-in-loop-key.ensures i)) in
          let added = subst (λ w. IsAdded R (λ m w. IsImage R p m w) old pair.0 pair.1 w) (sym put) (imaged_put R g.met.K.Ord.total g.met.K.PathKey.exact p pair.0 pair.1 image old now.sorted says) in
          worked R g.met.K.Ord.total (λ m w. IsImage R p m w) pair c.next.new.self (union R m all) old c.put.new.map.entries work added;
      sorted = subst (IsMap R) (sym put) (put_sorted R g.met.K.Ord.total image.0 image.1 old now.sorted);
      room = omega (arith, ap length c.in-Some.ensures.steps, ap length put, put_le R g.met.K.Ord.total image.0 image.1 old now.sorted, now.room);
      limit = c.put.ensures.limit ∙ now.limit;
      stamp = c.put.ensures.stamp ∙ now.stamp;
    }

-- all images are put
pub returns-clause-images : goal.returns-clause-images
returns-clause-images g c = λ p m means is apart.
    let R = g.K.Ord.cmp in
    let both = union R m (map_of R (tree c.args.root.now)) in
    subst (λ w. IsImage R p both w) (sym c.in-Ok-view.ensures)
    (ended R g.met.K.Ord.total (λ m w. IsImage R p m w) both c.loop-key.all.entries c.loop-key.key-iterator c.in-None.ensures.steps.0 (c.loop-key.invariant.working p m means is apart))
