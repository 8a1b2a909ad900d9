use Rattle.std.proofs.Common.{◌≡◌, ◌∙◌, refl, rules}
use Rattle.hash_path.specs.Fnv.{fnv1a}
use Rattle.keys.specs.Order.{bytes_cmp}
use Rattle.trie_shape.specs.Order.{walked}
use Rattle.arguments.specs.Questions.{image_of}
use Rattle.audit.specs.Images.{IsPutIfRead}
use Rattle.audit.proofs.ImageLemmas.{image_there, walk_begun, walk_more}
use Rattle.audit.proofs.images.with_read.Goals as goal

pub loop-key-init : goal.loop-key-init
loop-key-init c =
    let walk : c.into_iter-key-iterator.result.rest ≡ walked bytes_cmp fnv1a c.args.view.now = search rules in
    let laws = c.walk_lists_map.ensures in
    record {
      next = tt;
      finite = tt;
      walked = rw walk (walk_begun (image_of c.args.mapping.now) c.args.view.now c.args.read.now.entries (walked bytes_cmp fnv1a c.args.view.now) c.args.some.entries c.requires c.len-2.ensures.sorted c.len.ensures.sorted (laws.once c.args.view.now) (laws.finds c.args.view.now));
      limit = refl;
      stamp = refl;
    }

pub put_if_read-requires : goal.put_if_read-requires
put_if_read-requires c =
    let is : c.in_ok-image.image ≡ image_of c.args.mapping.now c.in-Some.key.now.value c.in-Some.value.now.value = search rules in
    let walked = rw c.in-Some.ensures.steps.steps at c.loop-key.invariant.walked in
    image_there (image_of c.args.mapping.now) c.args.view.now c.args.read.now.entries c.next.new.self.rest c.loop-key.map.entries (c.in-Some.key.now.value, c.in-Some.value.now.value) c.in_ok-image.image walked is

pub loop-key-preserved : goal.loop-key-preserved
loop-key-preserved c =
    let is : c.in_ok-image.image ≡ image_of c.args.mapping.now c.in-Some.key.now.value c.in-Some.value.now.value = search rules in
    let put : IsPutIfRead c.args.read.now.entries c.in_ok-image.image c.loop-key.map.entries c.put_if_read.new.map.entries = search rules in
    let walked = rw c.in-Some.ensures.steps.steps at c.loop-key.invariant.walked in
    record {
      next = tt;
      finite = tt;
      walked = walk_more (image_of c.args.mapping.now) c.args.view.now c.args.read.now.entries c.next.new.self.rest c.loop-key.map.entries c.put_if_read.new.map.entries (c.in-Some.key.now.value, c.in-Some.value.now.value) c.in_ok-image.image walked is (search rules) put;
      limit = c.put_if_read.ensures.limit ∙ c.loop-key.invariant.limit;
      stamp = c.put_if_read.ensures.stamp ∙ c.loop-key.invariant.stamp;
    }
