use Rattle.std.proofs.Common.{[], sym, subst}
use Rattle.trie_shape.specs.Roots.{map_of}
use Rattle.trie_shape.specs.View.{tree}
use Rattle.bulk_work.specs.Answers.{IsImage}
use Rattle.bulk_ops.proofs.Images.{image_none}
use Rattle.bulk_work.proofs.Works.{none_apart}
use Rattle.bulk_ops.proofs.imaging.images_of.Goals as goal

-- no pairs have no images, and are apart from all others
pub returns-clause-images : goal.returns-clause-images
returns-clause-images g c = λ p means.
    let R = g.K.Ord.cmp in
    let all = map_of R (tree c.args.root.now) in
    c.in_ok-seen.ensures.images p [] means (subst (λ w. IsImage R p [] w) (sym c.in_ok-none.ensures.entries) (image_none R p))
    (none_apart R all (c.root_is_map.ensures.sorted (tree c.args.root.now)) c.requires.few)
