use Rattle.std.proofs.Common.{◌∙◌}
use Rattle.bulk_ops.proofs.PartKinds as kinds
use Rattle.bulk_ops.proofs.Additions as adds
use Rattle.bulk_ops.proofs.working.add_to_map.Goals as goal

-- 1. The part is one of the query, with room for a pair.
pub put_shared-requires : goal.put_shared-requires
put_shared-requires g c = kinds.filter_room g.M.Monoid.combine g.M.Monoid.unit_of g.K.Ord.cmp g.met.K.Ord.total c.args.key.now.value c.args.value.now.value c.args.query.now c.in-Filter.test c.in-Filter.field-1 c.args.part.now c.in-Filter.is c.requires.apart

pub put_value-requires : goal.put_value-requires
put_value-requires g c = kinds.values_room g.M.Monoid.combine g.M.Monoid.unit_of g.K.Ord.cmp g.met.K.Ord.total c.args.key.now.value c.args.value.now.value c.args.query.now c.in-MapValues.change c.in-MapValues.field-1 c.args.part.now c.in-MapValues.is c.requires.apart

pub put_image-requires : goal.put_image-requires
put_image-requires g c = kinds.pairs_room g.M.Monoid.combine g.M.Monoid.unit_of g.K.Ord.cmp g.met.K.Ord.total c.args.key.now.value c.args.value.now.value c.args.query.now c.in-MapPairs.change c.in-MapPairs.field-1 c.args.part.now c.in-MapPairs.is c.requires.apart

-- 2. The new part answers the map with the pair.
pub returns-in_ok-put_shared-in-Filter-clause-added : goal.returns-in_ok-put_shared-in-Filter-clause-added
returns-in_ok-put_shared-in-Filter-clause-added g c =
    adds.filter_added g.M.Monoid.combine g.M.Monoid.unit_of g.K.Ord.cmp g.met.K.Ord.total c.args.key.now.value c.args.value.now.value c.args.query.now c.in-Filter.test c.in-Filter.field-1 c.at-passes.result c.args.part.now c.put_shared.new.self c.in-Filter.is c.if-passes.true
    (λ p means. c.at-passes.ensures p means ∙ (λ i. p (c.deref.ensures i) (c.deref-in-Filter.ensures i)))
    c.in_ok-put_shared-in-Filter.ensures.put

pub returns-else-passes-clause-added : goal.returns-else-passes-clause-added
returns-else-passes-clause-added g c =
    adds.filter_passed g.M.Monoid.combine g.M.Monoid.unit_of g.K.Ord.cmp g.met.K.Ord.total c.args.key.now.value c.args.value.now.value c.args.query.now c.in-Filter.test c.in-Filter.field-1 c.at-passes.result c.args.part.now c.in-Filter.is c.if-passes.false
    (λ p means. c.at-passes.ensures p means ∙ (λ i. p (c.deref.ensures i) (c.deref-in-Filter.ensures i)))

pub returns-in_ok-put_value-in-MapValues-clause-added : goal.returns-in_ok-put_value-in-MapValues-clause-added
returns-in_ok-put_value-in-MapValues-clause-added g c =
    adds.values_added g.M.Monoid.combine g.M.Monoid.unit_of g.K.Ord.cmp g.met.K.Ord.total c.args.key.now.value c.args.value.now.value c.args.query.now c.in-MapValues.change c.in-MapValues.field-1 c.at.result c.args.part.now c.put_value.new.self c.in-MapValues.is
    (λ p means. c.at.ensures p means ∙ (λ i. p (c.deref-in-MapValues.ensures i) (c.deref-in-MapValues-2.ensures i)))
    c.in_ok-put_value-in-MapValues.ensures.put

pub returns-in_ok-put_image-in-MapPairs-clause-added : goal.returns-in_ok-put_image-in-MapPairs-clause-added
returns-in_ok-put_image-in-MapPairs-clause-added g c =
    adds.pairs_added g.M.Monoid.combine g.M.Monoid.unit_of g.K.Ord.cmp g.met.K.Ord.total c.args.key.now.value c.args.value.now.value g.met.K.PathKey.exact c.args.query.now c.in-MapPairs.change c.in-MapPairs.field-1 (c.in_ok-image-in-MapPairs.image.value, c.in_ok-image-in-MapPairs.made.value) c.args.part.now c.put_image.new.self c.in-MapPairs.is
    (λ p means. c.in_ok-image-in-MapPairs.ensures p means ∙ (λ i. p (c.deref-in-MapPairs.ensures i) (c.deref-in-MapPairs-2.ensures i)))
    c.in_ok-put_image-in-MapPairs.ensures.put
