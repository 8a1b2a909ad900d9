use Rattle.std.specs.Coded.{Coded-set}
use Rattle.bulk_ops.proofs.PartKinds as kinds
use Rattle.bulk_ops.proofs.Lent.{item_told, pair_told}
use Rattle.bulk_ops.proofs.asking.QueryAsks.tell.Goals as goal

-- 1. The part is one of the query.
pub number-requires : goal.number-requires
number-requires g c = kinds.number_of g.M.Monoid.combine g.M.Monoid.unit_of g.K.Ord.cmp c.args.self.now c.in-Count.field-0 c.args.part.now c.in-Count.is c.requires

pub truth-requires : goal.truth-requires
truth-requires g c = kinds.exists_truth g.M.Monoid.combine g.M.Monoid.unit_of g.K.Ord.cmp c.args.self.now c.in-Exists.field-0 c.args.part.now c.in-Exists.is c.requires

pub truth-requires-in-ForAll : goal.truth-requires-in-ForAll
truth-requires-in-ForAll g c = kinds.for_all_truth g.M.Monoid.combine g.M.Monoid.unit_of g.K.Ord.cmp c.args.self.now c.in-ForAll.field-0 c.args.part.now c.in-ForAll.is c.requires

pub found-requires : goal.found-requires
found-requires g c = kinds.pair_found g.M.Monoid.combine g.M.Monoid.unit_of g.K.Ord.cmp c.args.self.now c.in-Find.field-0 c.args.part.now c.in-Find.is c.requires

pub map-requires : goal.map-requires
map-requires g c = kinds.filter_map g.M.Monoid.combine g.M.Monoid.unit_of g.K.Ord.cmp c.args.self.now c.in-Filter.field-0 c.in-Filter.field-1 c.args.part.now c.in-Filter.is c.requires

pub map-requires-in-MapValues : goal.map-requires-in-MapValues
map-requires-in-MapValues g c = kinds.values_map g.M.Monoid.combine g.M.Monoid.unit_of g.K.Ord.cmp c.args.self.now c.in-MapValues.field-0 c.in-MapValues.field-1 c.args.part.now c.in-MapValues.is c.requires

pub images-requires : goal.images-requires
images-requires g c = kinds.pairs_map g.M.Monoid.combine g.M.Monoid.unit_of g.K.Ord.cmp c.args.self.now c.in-MapPairs.field-0 c.in-MapPairs.field-1 c.args.part.now c.in-MapPairs.is c.requires

pub item-requires : goal.item-requires
item-requires g c = kinds.item_of g.M.Monoid.combine g.M.Monoid.unit_of g.K.Ord.cmp c.args.self.now c.in-Fold.monoid c.in-Fold.field-1 c.args.part.now c.in-Fold.is c.requires

-- 2. What is returned is the summary of the part's answer.
pub returns-in_ok-again-in-Find-clause-told : goal.returns-in_ok-again-in-Find-clause-told
returns-in_ok-again-in-Find-clause-told g c = pair_told c.args.part.now c.in_ok-again-in-Find.field-0 c.found.result.now c.found.ensures c.in_ok-again-in-Find.ensures

pub returns-in-Fold-clause-told : goal.returns-in-Fold-clause-told
returns-in-Fold-clause-told g c =
    let laws = g.met.M.Monoid in
    item_told g.M.Monoid.combine g.M.Monoid.unit_of g.K.Ord.cmp g.M.Monoid.is_item laws.associative laws.commutative laws.neutral laws.closed laws.unit_is_item (Coded-set g.row.M-Item.coded)
    c.args.self.now c.in-Fold.monoid c.in-Fold.field-1 c.args.part.now c.item.result.now c.unit.result c.op.result c.in-Fold.is c.item.ensures c.unit.ensures c.op.ensures.combined c.requires
