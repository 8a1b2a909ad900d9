use Rattle.std.proofs.Common.{rules, ◌≡◌, ◌||◌, ◌&&◌, arith, sym, ◌∙◌}
use Rattle.bulk_ops.proofs.PartKinds as kinds
use Rattle.bulk_ops.proofs.Joins as joins
use Rattle.bulk_ops.proofs.working.QueryBulk.join.Goals as goal

pub number-first-requires : goal.number-first-requires
number-first-requires g c = kinds.number_of g.M.Monoid.combine g.M.Monoid.unit_of g.K.Ord.cmp c.args.self.now c.in-Count.field-0 c.args.a.now c.in-Count.is (kinds.first_known g.M.Monoid.combine g.M.Monoid.unit_of g.K.Ord.cmp g.met.K.Ord.total c.args.self.now c.args.a.now c.args.b.now c.requires)

pub number-second-requires : goal.number-second-requires
number-second-requires g c = kinds.number_of g.M.Monoid.combine g.M.Monoid.unit_of g.K.Ord.cmp c.args.self.now c.in-Count.field-0 c.args.b.now c.in-Count.is (kinds.second_known g.M.Monoid.combine g.M.Monoid.unit_of g.K.Ord.cmp g.met.K.Ord.total c.args.self.now c.args.a.now c.args.b.now c.requires)

pub overflow_add-result : goal.overflow_add-result
overflow_add-result g c =
    let few = kinds.count_few g.M.Monoid.combine g.M.Monoid.unit_of g.K.Ord.cmp g.met.K.Ord.total c.args.self.now c.in-Count.field-0 c.args.a.now c.args.b.now c.number-first.result c.number-second.result c.in-Count.is c.number-first.ensures c.number-second.ensures c.requires in
    omega (arith, few)

pub truth-first-requires : goal.truth-first-requires
truth-first-requires g c = kinds.exists_truth g.M.Monoid.combine g.M.Monoid.unit_of g.K.Ord.cmp c.args.self.now c.in-Exists.field-0 c.args.a.now c.in-Exists.is (kinds.first_known g.M.Monoid.combine g.M.Monoid.unit_of g.K.Ord.cmp g.met.K.Ord.total c.args.self.now c.args.a.now c.args.b.now c.requires)

pub truth-second-requires : goal.truth-second-requires
truth-second-requires g c = kinds.exists_truth g.M.Monoid.combine g.M.Monoid.unit_of g.K.Ord.cmp c.args.self.now c.in-Exists.field-0 c.args.b.now c.in-Exists.is (kinds.second_known g.M.Monoid.combine g.M.Monoid.unit_of g.K.Ord.cmp g.met.K.Ord.total c.args.self.now c.args.a.now c.args.b.now c.requires)

pub truth-first-requires-in-ForAll : goal.truth-first-requires-in-ForAll
truth-first-requires-in-ForAll g c = kinds.for_all_truth g.M.Monoid.combine g.M.Monoid.unit_of g.K.Ord.cmp c.args.self.now c.in-ForAll.field-0 c.args.a.now c.in-ForAll.is (kinds.first_known g.M.Monoid.combine g.M.Monoid.unit_of g.K.Ord.cmp g.met.K.Ord.total c.args.self.now c.args.a.now c.args.b.now c.requires)

pub truth-second-requires-in-ForAll : goal.truth-second-requires-in-ForAll
truth-second-requires-in-ForAll g c = kinds.for_all_truth g.M.Monoid.combine g.M.Monoid.unit_of g.K.Ord.cmp c.args.self.now c.in-ForAll.field-0 c.args.b.now c.in-ForAll.is (kinds.second_known g.M.Monoid.combine g.M.Monoid.unit_of g.K.Ord.cmp g.met.K.Ord.total c.args.self.now c.args.a.now c.args.b.now c.requires)

pub found-requires : goal.found-requires
found-requires g c = kinds.pair_found g.M.Monoid.combine g.M.Monoid.unit_of g.K.Ord.cmp c.args.self.now c.in-Find.field-0 c.args.a.now c.in-Find.is (kinds.first_known g.M.Monoid.combine g.M.Monoid.unit_of g.K.Ord.cmp g.met.K.Ord.total c.args.self.now c.args.a.now c.args.b.now c.requires)

pub found-requires-in-Find : goal.found-requires-in-Find
found-requires-in-Find g c = kinds.pair_found g.M.Monoid.combine g.M.Monoid.unit_of g.K.Ord.cmp c.args.self.now c.in-Find.field-0 c.args.b.now c.in-Find.is (kinds.second_known g.M.Monoid.combine g.M.Monoid.unit_of g.K.Ord.cmp g.met.K.Ord.total c.args.self.now c.args.a.now c.args.b.now c.requires)

pub map-requires : goal.map-requires
map-requires g c = kinds.filter_map g.M.Monoid.combine g.M.Monoid.unit_of g.K.Ord.cmp c.args.self.now c.in-Filter.field-0 c.in-Filter.field-1 c.args.a.now c.in-Filter.is (kinds.first_known g.M.Monoid.combine g.M.Monoid.unit_of g.K.Ord.cmp g.met.K.Ord.total c.args.self.now c.args.a.now c.args.b.now c.requires)

pub map-requires-in-Filter : goal.map-requires-in-Filter
map-requires-in-Filter g c = kinds.filter_map g.M.Monoid.combine g.M.Monoid.unit_of g.K.Ord.cmp c.args.self.now c.in-Filter.field-0 c.in-Filter.field-1 c.args.b.now c.in-Filter.is (kinds.second_known g.M.Monoid.combine g.M.Monoid.unit_of g.K.Ord.cmp g.met.K.Ord.total c.args.self.now c.args.a.now c.args.b.now c.requires)

pub merge-requires-clause-limits : goal.merge-requires-clause-limits
merge-requires-clause-limits g c =
    let limits = kinds.filter_limits g.M.Monoid.combine g.M.Monoid.unit_of g.K.Ord.cmp g.met.K.Ord.total c.args.self.now c.in-Filter.field-0 c.in-Filter.field-1 c.args.a.now c.args.b.now c.map.result.now c.map-in-Filter.result.now c.in-Filter.is c.map.ensures c.map-in-Filter.ensures c.requires in
    limits.0 ∙ sym limits.1

pub merge-requires-clause-room : goal.merge-requires-clause-room
merge-requires-clause-room g c =
    let limits = kinds.filter_limits g.M.Monoid.combine g.M.Monoid.unit_of g.K.Ord.cmp g.met.K.Ord.total c.args.self.now c.in-Filter.field-0 c.in-Filter.field-1 c.args.a.now c.args.b.now c.map.result.now c.map-in-Filter.result.now c.in-Filter.is c.map.ensures c.map-in-Filter.ensures c.requires in
    let few = kinds.filter_few g.M.Monoid.combine g.M.Monoid.unit_of g.K.Ord.cmp g.met.K.Ord.total c.args.self.now c.in-Filter.field-0 c.in-Filter.field-1 c.args.a.now c.args.b.now c.map.result.now c.map-in-Filter.result.now c.in-Filter.is c.map.ensures c.map-in-Filter.ensures c.requires in
    omega (arith, few, limits.0)

pub map-requires-in-MapValues : goal.map-requires-in-MapValues
map-requires-in-MapValues g c = kinds.values_map g.M.Monoid.combine g.M.Monoid.unit_of g.K.Ord.cmp c.args.self.now c.in-MapValues.field-0 c.in-MapValues.field-1 c.args.a.now c.in-MapValues.is (kinds.first_known g.M.Monoid.combine g.M.Monoid.unit_of g.K.Ord.cmp g.met.K.Ord.total c.args.self.now c.args.a.now c.args.b.now c.requires)

pub map-requires-in-MapValues-2 : goal.map-requires-in-MapValues-2
map-requires-in-MapValues-2 g c = kinds.values_map g.M.Monoid.combine g.M.Monoid.unit_of g.K.Ord.cmp c.args.self.now c.in-MapValues.field-0 c.in-MapValues.field-1 c.args.b.now c.in-MapValues.is (kinds.second_known g.M.Monoid.combine g.M.Monoid.unit_of g.K.Ord.cmp g.met.K.Ord.total c.args.self.now c.args.a.now c.args.b.now c.requires)

pub merge-requires-in-MapValues-clause-limits : goal.merge-requires-in-MapValues-clause-limits
merge-requires-in-MapValues-clause-limits g c =
    let limits = kinds.values_limits g.M.Monoid.combine g.M.Monoid.unit_of g.K.Ord.cmp g.met.K.Ord.total c.args.self.now c.in-MapValues.field-0 c.in-MapValues.field-1 c.args.a.now c.args.b.now c.map-in-MapValues.result.now c.map-in-MapValues-2.result.now c.in-MapValues.is c.map-in-MapValues.ensures c.map-in-MapValues-2.ensures c.requires in
    limits.0 ∙ sym limits.1

pub merge-requires-in-MapValues-clause-room : goal.merge-requires-in-MapValues-clause-room
merge-requires-in-MapValues-clause-room g c =
    let limits = kinds.values_limits g.M.Monoid.combine g.M.Monoid.unit_of g.K.Ord.cmp g.met.K.Ord.total c.args.self.now c.in-MapValues.field-0 c.in-MapValues.field-1 c.args.a.now c.args.b.now c.map-in-MapValues.result.now c.map-in-MapValues-2.result.now c.in-MapValues.is c.map-in-MapValues.ensures c.map-in-MapValues-2.ensures c.requires in
    let few = kinds.values_few g.M.Monoid.combine g.M.Monoid.unit_of g.K.Ord.cmp g.met.K.Ord.total c.args.self.now c.in-MapValues.field-0 c.in-MapValues.field-1 c.args.a.now c.args.b.now c.map-in-MapValues.result.now c.map-in-MapValues-2.result.now c.in-MapValues.is c.map-in-MapValues.ensures c.map-in-MapValues-2.ensures c.requires in
    omega (arith, few, limits.0)

pub images-left-requires : goal.images-left-requires
images-left-requires g c = kinds.pairs_map g.M.Monoid.combine g.M.Monoid.unit_of g.K.Ord.cmp c.args.self.now c.in-MapPairs.field-0 c.in-MapPairs.field-1 c.args.a.now c.in-MapPairs.is (kinds.first_known g.M.Monoid.combine g.M.Monoid.unit_of g.K.Ord.cmp g.met.K.Ord.total c.args.self.now c.args.a.now c.args.b.now c.requires)

pub images-right-requires : goal.images-right-requires
images-right-requires g c = kinds.pairs_map g.M.Monoid.combine g.M.Monoid.unit_of g.K.Ord.cmp c.args.self.now c.in-MapPairs.field-0 c.in-MapPairs.field-1 c.args.b.now c.in-MapPairs.is (kinds.second_known g.M.Monoid.combine g.M.Monoid.unit_of g.K.Ord.cmp g.met.K.Ord.total c.args.self.now c.args.a.now c.args.b.now c.requires)

pub joined_images-requires-clause-room : goal.joined_images-requires-clause-room
joined_images-requires-clause-room g c = kinds.pairs_few g.M.Monoid.combine g.M.Monoid.unit_of g.K.Ord.cmp g.met.K.Ord.total c.args.self.now c.in-MapPairs.field-0 c.in-MapPairs.field-1 c.args.a.now c.args.b.now c.images-left.result.0.now c.images-right.result.0.now c.images-left.result.1.now c.images-right.result.1.now c.in-MapPairs.is c.images-left.ensures c.images-right.ensures c.requires

pub joined_images-requires-clause-limits : goal.joined_images-requires-clause-limits
joined_images-requires-clause-limits g c = kinds.pairs_limits g.M.Monoid.combine g.M.Monoid.unit_of g.K.Ord.cmp g.met.K.Ord.total c.args.self.now c.in-MapPairs.field-0 c.in-MapPairs.field-1 c.args.a.now c.args.b.now c.images-left.result.0.now c.images-right.result.0.now c.images-left.result.1.now c.images-right.result.1.now c.in-MapPairs.is c.images-left.ensures c.images-right.ensures c.requires

pub joined_images-requires-clause-stamps : goal.joined_images-requires-clause-stamps
joined_images-requires-clause-stamps g c = kinds.pairs_stamps g.M.Monoid.combine g.M.Monoid.unit_of g.K.Ord.cmp g.met.K.Ord.total c.args.self.now c.in-MapPairs.field-0 c.in-MapPairs.field-1 c.args.a.now c.args.b.now c.images-left.result.0.now c.images-right.result.0.now c.images-left.result.1.now c.images-right.result.1.now c.in-MapPairs.is c.images-left.ensures c.images-right.ensures c.requires

pub item-requires : goal.item-requires
item-requires g c = kinds.item_of g.M.Monoid.combine g.M.Monoid.unit_of g.K.Ord.cmp c.args.self.now c.in-Fold.monoid c.in-Fold.field-1 c.args.a.now c.in-Fold.is (kinds.first_known g.M.Monoid.combine g.M.Monoid.unit_of g.K.Ord.cmp g.met.K.Ord.total c.args.self.now c.args.a.now c.args.b.now c.requires)

pub item-requires-in-Fold : goal.item-requires-in-Fold
item-requires-in-Fold g c = kinds.item_of g.M.Monoid.combine g.M.Monoid.unit_of g.K.Ord.cmp c.args.self.now c.in-Fold.monoid c.in-Fold.field-1 c.args.b.now c.in-Fold.is (kinds.second_known g.M.Monoid.combine g.M.Monoid.unit_of g.K.Ord.cmp g.met.K.Ord.total c.args.self.now c.args.a.now c.args.b.now c.requires)

pub returns-in-Count : goal.returns-in-Count
returns-in-Count g c = joins.count_joined g.M.Monoid.combine g.M.Monoid.unit_of g.K.Ord.cmp g.met.K.Ord.total c.args.self.now c.in-Count.field-0 c.args.a.now c.args.b.now c.number-first.result c.number-second.result c.in-Count.is c.number-first.ensures c.number-second.ensures

pub returns-after-first : goal.returns-after-first
returns-after-first g c =
    let e : c.if-first.result ≡ (c.truth-first.result || c.truth-second.result) = search rules in
    joins.exists_joined g.M.Monoid.combine g.M.Monoid.unit_of g.K.Ord.cmp g.met.K.Ord.total c.args.self.now c.in-Exists.field-0 c.args.a.now c.args.b.now c.truth-first.result c.truth-second.result c.if-first.result c.in-Exists.is c.truth-first.ensures c.truth-second.ensures e

pub returns-after-first-2 : goal.returns-after-first-2
returns-after-first-2 g c =
    let e : c.if-first-2.result ≡ (c.truth-first-in-ForAll.result && c.truth-second-in-ForAll.result) = search rules in
    joins.for_all_joined g.M.Monoid.combine g.M.Monoid.unit_of g.K.Ord.cmp g.met.K.Ord.total c.args.self.now c.in-ForAll.field-0 c.args.a.now c.args.b.now c.truth-first-in-ForAll.result c.truth-second-in-ForAll.result c.if-first-2.result c.in-ForAll.is c.truth-first-in-ForAll.ensures c.truth-second-in-ForAll.ensures e

pub returns-in_ok-first_of-in-Find : goal.returns-in_ok-first_of-in-Find
returns-in_ok-first_of-in-Find g c = joins.find_joined g.M.Monoid.combine g.M.Monoid.unit_of g.K.Ord.cmp g.met.K.Ord.total c.args.self.now c.in-Find.field-0 c.args.a.now c.args.b.now c.found.result.now c.found-in-Find.result.now c.in_ok-first_of-in-Find.field-0 c.in-Find.is c.found.ensures c.found-in-Find.ensures c.in_ok-first_of-in-Find.ensures

pub returns-in_ok-merge-in-Filter : goal.returns-in_ok-merge-in-Filter
returns-in_ok-merge-in-Filter g c = joins.filter_joined g.M.Monoid.combine g.M.Monoid.unit_of g.K.Ord.cmp g.met.K.Ord.total c.args.self.now c.in-Filter.field-0 c.in-Filter.field-1 c.args.a.now c.args.b.now c.map.result.now c.map-in-Filter.result.now c.in_ok-merge-in-Filter.field-0 c.in-Filter.is c.map.ensures c.map-in-Filter.ensures c.in_ok-merge-in-Filter.ensures.entries c.in_ok-merge-in-Filter.ensures.limit c.in_ok-merge-in-Filter.ensures.stamp

pub returns-in_ok-merge-in-MapValues : goal.returns-in_ok-merge-in-MapValues
returns-in_ok-merge-in-MapValues g c = joins.values_joined g.M.Monoid.combine g.M.Monoid.unit_of g.K.Ord.cmp g.met.K.Ord.total c.args.self.now c.in-MapValues.field-0 c.in-MapValues.field-1 c.args.a.now c.args.b.now c.map-in-MapValues.result.now c.map-in-MapValues-2.result.now c.in_ok-merge-in-MapValues.field-0 c.in-MapValues.is c.map-in-MapValues.ensures c.map-in-MapValues-2.ensures c.in_ok-merge-in-MapValues.ensures.entries c.in_ok-merge-in-MapValues.ensures.limit c.in_ok-merge-in-MapValues.ensures.stamp

pub returns-in_ok-map-in-MapPairs : goal.returns-in_ok-map-in-MapPairs
returns-in_ok-map-in-MapPairs g c =
    let made = c.in_ok-map-in-MapPairs in
    joins.pairs_joined g.M.Monoid.combine g.M.Monoid.unit_of g.K.Ord.cmp g.met.K.Ord.total g.met.K.PathKey.exact c.args.self.now c.in-MapPairs.field-0 c.in-MapPairs.field-1 c.args.a.now c.args.b.now c.images-left.result.0.now c.images-right.result.0.now made.map c.images-left.result.1.now c.images-right.result.1.now made.view c.in-MapPairs.is c.images-left.ensures c.images-right.ensures made.ensures.sorted made.ensures.view made.ensures.limit made.ensures.stamp made.ensures.entries

pub returns-in-Fold : goal.returns-in-Fold
returns-in-Fold g c =
    let laws = g.met.M.Monoid in
    joins.fold_joined g.M.Monoid.combine g.M.Monoid.unit_of g.K.Ord.cmp g.met.K.Ord.total g.M.Monoid.is_item laws.associative laws.commutative laws.neutral laws.closed laws.unit_is_item c.args.self.now c.in-Fold.monoid c.in-Fold.field-1 c.args.a.now c.args.b.now c.item.result.now c.item-in-Fold.result.now c.op.result c.in-Fold.is c.item.ensures c.item-in-Fold.ensures c.op.ensures.combined
