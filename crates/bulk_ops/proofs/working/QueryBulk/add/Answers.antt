use Rattle.std.proofs.Common.{rules, arith, ◌∙◌}
use Rattle.bulk_ops.proofs.PartKinds as kinds
use Rattle.bulk_ops.proofs.Additions as adds
use Rattle.bulk_ops.proofs.working.QueryBulk.add.Goals as goal

-- 1. The part is one of the query, with room for a pair.
pub number-requires : goal.number-requires
number-requires g c = kinds.number_of g.M.Monoid.combine g.M.Monoid.unit_of g.K.Ord.cmp c.args.self.now c.in-Count.test c.args.part.now c.in-Count.is (kinds.added_known g.M.Monoid.combine g.M.Monoid.unit_of g.K.Ord.cmp g.met.K.Ord.total c.args.key.now.value c.args.value.now.value c.args.self.now c.args.part.now c.requires.apart)

pub overflow_add-next : goal.overflow_add-next
overflow_add-next g c =
    let few = kinds.count_room g.M.Monoid.combine g.M.Monoid.unit_of g.K.Ord.cmp g.met.K.Ord.total c.args.key.now.value c.args.value.now.value c.args.self.now c.in-Count.test c.args.part.now c.number.result c.in-Count.is c.number.ensures c.requires.apart in
    let one = adds.at_most_one c.at.result c.from.result c.from.ensures in
    omega (arith, few, one)

pub truth-requires : goal.truth-requires
truth-requires g c = kinds.exists_truth g.M.Monoid.combine g.M.Monoid.unit_of g.K.Ord.cmp c.args.self.now c.in-Exists.test c.args.part.now c.in-Exists.is (kinds.added_known g.M.Monoid.combine g.M.Monoid.unit_of g.K.Ord.cmp g.met.K.Ord.total c.args.key.now.value c.args.value.now.value c.args.self.now c.args.part.now c.requires.apart)

pub truth-requires-in-ForAll : goal.truth-requires-in-ForAll
truth-requires-in-ForAll g c = kinds.for_all_truth g.M.Monoid.combine g.M.Monoid.unit_of g.K.Ord.cmp c.args.self.now c.in-ForAll.test c.args.part.now c.in-ForAll.is (kinds.added_known g.M.Monoid.combine g.M.Monoid.unit_of g.K.Ord.cmp g.met.K.Ord.total c.args.key.now.value c.args.value.now.value c.args.self.now c.args.part.now c.requires.apart)

pub item-requires : goal.item-requires
item-requires g c = kinds.item_of g.M.Monoid.combine g.M.Monoid.unit_of g.K.Ord.cmp c.args.self.now c.in-Fold.monoid c.in-Fold.item c.args.part.now c.in-Fold.is (kinds.added_known g.M.Monoid.combine g.M.Monoid.unit_of g.K.Ord.cmp g.met.K.Ord.total c.args.key.now.value c.args.value.now.value c.args.self.now c.args.part.now c.requires.apart)

-- 2. The new part answers the map with the pair.
pub returns-in-Count-clause-added : goal.returns-in-Count-clause-added
returns-in-Count-clause-added g c =
    rw c.replace.ensures (
    adds.count_added g.M.Monoid.combine g.M.Monoid.unit_of g.K.Ord.cmp g.met.K.Ord.total c.args.key.now.value c.args.value.now.value c.args.self.now c.in-Count.test c.at.result c.args.part.now c.from.result c.number.result c.in-Count.is
    (λ p means. c.at.ensures p means ∙ (λ i. p (c.deref.ensures i) (c.deref-in-Count.ensures i))) (c.from.ensures ∙ adds.number_of_test c.at.result) c.number.ensures)

pub returns-in-Exists-clause-added : goal.returns-in-Exists-clause-added
returns-in-Exists-clause-added g c =
    rw c.replace-in-Exists.ensures (
    adds.exists_added g.M.Monoid.combine g.M.Monoid.unit_of g.K.Ord.cmp g.met.K.Ord.total c.args.key.now.value c.args.value.now.value c.args.self.now c.in-Exists.test c.at-in-Exists.result c.truth.result _ c.args.part.now c.in-Exists.is
    (λ p means. c.at-in-Exists.ensures p means ∙ (λ i. p (c.deref-in-Exists.ensures i) (c.deref-in-Exists-2.ensures i))) c.truth.ensures (search rules))

pub returns-in-ForAll-clause-added : goal.returns-in-ForAll-clause-added
returns-in-ForAll-clause-added g c =
    rw c.replace-in-ForAll.ensures (
    adds.for_all_added g.M.Monoid.combine g.M.Monoid.unit_of g.K.Ord.cmp g.met.K.Ord.total c.args.key.now.value c.args.value.now.value c.args.self.now c.in-ForAll.test c.at-in-ForAll.result c.truth-in-ForAll.result _ c.args.part.now c.in-ForAll.is
    (λ p means. c.at-in-ForAll.ensures p means ∙ (λ i. p (c.deref-in-ForAll.ensures i) (c.deref-in-ForAll-2.ensures i))) c.truth-in-ForAll.ensures (search rules))

pub returns-in_ok-copy_of-in-Find-clause-added : goal.returns-in_ok-copy_of-in-Find-clause-added
returns-in_ok-copy_of-in-Find-clause-added g c =
    rw c.replace-then-at.ensures (
    adds.find_added g.M.Monoid.combine g.M.Monoid.unit_of g.K.Ord.cmp g.met.K.Ord.total c.args.key.now.value c.args.value.now.value c.args.self.now c.in-Find.test c.at-in-Find.result c.in_ok-copy_of-in-Find.field-0 c.args.part.now c.in-Find.is c.if-at.true
    (λ p means. c.at-in-Find.ensures p means ∙ (λ i. p (c.deref-in-Find.ensures i) (c.deref-in-Find-2.ensures i))) (λ i. (c.in_ok-copy_of-in-Find.ensures.0 i, c.in_ok-copy_of-in-Find.ensures.1 i)))

pub returns-else-at-clause-added : goal.returns-else-at-clause-added
returns-else-at-clause-added g c =
    adds.find_passed g.M.Monoid.combine g.M.Monoid.unit_of g.K.Ord.cmp g.met.K.Ord.total c.args.key.now.value c.args.value.now.value c.args.self.now c.in-Find.test c.at-in-Find.result c.args.part.now c.in-Find.is c.if-at.false
    (λ p means. c.at-in-Find.ensures p means ∙ (λ i. p (c.deref-in-Find.ensures i) (c.deref-in-Find-2.ensures i)))

pub returns-in-Fold-clause-added : goal.returns-in-Fold-clause-added
returns-in-Fold-clause-added g c =
    let laws = g.met.M.Monoid in
    rw c.replace-in-Fold.ensures (
    adds.fold_added g.M.Monoid.combine g.M.Monoid.unit_of g.K.Ord.cmp g.met.K.Ord.total c.args.key.now.value c.args.value.now.value g.M.Monoid.is_item laws.associative laws.commutative laws.neutral laws.closed laws.unit_is_item c.args.self.now c.in-Fold.monoid c.in-Fold.item c.at-one.result c.item.result.now c.op-folded.result c.args.part.now c.in-Fold.is
    (λ p means. c.at-one.ensures p means ∙ (λ i. p (c.deref-in-Fold.ensures i) (c.deref-in-Fold-2.ensures i))) c.item.ensures c.op-folded.ensures.combined)
