use Rattle.std.proofs.lemmas.List.Sorted.{IsPermutation-map}
use Rattle.bulk_work.specs.Answers.{items_of}
use Rattle.bulk_ops.proofs.Permutations.{folded-permutation}
use Rattle.bulk_ops.proofs.laws.law_of_folds.Goals as goal

pub returns : goal.returns
returns g c w item m listing same =
    let laws = g.met.M.Monoid in
    folded-permutation (g.M.Monoid.combine w) (g.M.Monoid.unit_of w) (laws.associative w) (laws.commutative w) (items_of item m) (items_of item listing)
    (IsPermutation-map (λ x. item x.0 x.1) m listing same)
