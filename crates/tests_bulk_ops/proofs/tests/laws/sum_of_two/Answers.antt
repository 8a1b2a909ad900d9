use Rattle.std.specs.Prelude.{ℕ, ℤ, [], ◌∷◌}
use Rattle.std.proofs.lemmas.List.Sorted.{IsPermutation-to_front}
use Rattle.tests_bulk_ops.proofs.tests.laws.sum_of_two.Goals as goal

-- the last pair first is a listing of the map
pub returns-clause-map : goal.returns-clause-map
returns-clause-map c =
    let last = IsPermutation-to_front {X = ℕ × ℤ} ((1, c.args.first) ∷ []) (2, c.args.last) in
    c.law_of_folds.ensures c.args.sum (λ k v. v) ((1, c.args.first) ∷ (2, c.args.last) ∷ []) ((2, c.args.last) ∷ (1, c.args.first) ∷ []) last
