use Rattle.std.proofs.Common.{◌∷◌, [], ◌∙◌, ◌+ℤ◌, ℤ, All, ap, arith, refl}
use Rattle.std.proofs.Math.IntN.{+ℤ_idr}
use Rattle.std.proofs.lemmas.List.Elements.{All-cons, All-nil}
use Rattle.combiner.specs.Numbers.{IsI64, wrapped_sum}
use Rattle.combiner.specs.Pairs.{side_by_side}
use Rattle.tests_bulk_ops.proofs.tests.sums.sum_of_two.Goals as goal

two : (a b : ℤ) → IsI64 a → IsI64 b → All IsI64 (a ∷ b ∷ [])
two a b first last = All-cons IsI64 a (b ∷ []) first (All-cons IsI64 b [] last (All-nil IsI64))

pub returns-clause-plain : goal.returns-clause-plain
returns-clause-plain c =
    let a = c.args.first in
    let b = c.args.last in
    c.law_of_sums.ensures (a ∷ b ∷ []) (two a b c.ranges.first c.ranges.last) (omega arith) ∙ ap (λ n. a +ℤ n) (+ℤ_idr b)

pub returns-clause-within : goal.returns-clause-within
returns-clause-within c =
    let a = c.args.first in
    let b = c.args.last in
    c.law_of_sums_within.ensures (side_by_side wrapped_sum wrapped_sum) (λ n. (n, n)) (λ m n. refl) (a ∷ b ∷ []) (two a b c.ranges.first c.ranges.last) (omega arith)
    ∙ ap (λ n. (a +ℤ n, a +ℤ n)) (+ℤ_idr b)
