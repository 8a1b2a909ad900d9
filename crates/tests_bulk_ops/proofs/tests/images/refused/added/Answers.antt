use Rattle.std.proofs.Common.{◌≡◌, false, [], ◌∷◌}
use Rattle.std.specs.Ordering.{is_eq}
use Rattle.keys.specs.Order.{bytes_cmp}
use Rattle.tests_bulk_ops.proofs.Apart.{one_apart}
use Rattle.tests_bulk_ops.proofs.tests.images.refused.added.Goals as goal

-- the pair that is added has another key than the pair of the part
pub add-requires-clause-apart : goal.add-requires-clause-apart
add-requires-clause-apart g c =
    let a = c.shared-first.result in
    let b = c.shared-second.result in
    let other : is_eq (bytes_cmp b.0.value a.0.value) ≡ false = λ i. is_eq (bytes_cmp (c.shared-second.ensures.key i) (c.shared-first.ensures.key i)) in
    ∣ ((a.0.value, a.1.value) ∷ [], c.one_of-part.ensures, one_apart b.0.value a.0.value b.1.value a.1.value other) ∣₁
