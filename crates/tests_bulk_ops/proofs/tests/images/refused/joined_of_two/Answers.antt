use Rattle.std.proofs.Common.{◌≡◌, false, [], ◌∷◌}
use Rattle.std.specs.Ordering.{is_eq}
use Rattle.keys.specs.Order.{bytes_cmp}
use Rattle.tests_bulk_ops.proofs.Apart.{one_apart}
use Rattle.tests_bulk_ops.proofs.tests.images.refused.joined_of_two.Goals as goal

-- the two parts are of pairs with two keys
pub join-both-requires : goal.join-both-requires
join-both-requires g c =
    let a = c.shared-first.result in
    let b = c.shared-second.result in
    let other : is_eq (bytes_cmp a.0.value b.0.value) ≡ false = λ i. is_eq (bytes_cmp (c.shared-first.ensures.key i) (c.shared-second.ensures.key i)) in
    ∣ record {
      first = (a.0.value, a.1.value) ∷ [];
      second = (b.0.value, b.1.value) ∷ [];
      first_is = c.one_of-left.ensures;
      second_is = c.one_of-right.ensures;
      apart = one_apart a.0.value b.0.value a.1.value b.1.value other;
    } ∣₁
