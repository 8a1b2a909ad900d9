use Rattle.std.proofs.Common.{◌≡◌, ◌∷◌, ap, arith, subst}
use Rattle.std.proofs.lemmas.Map.Iter.{rest_more}
use Rattle.std.proofs.lemmas.Map.Keys.{sorted_tail}
use Rattle.std.specs.List.Sorted.{IsStrictlySortedBy}
use Rattle.std.specs.Map.{keys_of}
use Rattle.std.specs.Map.Iter.{deref_pair}
use Rattle.std.specs.Ordering.{nat_cmp}
use Rattle.example_expiry.specs.Initials.{Counts, count_at}
use Rattle.example_expiry.proofs.Sums.{first_counts}
use Rattle.example_expiry.proofs.initials.sum_of.Goals as goal

pub loop-byte-preserved : goal.loop-byte-preserved
loop-byte-preserved c =
    let first : c.loop-byte.byte-iterator ≡ (c.in-Some.byte.now, c.in-Some.count.now) ∷ c.next.new.self = rest_more deref_pair _ _ _ _ c.in-Some.is c.next.ensures.steps in
    let sorted = subst (λ (es : Counts). IsStrictlySortedBy nat_cmp (keys_of es)) first c.loop-byte.invariant.2 in (
      tt,
      tt,
      sorted_tail nat_cmp c.in-Some.byte.now (keys_of c.next.new.self) sorted,
      λ byte. omega (arith, ap (λ (es : Counts). count_at es byte) first, first_counts byte c.in-Some.byte.now c.in-Some.count.now c.next.new.self sorted, c.in_ok-add.ensures.added byte, c.loop-byte.invariant.3 byte),
    )
