-- What the order of keys decides.
use Rattle.std.proofs.Common.{◌≡◌, true, ap}
use Rattle.std.specs.declared.cmp.Ordering.{Ordering}
use Rattle.std.specs.Ordering.{eq_by_cmp, is_eq}
use Rattle.std.specs.Cmp.{IsTotalOrder}
use Rattle.std.proofs.lemmas.Cmp.{tied_itself}

-- a key is the same key as itself
pub same_key : {K : Type 0} (R : K → K → Ordering) → IsTotalOrder R → (k : K) → eq_by_cmp R k k ≡ true
same_key R total k = ap is_eq (tied_itself total k)
