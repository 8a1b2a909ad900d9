-- What two clauses on an answer say together.
use Rattle.std.proofs.Common.{Result, Ok, Err, IfOk}

pub if_ok_both : {A E : Type 0} (r : Result A E) {P Q S : A → Type 0} → ((a : A) → P a → Q a → S a) → IfOk r P → IfOk r Q → IfOk r S
if_ok_both (Ok a) f p q = f a p q
if_ok_both (Err e) f p q = tt
