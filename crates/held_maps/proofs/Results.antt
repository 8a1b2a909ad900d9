-- What follows of a result, where its other outcome says nothing.
use Rattle.std.specs.Prelude.{Result, Ok, Err, IfOk, OnOk}

module _ {T E : Type 0} where
  pub if_ok : (P Q : T → Type 0) → ((x : T) → P x → Q x) → (r : Result T E) → IfOk r P → IfOk r Q
  if_ok P Q f (Ok x) p = f x p
  if_ok P Q f (Err e) p = tt

  pub on_ok : (P Q : Type 0) → (P → Q) → (r : Result T E) → OnOk r P → OnOk r Q
  on_ok P Q f (Ok x) p = f p
  on_ok P Q f (Err e) p = tt
