-- What a closure has made of the value of a key, and what a test has done to it.
use Rattle.std.proofs.Common.{◌≡◌, Bool, true, false, cond, ◌&&◌, Option, Some, None, IfSome, is_some, Result, Ok, Err, refl, sym, subst, true≢false}
use Rattle.std.proofs.lemmas.Option.{none-some}
use Rattle.std.specs.Fn.{Once}
use Rattle.std.specs.Prelude.{IfErr, IfOk, OnErr, option_map}
use Rattle.std.specs.declared.cmp.Ordering.{Ordering}
use Rattle.stripe.specs.Updates.{MayPass, TriesToSet, made_of}
use Rattle.stripe.specs.declared.stripe.TheConstants.{MOST_PAIRS_OF_STRIPE}
use Rattle.versions.specs.Commands.{is_full_for}
use Rattle.versions.specs.Map.{Map}
use Rattle.versions.specs.Puts.{FullExactly}
use Rattle.versions.specs.declared.refusal.Refusal.{Refusal}
use denote.Ref.{Bor}

module _ {K V : Type 0} (R : K → K → Ordering) (m n : Map K V) (k : K) where
  -- what a closure made that did not fail
  pub if_ok_made : {T E : Type 0} (made : Result (Option V) E) (done : Result T E) (A B C S : T → Type 0) → TriesToSet R m k made (Ok done) n → IfOk done A → IfOk done B → IfOk done C → ((t : T) → made ≡ Ok (made_of made) → A t → B t → C t → S t) → IfOk done S
  if_ok_made (Ok new) (Ok t) A B C S tries a b c f = f t refl a b c
  if_ok_made (Ok new) (Err e) A B C S tries a b c f = tt
  if_ok_made (Err e) (Ok t) A B C S tries a b c f = absurd (let is = tries.0 in cc)
  if_ok_made (Err d) (Err e) A B C S tries a b c f = tt

  -- the error of a closure that failed
  pub if_err_made : {T E : Type 0} (made : Result (Option V) E) (done : Result T E) (P : E → Type 0) (F : Type 0) → TriesToSet R m k made (Ok done) n → OnErr done F → ((e : E) → made ≡ Err e → F → P e) → IfErr done P
  if_err_made (Err d) (Err e) P F tries left f = f e (let is = tries.0 in cc) left
  if_err_made (Err e) (Ok t) P F tries left f = tt
  if_err_made (Ok new) (Ok t) P F tries left f = tt
  if_err_made (Ok new) (Err e) P F tries left f = absurd (true≢false (sym tries.0))

  -- only what a closure made is refused for want of room
  pub tried_full : {T E : Type 0} (made : Result (Option V) E) (result : Result (Result T E) Refusal) → TriesToSet R m k made result n → FullExactly result (is_some (made_of made) && is_full_for R MOST_PAIRS_OF_STRIPE m k)
  tried_full (Ok new) result tries = tries.1.1
  tried_full {T} {E} (Err e) result tries = subst (λ (r : Result (Result T E) Refusal). FullExactly r false) (sym tries.0) refl

-- three clauses on an answer that is no error
pub if_ok_both : {A E : Type 0} (r : Result A E) {P Q S : A → Type 0} → ((a : A) → P a → Q a → S a) → IfOk r P → IfOk r Q → IfOk r S
if_ok_both (Ok a) f p q = f a p q
if_ok_both (Err e) f p q = tt

module _ {F V A : Type 0} (calls : Once F (Bor V × Unit {0}) Bool) (f : F) (of : A → V) where
  -- what passed was there, and is removed
  pub passed : (here : Option V) (before : Option A) → MayPass calls f here true → option_map of before ≡ here → MayPass calls f here (is_some before)
  passed None before may is = absurd (true≢false may)
  passed (Some v) None may is = absurd (none-some v is)
  passed (Some v) (Some a) may is = may

-- what was removed was there
pub removed_was : {V A : Type 0} (of : A → V) (here : Option V) (passes : Bool) (removed : Option A) → option_map of removed ≡ cond passes here None → IfSome removed (λ a. here ≡ Some (of a))
removed_was of here passes None is = tt
removed_was of here true (Some a) is = sym is
removed_was of here false (Some a) is = absurd (none-some (of a) (sym is))
