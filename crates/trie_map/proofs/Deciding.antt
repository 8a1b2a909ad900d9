-- Writes that a closure decides on: what fails, and what passes.
use Rattle.std.proofs.Common.{◌≡◌, Bool, true, false, cond, Option, Some, None, IfSome, is_some, Result, Ok, Err, refl, sym, subst, true≢false}
use Rattle.std.proofs.lemmas.Option.{none-some}
use Rattle.std.specs.Fn.{Once}
use Rattle.std.specs.Prelude.{IfErr, IfOk, option_map}
use Rattle.std.specs.declared.cmp.Ordering.{Ordering}
use Rattle.stripe.specs.Updates.{MayPass, TriesToSet}
use Rattle.versions.specs.Map.{Map}
use Rattle.versions.specs.declared.refusal.Refusal.{Refusal}
use denote.Ref.{Bor}

-- the error that is handed out is the one of the closure
pub failed_made : {K V T E : Type 0} (R : K → K → Ordering) (m n : Map K V) (k : K) (P : E → Type 0) (made : Result (Option V) E) (done : Result T E) → TriesToSet R m k made (Ok done) n → ((e : E) → made ≡ Err e → P e) → IfErr done P
failed_made R m n k P (Err e) done tries failed = subst (λ (r : Result (Result _ _) Refusal). IfOk r (λ d. IfErr d P)) (sym tries.0) (failed e refl)
failed_made R m n k P (Ok new) (Ok t) tries failed = tt
failed_made R m n k P (Ok new) (Err e) tries failed = absurd (true≢false (sym tries.0))

-- what is done was made of the value before
pub done_made : {K V T E : Type 0} (R : K → K → Ordering) (m n : Map K V) (k : K) (of : T → Option V) (old : Option V) (P : Option V → Result (Option V) E → Type 0) (made : Result (Option V) E) (done : Result T E) → TriesToSet R m k made (Ok done) n → IfOk done (λ t. of t ≡ old) → P old made → IfOk done (λ t. (x : Option V) × P (of t) (Ok x))
done_made {K} {V} R m n k of old P (Err e) done tries is may =
    subst (λ (r : Result (Result _ _) Refusal). IfOk r (λ d. IfOk d (λ t. (x : Option V) × P (of t) (Ok x)))) (sym tries.0) tt
done_made R m n k of old P (Ok x) (Ok t) tries is may = (x, subst (λ o. P o (Ok x)) (sym is) may)
done_made R m n k of old P (Ok x) (Err e) tries is may = tt

module _ {F V A : Type 0} (calls : Once F (Bor V × Unit {0}) Bool) (f : F) (of : A → V) where
  -- something is removed exactly where the test passed
  pub removed_where : (here : Option V) (passes : Bool) (removed : Option A) → MayPass calls f here passes → option_map of removed ≡ cond passes here None → passes ≡ is_some removed
  removed_where None true removed may is = absurd (true≢false may)
  removed_where (Some v) true None may is = absurd (none-some v is)
  removed_where (Some v) true (Some a) may is = refl
  removed_where here false None may is = refl
  removed_where here false (Some a) may is = absurd (none-some (of a) (sym is))

  -- what is removed passes
  pub removed_passes : (here : Option V) (passes : Bool) (removed : Option A) → MayPass calls f here passes → option_map of removed ≡ cond passes here None → IfSome removed (λ a. MayPass calls f (Some (of a)) true)
  removed_passes here passes None may is = tt
  removed_passes here true (Some a) may is = subst (λ (o : Option V). MayPass calls f o true) (sym is) may
  removed_passes here false (Some a) may is = absurd (none-some (of a) (sym is))
