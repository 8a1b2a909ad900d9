-- What a finish leaves.
use Rattle.std.proofs.Common.{◌≡◌, ℕ, true, refl, ap, sym, subst, Option, Some, None}
use Rattle.std.specs.Prelude.{Result, Ok, Err, IfOk, OnErr, is_some}
use Rattle.std.specs.Ordering.{nat_cmp}
use Rattle.versions.specs.Map.{with_pair}
use Rattle.bulk_work.specs.Answers as plain
use Rattle.handles.specs.Machine.{Kind, State, live_after}
use Rattle.handles.specs.Jobs.{live_with_answer}

-- where what is looked for is there, a result that is an error only where it is none is a success
pub succeeds : {X T E : Type 0} (o : Option X) (P : T → Type 0) (result : Result T E) → is_some o ≡ true → IfOk result P → OnErr result (o ≡ None) → (a : T) × (result ≡ Ok a) × P a
succeeds o P (Ok a) some ok err = (a, refl, ok)
succeeds {X = X} o P (Err e) some ok err = let no : is_some {T = X} None ≡ true = subst (λ (x : Option X). is_some x ≡ true) err some in absurd (cc)

module _ {K V Q I : Type 0} (kind : Kind K V Q (plain.Answer K V I) (plain.Summary K V I)) where
  pub live_with_answer-is : ((a : plain.Answer K V I) → kind.map_of a ≡ plain.map_of a) → (s : State K V Q) (to : Option ℕ) (a : plain.Answer K V I) → live_with_answer s.live to a ≡ live_after kind s to a
  live_with_answer-is same s None a = refl
  live_with_answer-is same s (Some to) a = ap (with_pair nat_cmp s.live to) (sym (same a))
