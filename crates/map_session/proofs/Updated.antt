-- Writes that a closure decides on, as a session sees them.
use Rattle.std.proofs.Common.{◌≡◌, ℕ, Bool, ◌&&◌, ◌||◌, List, Option, Some, None, Result, Ok, Err, is_some, refl, subst}
use Rattle.std.specs.Prelude.{IfErr, option_map}
use Rattle.std.specs.declared.cmp.Ordering.{Ordering}
use Rattle.stripe.specs.Updates.{write_of}
use Rattle.trie_shape.specs.Conditions.{some_and}
use Rattle.write_history.specs.declared.entry.Entry.{Entry}
use Rattle.write_history.specs.Signers.{Read, Signer, WroteIf, signed_if}
use Rattle.map_session.specs.Sessions.{Seen}

some_mapped : {A V : Type 0} (of : A → V) (o : Option A) → is_some o ≡ is_some (option_map of o)
some_mapped of None = refl
some_mapped of (Some a) = refl

-- a value of which that holds is there
pub there_and : {A V : Type 0} (of : A → V) (f : V → Bool) (o : Option A) → (is_some o && some_and f (option_map of o)) ≡ some_and f (option_map of o)
there_and of f None = refl
there_and of f (Some a) = refl

-- what holds of an error
pub if_err : {A E : Type 0} (r : Result A E) {P Q : E → Type 0} → ((e : E) → P e → Q e) → IfErr r P → IfErr r Q
if_err (Ok a) f p = tt
if_err (Err e) f p = f e p

module _ {K V : Type 0} (R : K → K → Ordering) (path : K → ℕ) (k : K) (signer : Signer) (old : List (Entry K V)) (s t : Seen K V) (same : record { log = old; signer = signer } ≡ s) where
  -- what a stripe tells of a write behind a front, a session tells of its key and of what it had seen
  pub told_by : (done : Bool) (made : Option V) (before : Option V) → WroteIf R path done (write_of k made) k before signer old t.log → t.signer ≡ signed_if done signer → WroteIf R path done (write_of k made) k before s.signer s.log t.log × (t.signer ≡ signed_if done s.signer)
  told_by done made before wrote signed =
      subst (λ (x : Seen K V). WroteIf R path done (write_of k made) k before x.signer x.log t.log × (t.signer ≡ signed_if done x.signer)) same (wrote, signed)

  -- the same, of the value before as it is
  pub told_of : {A : Type 0} (of : A → V) (made : Option V) (o : Option A) → WroteIf R path (is_some made || is_some o) (write_of k made) k (option_map of o) signer old t.log → t.signer ≡ signed_if (is_some made || is_some o) signer → WroteIf R path (is_some made || is_some (option_map of o)) (write_of k made) k (option_map of o) s.signer s.log t.log × (t.signer ≡ signed_if (is_some made || is_some (option_map of o)) s.signer)
  told_of of made o wrote signed =
      let more = told_by (is_some made || is_some o) made (option_map of o) wrote signed in
      subst (λ (c : Bool). WroteIf R path (is_some made || c) (write_of k made) k (option_map of o) s.signer s.log t.log × (t.signer ≡ signed_if (is_some made || c) s.signer)) (some_mapped of o) more

  -- where nothing was written
  pub read_by : (found : Option V) → Read R path k found old t.log → t.signer ≡ signer → Read R path k found s.log t.log × (t.signer ≡ s.signer)
  read_by found read signed =
      subst (λ (x : Seen K V). Read R path k found x.log t.log × (t.signer ≡ x.signer)) same (read, signed)
