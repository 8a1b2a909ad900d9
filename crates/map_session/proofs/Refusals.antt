-- When a put through a session is refused as full.
use Rattle.std.proofs.Common.{◌≡◌, ℕ, ◌∙◌, Bool, List, true, Result, Err, refl, subst, sym}
use Rattle.versions.specs.Puts.{FullExactly}
use Rattle.versions.specs.declared.refusal.Refusal.{Refusal}
use Rattle.versions.specs.declared.refusal.Refusal.TheVariants as refusals
use Rattle.map_session.specs.declared.put_error.PutError.{PutError}
use Rattle.map_session.specs.declared.put_error.PutError.TheVariants.{Full, NoMemory}
use Rattle.map_session.specs.Fullness.{SaysFull}
use mathlib.Core.List.{IsPrefix}
use Rattle.stripe.proofs.Seeing.{prefix_trans}
use Rattle.stripe.specs.Told.{Finds}
use Rattle.versions.specs.Map.{Map}
use Rattle.write_history.specs.declared.entry.Entry.{Entry}
use Rattle.std.specs.declared.cmp.Ordering.{Ordering}

-- what a stripe's refusal says of a full stripe, the error that is made of it says too
pub says_full : {T : Type 0} (seen : Result T Refusal) (e : PutError) (r : Refusal) (F : Bool → Type 0) → (e ≡ Full → r ≡ refusals.Full) → (r ≡ refusals.Full → F true) → SaysFull {T = T} (Err e) F
says_full seen Full r F same holds = holds (same refl)
says_full seen NoMemory r F same holds = tt

-- a stripe that was refused as full is full
pub is_full : {T : Type 0} (seen : Result T Refusal) (r : Refusal) (b : Bool) → FullExactly {T = T} (Err r) b → r ≡ refusals.Full → b ≡ true
is_full {T = T} seen r b told is = subst (λ (x : Refusal). FullExactly {T = T} (Err x) b) is told

-- what was found in a stripe behind what was seen of the history
pub found_there : {K V : Type 0} (R : K → K → Ordering) (path : K → ℕ) (d e : ℕ) (seen log : List (Entry K V)) (P Q : Map K V → Type 0) → d ≡ e → seen ≡ log → ((m : Map K V) → P m → Q m) → Finds R path d seen P → Finds R path e log Q
found_there R path d e seen log P Q here same holds found =
    (found.0, found.1, subst (λ (l : List (Entry _ _)). IsPrefix l found.0) same found.2, (λ q mine. found.3 q (mine ∙ sym here)), holds found.1 found.4)

-- what was found behind more than what was seen before
pub found_behind : {K V : Type 0} (R : K → K → Ordering) (path : K → ℕ) (d : ℕ) (old seen : List (Entry K V)) (P : Map K V → Type 0) → IsPrefix old seen → Finds R path d seen P → Finds R path d old P
found_behind R path d old seen P more found = (found.0, found.1, prefix_trans old seen found.0 more found.2, found.3, found.4)
