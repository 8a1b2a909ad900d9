-- What a closure makes of the value of a key, and the map once the key has that.
use Rattle.std.specs.Prelude.{◌≡◌, Bool, false, ◌&&◌, if◌then◌else◌, Option, Some, None, Result, Ok, Err, IfOk, IsOk, OnOk, is_some, option_map}
use Rattle.std.specs.Fn.{Once}
use Rattle.std.specs.declared.cmp.Ordering.{Ordering}
use Rattle.stripe.specs.declared.stripe.TheConstants.{MOST_PAIRS_OF_STRIPE}
use Rattle.versions.specs.Commands.{is_full_for}
use Rattle.versions.specs.Map.{Map, value_at, with_pair, without}
use Rattle.versions.specs.Puts.{FullExactly}
use Rattle.versions.specs.declared.refusal.Refusal.{Refusal}
use Rattle.write_history.specs.declared.entry.Write.{Write}
use Rattle.write_history.specs.declared.entry.Write.TheVariants.{Put, Remove}
use denote.Ref.{Bor}

-- a call of the closure f where the key has this value, or none, may answer this
abbrev pub MayMake : {F V T : Type 0} → Once F (Option (Bor V) × Unit {0}) T → F → Option V → T → Type 0
MayMake {F} {V} calls f old made = (a : Option (Bor V)) × (option_map (λ (b : Bor V). b.now) a ≡ old) × calls.post f (a, tt) made

-- a call of the test f where the key has this value may answer this; an absent key does not pass
abbrev pub MayPass : {F V : Type 0} → Once F (Bor V × Unit {0}) Bool → F → Option V → Bool → Type 0
MayPass {F} {V} calls f None passes = passes ≡ false
MayPass {F} {V} calls f (Some v) passes = (a : Bor V) × (a.now ≡ v) × calls.post f (a, tt) passes

module _ {K V : Type 0} (R : K → K → Ordering) where
  -- the map once the key has this value, or none
  abbrev pub with_value : Map K V → K → Option V → Map K V
  with_value m k None = without R m k
  with_value m k (Some v) = with_pair R m k v

  -- the key of a stripe with the pairs m has this value then, or none; a new key of a full stripe is refused, and no other
  abbrev pub Sets : {T : Type 0} → Map K V → K → Option V → Result T Refusal → Map K V → Type 0
  Sets m k made result n = OnOk result (n ≡ with_value m k made) × FullExactly result (is_some made && is_full_for R MOST_PAIRS_OF_STRIPE m k)

  -- the same of what a closure made, or its error, with which the stripe stays as it was
  abbrev pub TriesToSet : {T E : Type 0} → Map K V → K → Result (Option V) E → Result (Result T E) Refusal → Map K V → Type 0
  TriesToSet m k (Err e) result n = (result ≡ Ok (Err e)) × (n ≡ m)
  TriesToSet m k (Ok made) result n = IfOk result IsOk × Sets m k made result n

  -- the value of the key where it passes, or none
  abbrev pub value_if : Bool → Map K V → K → Option V
  value_if passes m k = if passes then value_at R m k else None

-- what is written where a closure made this value of the key's, or none
abbrev pub write_of : {K V : Type 0} → K → Option V → Write K V
write_of k None = Remove k
write_of k (Some v) = Put k v

-- the value that a closure made, or none where it failed
abbrev pub made_of : {V E : Type 0} → Result (Option V) E → Option V
made_of (Ok made) = made
made_of (Err e) = None
