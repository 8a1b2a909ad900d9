-- When a put is refused.
use Rattle.std.specs.Prelude.{◌≡◌, Bool, true, false, Result, Ok, Err}
use Rattle.versions.specs.declared.refusal.Refusal.{Refusal}
use Rattle.versions.specs.declared.refusal.Refusal.TheVariants.{Full, NoMemory}

-- the call is refused as full exactly where the map is full, whatever the memory, and else only if memory runs out
abbrev pub FullExactly : {T : Type 0} → Result T Refusal → Bool → Type 0
FullExactly (Ok x) is_full = is_full ≡ false
FullExactly (Err Full) is_full = is_full ≡ true
FullExactly (Err NoMemory) is_full = is_full ≡ false
FullExactly (Err e) is_full = ⊥
