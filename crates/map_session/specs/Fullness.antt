-- When a put of a shared map is refused as full.
use Rattle.std.specs.Prelude.{Bool, true, false, Result, Ok, Err}
use Rattle.map_session.specs.declared.put_error.PutError.{PutError}
use Rattle.map_session.specs.declared.put_error.PutError.TheVariants.{Full, NoMemory}

-- what holds with true where a put is refused as full, and with false where it is done
abbrev pub SaysFull : {T : Type 0} → Result T PutError → (Bool → Type 0) → Type 0
SaysFull (Ok x) holds = holds false
SaysFull (Err Full) holds = holds true
SaysFull (Err NoMemory) holds = Unit {0}
