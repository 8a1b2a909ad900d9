-- What is read of the text of a call, where any number of spaces may stand between its words.
use Rattle.std.specs.Prelude.{◌≡◌, Bool, true, false, ℕ, List}
use Rattle.handles.specs.Machine.{open_handle, snapshot, drop_handle, on}
use Rattle.questions.specs.Program.{ProgramRequest}
use Rattle.journal_text.specs.Calls.{IsLawfulRequest, call_text}

-- what is heard is lawful, and where the text is that of a lawful request, it is this one
pub record IsHeard (text : List ℕ) (heard : ProgramRequest) : Type 0 where
  pub lawful : IsLawfulRequest heard
  pub only : (r : ProgramRequest) → IsLawfulRequest r → text ≡ call_text r → r ≡ heard

-- the text is that of no lawful request
abbrev pub IsUnheard : List ℕ → Type 0
IsUnheard text = (r : ProgramRequest) → IsLawfulRequest r → text ≡ call_text r → ⊥

-- whether the request is that of a call on handles
abbrev pub is_call : ProgramRequest → Bool
is_call (open_handle h) = true
is_call (snapshot h to) = true
is_call (drop_handle h) = true
is_call (on h c) = true
is_call r = false

-- the text is that of no lawful call on handles
abbrev pub IsNoCall : List ℕ → Type 0
IsNoCall text = (r : ProgramRequest) → IsLawfulRequest r → is_call r ≡ true → text ≡ call_text r → ⊥
