-- What the program's status and what it keeps say of a run.
use Rattle.std.proofs.Common.{◌≡◌, ℕ, Bool, true, false, List, Some, None, refl, ap}
use Rattle.script_runs.specs.Runs.{IsKept, ProgramEntry}
use Rattle.journal_text.specs.Entries.{text_of_journal}

-- where no journal is asked for, none is kept
pub none_kept : (asked : Bool) (journal : List ProgramEntry) → asked ≡ false → IsKept asked journal None
none_kept true journal never = cc
none_kept false journal never = refl

-- where it is asked for, its text is
pub text_kept : (asked : Bool) (journal : List ProgramEntry) (text : List ℕ) → asked ≡ true → text ≡ text_of_journal journal → IsKept asked journal (Some text)
text_kept true journal text asks is = ap (λ (t : List ℕ). Some t) is
text_kept false journal text asks is = cc
