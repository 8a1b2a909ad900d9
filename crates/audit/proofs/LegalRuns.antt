-- The text of a legal journal whose entries may be made is legal.
use Rattle.std.proofs.Common.{◌≡◌, Bool, true, false, ℕ, ◌<◌, ◌^◌, ◌∙◌, inl, inr, List, [], ◌∷◌, Some, None, refl, sym, ap, arith}
use Rattle.std.specs.Prelude.{◌&&◌, not, is_some, if◌then◌else◌}
use Rattle.std.specs.List.{list_all}
use Rattle.versions.specs.declared.refusal.Refusal.TheVariants.{NoJob}
use Rattle.handles.specs.Machine.{Run, Step, refusal, job_at, nothing, open_handle, snapshot, drop_handle, on, view, freeze, finish, abandon, worker_step}
use Rattle.journal.specs.Journals.{is_filed, is_filed_in, outcomes_in, requests_in}
use Rattle.script.specs.declared.statement.Statement.TheVariants.{Open, Pairs, GetOrElse}
use Rattle.questions.specs.Program.{program, ProgramState, ProgramRequest, ProgramOutcome, largest}
use Rattle.questions.proofs.OneStep.{Settled, settled}
use Rattle.journal_text.specs.Calls.{IsLawfulRequest, call_text, outcome_text}
use Rattle.journal_text.specs.Entries.{ProgramEntry, IsLawfulEntry}
use Rattle.audit.specs.Verdicts.{AreLawful}
use Rattle.audit.specs.Runs.{EntriesAreLawful, MayBeAsked, MayBeMade, RunsAreLegal, StatementsMayBeAsked}
use Rattle.audit.proofs.Room.{HasRoom, job_number, no_end_entry, open_job, step_has_room}
use Rattle.audit.proofs.ByteLemmas.{ascii_text}
use Rattle.audit.proofs.AsciiLemmas.{ascii_call, ascii_outcome}
use Rattle.audit.proofs.KeyLemmas.{HasPlainMaps, step_keys}
use Rattle.audit.proofs.VerdictLemmas.{room_at_first}

-- an end of a job that is filed names an open one, of which there are fewer than entries
lawful_end : (s : ProgramState) (r : ProgramRequest) (j : ℕ) (o : ProgramOutcome) (t : ProgramState)
    → refusal program s r ≡ (if not (is_some (job_at s j)) then Some NoJob else None) → is_filed o ≡ true → HasRoom s → Settled s r o t
    → j < 2 ^ 32
lawful_end s r j o t names filed k (inl (e, is, why, left)) =
    absurd (no_end_entry (not (is_some (job_at s j))) e (sym names ∙ why) (sym (ap is_filed is) ∙ filed))
lawful_end s r j o t names filed k (inr (none, g)) =
    let found = open_job (job_at s j) (sym names ∙ none) in
    omega (arith, job_number s j found.0 k found.1)

lawful_request : (s : ProgramState) (r : ProgramRequest) (o : ProgramOutcome) (t : ProgramState) → MayBeAsked r → is_filed o ≡ true → HasRoom s
    → Step program s r o t → IsLawfulRequest r
lawful_request s (finish j) o t may filed k step = lawful_end s (finish j) j o t refl filed k (settled s (finish j) o t step)
lawful_request s (abandon j) o t may filed k step = lawful_end s (abandon j) j o t refl filed k (settled s (abandon j) o t step)
lawful_request s (open_handle h) o t may filed k step = may
lawful_request s (snapshot h to) o t may filed k step = may
lawful_request s (drop_handle h) o t may filed k step = may
lawful_request s (on h c) o t may filed k step = may
lawful_request s (view h) o t may filed k step = may
lawful_request s (freeze h q) o t may filed k step = may
lawful_request s worker_step o t may filed k step = may

lawful_entry : (e : ProgramEntry) (s t : ProgramState) → e.seat < 64 → MayBeAsked e.request → is_filed e.outcome ≡ true → HasRoom s → HasPlainMaps s
    → Step program s e.request e.outcome t → IsLawfulEntry e
lawful_entry e s t seat may filed k keys step =
    let lawful = lawful_request s e.request e.outcome t may filed k step in
    record {
      seat = seat;
      request = lawful;
      call_is_text = ascii_text (call_text e.request) (ascii_call e.request lawful);
      reply_is_text = ascii_text (outcome_text e.outcome) (ascii_outcome e.outcome (step_keys s e.request e.outcome t may filed keys step).1);
    }

both : (a b : Bool) → (a && b) ≡ true → (a ≡ true) × (b ≡ true)
both true b e = (refl, e)
both false b e = cc

all_lawful : (es : List ProgramEntry) (s t : ProgramState) → MayBeMade es → list_all is_filed_in es ≡ true
    → Run program s (requests_in es) (outcomes_in es) t → HasRoom s → HasPlainMaps s → AreLawful es
all_lawful [] s t may filed run k keys = tt
all_lawful (e ∷ es) s t may filed run k keys =
    let p = both (is_filed e.outcome) (list_all is_filed_in es) filed in
    let later = step_has_room s e.request e.outcome run.0 may.1 p.0 k run.1 in
    let kept = step_keys s e.request e.outcome run.0 may.1 p.0 keys run.1 in
    (lawful_entry e s run.0 may.0 may.1 p.0 k keys run.1, all_lawful es run.0 t may.2 p.1 run.2 later kept.0)

pub entries_are_lawful : EntriesAreLawful
entries_are_lawful es t may legal = all_lawful es (nothing largest) t may legal.filed legal.run room_at_first (record { live = tt; jobs = tt })

pub runs_are_legal : RunsAreLegal
runs_are_legal es t may legal = (es, t, record { lawful = entries_are_lawful es t may legal; legal = legal }, refl, refl)

-- what a statement asks is what it says, but for the value of a getorelse
pub statements_may_be_asked : StatementsMayBeAsked
statements_may_be_asked (GetOrElse h k v) l = (l.0, (l.1.0, tt))
statements_may_be_asked (Pairs h) l = l.0
statements_may_be_asked (Open h) l = l
statements_may_be_asked s l = l
