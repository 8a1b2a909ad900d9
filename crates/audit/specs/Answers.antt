-- Whether a request may have been answered so.
use Rattle.std.specs.Prelude.{◌≡◌, ℕ, ℤ, ◌+◌, Bool, true, false, List, Option, Some, None}
use Rattle.versions.specs.Map.{Map}
use Rattle.versions.specs.declared.refusal.Refusal.{Refusal}
use Rattle.versions.specs.declared.refusal.Refusal.TheVariants.{NoMemory}
use Rattle.bulk_work.specs.Answers as plain
use Rattle.handles.specs.Machine.{Step, finished}
use Rattle.journal.specs.Journals.{is_filed}
use Rattle.script.specs.Replies.{text_of}
use Rattle.script.specs.declared.reply.LineReply.{LineReply}
use Rattle.questions.specs.Program.{program, ProgramState, ProgramRequest, ProgramOutcome, ProgramAnswer, reply_to}
use Rattle.questions.specs.Queries.{ScriptQuestion, answers}
use Rattle.journal_text.specs.Calls.{outcome_text}
use Rattle.journal_lines.specs.Lines.{ended}
use Rattle.journal_text.specs.Entries.{ProgramEntry, IsLawfulEntry, entry_line}

-- the step is an entry's, and its outcome has this text
pub record Answers (s : ProgramState) (r : ProgramRequest) (reply : List ℕ) (t : ProgramState) : Type 0 where
  pub outcome : ProgramOutcome
  pub step : Step program s r outcome t
  pub filed : is_filed outcome ≡ true
  pub text : reply ≡ outcome_text outcome

-- no such step has an outcome of this text
abbrev pub NoneAnswers : ProgramState → ProgramRequest → List ℕ → Type 0
NoneAnswers s r reply = (t : ProgramState) → Answers s r reply t → ⊥

-- the line is that of a lawful entry whose step leads from the one state to the other
pub record IsNext (s : ProgramState) (line : List ℕ) (t : ProgramState) : Type 0 where
  pub entry : ProgramEntry
  pub lawful : IsLawfulEntry entry
  pub step : Step program s entry.request entry.outcome t
  pub filed : is_filed entry.outcome ≡ true
  pub text : line ≡ ended (entry_line (s.entries + 1) entry)

-- the line is that of none
abbrev pub IsNoneNext : ProgramState → List ℕ → Type 0
IsNoneNext s line = (t : ProgramState) → IsNext s line t → ⊥

-- the reply shows the outcome, if it is an entry's
abbrev pub IsReplyTo : ProgramOutcome → Option LineReply → Type 0
IsReplyTo o None = is_filed o ≡ false
IsReplyTo o (Some reply) = (is_filed o ≡ true) × (reply_to o ≡ Some reply)

-- the outcome is an entry's, and has this text
abbrev pub IsTextOf : ProgramOutcome → List ℕ → Type 0
IsTextOf o text = (is_filed o ≡ true) × (text ≡ outcome_text o)

-- no answer that the question may have has this text
abbrev pub NoneInReply : ScriptQuestion → Map (List ℕ) ℤ → List ℕ → Type 0
NoneInReply q m reply = (a : ProgramAnswer) → answers q m a → reply ≡ outcome_text (finished (plain.summary a)) → ⊥

-- the reply is there, and has this text
abbrev pub IsShownAs : Option LineReply → List ℕ → Type 0
IsShownAs None text = ⊥
IsShownAs (Some reply) text = text ≡ text_of reply

-- whether memory ran out
abbrev pub is_want : Refusal → Bool
is_want NoMemory = true
is_want e = false
