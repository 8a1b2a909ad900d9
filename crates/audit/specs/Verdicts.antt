-- What the audit of a text says.
use Rattle.std.specs.Prelude.{◌≡◌, ℕ, ◌-◌, List, length, take}
use Rattle.journal.specs.Journals.{IsLegal}
use Rattle.questions.specs.Program.{program, ProgramState, largest}
pub use Rattle.journal_text.specs.Entries.{AreLawful}
use Rattle.journal_text.specs.Entries.{ProgramEntry, lines_behind}
use Rattle.journal_lines.specs.Lines.{lines_in}
use Rattle.journal_text.specs.Entries.{text_of_journal}
use Rattle.audit.specs.declared.verdict.Verdict.{Verdict}
use Rattle.audit.specs.declared.verdict.Verdict.TheVariants.{Legal, Bad}

-- a legal journal, which leads to this state: its entries are lawful and are a run of the machine from no handles, no jobs and no entries
pub record IsLegalJournal (es : List ProgramEntry) (t : ProgramState) : Type 0 where
  pub lawful : AreLawful es
  pub legal : IsLegal program largest es t

-- the text is that of a legal journal of n entries
abbrev pub IsLegalText : List ℕ → ℕ → Type 0
IsLegalText text n = (es : List ProgramEntry) × (t : ProgramState) × IsLegalJournal es t × (n ≡ length es) × (text ≡ text_of_journal es)

-- the first i lines of the text are those of a legal journal's text
abbrev pub BeginsLegally : List ℕ → ℕ → Type 0
BeginsLegally text i = (es : List ProgramEntry) × (t : ProgramState) × IsLegalJournal es t × (take i (lines_in text) ≡ take i (lines_behind 0 es))

-- line i spoils the text: what stands before it begins a legal journal's text, and with it no legal journal's text begins
abbrev pub IsBad : List ℕ → ℕ → Type 0
IsBad text i = BeginsLegally text (i - 1) × ¬ (BeginsLegally text i)

-- the verdict is right
abbrev pub IsVerdict : List ℕ → Verdict → Type 0
IsVerdict text (Legal n) = IsLegalText text n
IsVerdict text (Bad i) = IsBad text i
