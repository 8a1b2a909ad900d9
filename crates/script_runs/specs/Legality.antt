-- That the journal of a run has lawful entries, and a legal text.
use Rattle.std.specs.Prelude.{All, List, length, ℕ}
use Rattle.audit.specs.Verdicts.{IsVerdict}
use Rattle.audit.specs.declared.verdict.Verdict.TheVariants.{Legal}
use Rattle.journal_text.specs.Entries.{AreLawful, text_of_journal}
use Rattle.script.specs.Statements.{IsLawfulLine}
use Rattle.script.specs.declared.statement.CommandLine.{CommandLine}
use Rattle.script_runs.specs.Runs.{IsRunOf, ProgramEntry}

-- the entries of a run's journal are lawful
abbrev pub RunsHaveLawfulEntries : Type 0
RunsHaveLawfulEntries = (script : List CommandLine) (journal : List ProgramEntry) (text : List ℕ) → All IsLawfulLine script → IsRunOf script journal text → AreLawful journal

-- the text of a run's journal is legal, of as many entries as the journal has
abbrev pub RunsHaveLegalTexts : Type 0
RunsHaveLegalTexts = (script : List CommandLine) (journal : List ProgramEntry) (text : List ℕ) → All IsLawfulLine script → IsRunOf script journal text → IsVerdict (text_of_journal journal) (Legal (length journal))
