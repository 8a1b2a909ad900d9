-- What the lines of a text say, and its first fault.
use Rattle.std.specs.Prelude.{◌≡◌, ℕ, ◌+◌, ◌≤◌, ◌⊎◌, false, List, [], ◌∷◌, ◌++◌, length, if◌then◌else◌, Option, Some, None, All, map}
use Rattle.std.specs.List.{list_any}
use Rattle.std.specs.Fmt.{decimal}
use Rattle.script.specs.declared.limits.TheConstants.{MOST_LINES, MOST_LINE_BYTES}
use Rattle.script.specs.Lines.{lines_of, fields_of, is_skipped, is_bad_byte}
use Rattle.script.specs.Statements.{words_of, IsLawfulLine}
use Rattle.script.specs.Faults.{LineFault}
use Rattle.script.specs.declared.statement.CommandLine.{CommandLine}
use Rattle.script.specs.declared.fault.Reason.{Reason}
use Rattle.script.specs.declared.fault.ScriptFault.{ScriptFault}
use Rattle.script.specs.declared.fault.ScriptFault.TheVariants as faults

-- the number and the fields of a line that is not skipped
abbrev pub fields_on : ℕ → List ℕ → List (ℕ × List (List ℕ))
fields_on number line = if is_skipped line then [] else (number, fields_of line) ∷ []

-- the same of all these lines, of which the first has this number
abbrev pub numbered : ℕ → List (List ℕ) → List (ℕ × List (List ℕ))
numbered number [] = []
numbered number (line ∷ lines) = fields_on number line ++ numbered (number + 1) lines

-- the number and the words of a command line: its client, its verb and its arguments
abbrev pub words_on : CommandLine → ℕ × List (List ℕ)
words_on line = (line.number, decimal line.client ∷ words_of line.statement)

-- the words of what was read of a line, and nothing of one that is skipped
abbrev pub words_read : Option CommandLine → List (ℕ × List (List ℕ))
words_read None = []
words_read (Some line) = words_on line ∷ []

-- what was read of a line is lawful
abbrev pub IsLawfulIfAny : Option CommandLine → Type 0
IsLawfulIfAny None = Unit {0}
IsLawfulIfAny (Some line) = IsLawfulLine line

-- at most 256 bytes, none of them bad
abbrev pub IsPlain : List ℕ → Type 0
IsPlain line = (length line ≤ MOST_LINE_BYTES) × (list_any is_bad_byte line ≡ false)

-- the text spells these command lines: the fields of its lines, the skipped ones left out, are their words in their order
pub record Spells (text : List ℕ) (script : List CommandLine) : Type 0 where
  pub few : length (lines_of text) ≤ MOST_LINES
  pub plain : All IsPlain (lines_of text)
  pub words : numbered 1 (lines_of text) ≡ map words_on script
  pub lawful : All IsLawfulLine script

-- the first faulty line of these, of which the first has this number, is line `at`, and its fault is this one
abbrev pub FirstFault : ℕ → List (List ℕ) → ℕ → Reason → Type 0
FirstFault number [] at reason = ⊥
FirstFault number (line ∷ lines) at reason = ((at ≡ number) × LineFault number line reason) ⊎ (((other : Reason) → LineFault number line other → ⊥) × FirstFault (number + 1) lines at reason)

-- the first fault of the text
abbrev pub IsFirstFault : List ℕ → ℕ → Reason → Type 0
IsFirstFault text at reason = FirstFault 1 (lines_of text) at reason

-- the text has a fault
abbrev pub HasFault : List ℕ → Type 0
HasFault text = (at : ℕ) × (reason : Reason) × IsFirstFault text at reason

-- a text is refused for its first fault, or if memory runs out
abbrev pub IsFaultOf : List ℕ → ScriptFault → Type 0
IsFaultOf text (faults.Line number reason) = IsFirstFault text number reason
IsFaultOf text faults.Memory = Unit {0}
