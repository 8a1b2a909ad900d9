-- The program's command line, in the words of clap's grammar.
use Rattle.std.specs.Prelude.{◌≡◌, ◌≢◌, ◌≤◌, ◌⊎◌, ℕ, Bool, true, false, List, [], ◌∷◌, Option, Some, codes, is_some, option_map, pos, string_bytes}
use Rattle.std.specs.Option.{option_map_or}
use Rattle.std.specs.Str.{bytes_eq}
use Rattle.std.specs.Str.Parse.{digits_value, without_leading_plus}
use Rattle.clap.specs.Simple.{on_top}
use Rattle.clap.specs.Words.{App, Text, Kinds, IsAmong, Row, fault_of, first_of, matches_of, new_app, new_rule, one_of, with_rule, Rule}
use Rattle.clap.specs.declared.builder.action.ArgAction.TheVariants.{SetTrue}
use Rattle.clap.specs.declared.builder.value_parser.ValueParser.TheVariants.{Signed}
use Rattle.clap.specs.declared.error.kind.ErrorKind.{ErrorKind}
use Rattle.clap.specs.declared.error.kind.ErrorKind.TheVariants.{DisplayHelp, DisplayVersion, OutOfMemory}
use Rattle.program_io.specs.declared.arguments.ArgFault.{ArgFault}
use Rattle.program_io.specs.declared.arguments.ArgFault.TheVariants.{Help, Parser, NotText, AuditJournal, Memory}
use Rattle.program_io.specs.declared.arguments.Options.{Options}

-- an option that takes a whole number from 1 to `most`, with what stands for it where it is left out
abbrev pub number_rule : Text → ℕ → Text → Rule
number_rule name most usual = record (new_rule name) { long = Some name; value_names = 1; parser = Some (Signed (pos 1) (pos most)); defaults = usual ∷ [] }

-- the option for the number of workers, from 1 to 16
abbrev pub workers_rule : Rule
workers_rule = number_rule (codes "workers") 16 (codes "4")

-- the option for the grain, from 1 to 65,536
abbrev pub grain_rule : Rule
grain_rule = number_rule (codes "grain") 65536 (codes "1024")

-- an option that takes the name of a file
abbrev pub journal_rule : Rule
journal_rule = record (new_rule (codes "journal")) { long = Some (codes "journal"); value_names = 1 }

-- an option that takes nothing
abbrev pub audit_rule : Rule
audit_rule = record (new_rule (codes "audit")) { long = Some (codes "audit"); action = Some SetTrue }

-- one word that may be left out, the file, which has one name in the help
abbrev pub file_rule : Rule
file_rule = record (new_rule (codes "file")) { value_names = 1 }

-- the program, which has a version
abbrev pub trierun : App
trierun = on_top (λ s. record s { has_version = true }) (new_app (codes "trierun"))

-- the program with its options and that word; clap adds the flags for help and for the version
abbrev pub command_line : App
command_line = with_rule (with_rule (with_rule (with_rule (with_rule trierun workers_rule) grain_rule) journal_rule) audit_rule) file_rule

-- what the words after the program's name give
abbrev pub given_in : List Text → List Row
given_in words = matches_of command_line (codes "trierun" ∷ words)

-- the number that a text has in decimal digits, behind a `+` or not
abbrev pub number_of : Text → ℕ
number_of text = digits_value 10 (without_leading_plus text)

-- the number that the words give for an option, or this one where they give none
abbrev pub number_in : Text → ℕ → List Text → ℕ
number_in name usual words = option_map_or number_of (one_of name (given_in words)) usual

-- how many workers the words ask for
abbrev pub workers_in : List Text → ℕ
workers_in words = number_in (codes "workers") 4 words

-- the grain that they ask for
abbrev pub grain_in : List Text → ℕ
grain_in words = number_in (codes "grain") 1024 words

-- whether they ask for an audit
abbrev pub audit_in : List Text → Bool
audit_in words = option_map_or (λ text. bytes_eq text (codes "true")) (one_of (codes "audit") (given_in words)) false

-- the file for the journal that they give
abbrev pub journal_in : List Text → Option Text
journal_in words = first_of (codes "journal") (given_in words)

-- the file that they give
abbrev pub file_in : List Text → Option Text
file_in words = first_of (codes "file") (given_in words)

-- the kinds of error that may be reported of the words; none where they are a command line
abbrev pub faults_in : List Text → Kinds
faults_in words = fault_of command_line (codes "trierun" ∷ words)

-- each option has what the words give for it
pub record IsGiven (words : List Text) (options : Options) : Type 0 where
  pub workers : options.workers ≡ workers_in words
  pub grain : options.grain ≡ grain_in words
  pub audit : options.audit ≡ audit_in words
  pub journal : option_map string_bytes options.journal ≡ journal_in words
  pub file : option_map string_bytes options.file ≡ file_in words

-- the numbers of a crew are in their ranges
pub record AreInRange (workers grain : ℕ) : Type 0 where
  pub least_workers : 1 ≤ workers
  pub most_workers : workers ≤ 16
  pub least_grain : 1 ≤ grain
  pub most_grain : grain ≤ 65536

-- what is asked for by words of this kind is shown: help, or the version
abbrev pub IsShown : ErrorKind → Type 0
IsShown kind = (kind ≡ DisplayHelp) ⊎ (kind ≡ DisplayVersion)

-- the words ask for help or for the version, or have an error of another kind, or ask for an audit with a journal; words that were read are text; `Memory` says nothing of them
abbrev pub IsArgFaultOf : List Text → ArgFault → Type 0
IsArgFaultOf words (Help text) = (kind : ErrorKind) × IsShown kind × IsAmong kind (faults_in words)
IsArgFaultOf words (Parser text) = (kind : ErrorKind) × (¬ IsShown kind) × IsAmong kind (faults_in words)
IsArgFaultOf words NotText = ⊥
IsArgFaultOf words AuditJournal = (faults_in words ≡ []) × (audit_in words ≡ true) × (is_some (journal_in words) ≡ true)
IsArgFaultOf words Memory = Unit {0}

-- the fault reports an error of this kind
abbrev pub Tells : ErrorKind → ArgFault → Type 0
Tells kind (Help text) = IsShown kind
Tells kind (Parser text) = (¬ IsShown kind) × (kind ≢ OutOfMemory)
Tells kind NotText = ⊥
Tells kind AuditJournal = ⊥
Tells kind Memory = Unit {0}
