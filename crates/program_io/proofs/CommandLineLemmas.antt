-- What clap's matches and errors say of the words of a command line.
use Rattle.std.proofs.Common.{◌≡◌, ◌∙◌, ◌∷◌, [], true, false, List, Some, None, Result, codes, inl, inr, refl, ap}
use Rattle.clap.specs.Words.{App, Text, HasKind, FailsBy, HasMatchesOf, fault_of, first_of, first_value, found_of, is_simple_and_free, kind_of, one_of, one_text, rows_of}
use Rattle.clap.specs.declared.error.Error.{Error}
use Rattle.clap.specs.declared.parser.matches.ArgMatches.{ArgMatches}
use Rattle.clap.proofs.WalkLemmas.{first_value-rows, one_text-rows}
use Rattle.clap.proofs.OnLiterals.{clap_on_literals}
use Rattle.program_io.specs.CommandLine.{audit_in, command_line, file_in, given_in, grain_in, journal_in, workers_in, faults_in, IsArgFaultOf, Tells}
use Rattle.program_io.specs.declared.arguments.ArgFault.{ArgFault}
use Rattle.program_io.specs.declared.arguments.ArgFault.TheVariants.{Help, Parser, NotText, AuditJournal, Memory}
use Rattle.clap.specs.declared.error.kind.ErrorKind.TheVariants.{UnknownArgument, DisplayHelp, DisplayVersion, ValueValidation}

-- what the matches have is what the words give
pub rows_are : (m : ArgMatches) (a : App) (all words : List Text) → a ≡ command_line → all ≡ codes "trierun" ∷ words → HasMatchesOf a all m → rows_of (found_of m) ≡ given_in words
rows_are m a all words grammar named matches = ((rw (grammar, named) at matches) refl).0

-- the value that they have for an option or the file
pub value_found : (m : ArgMatches) (words : List Text) (name : Text) → rows_of (found_of m) ≡ given_in words → first_value (found_of m) name ≡ first_of name (given_in words)
value_found m words name rows = first_value-rows (found_of m) name ∙ ap (first_of name) rows

-- the text that is read for an option
pub text_found : (m : ArgMatches) (words : List Text) (name : Text) → rows_of (found_of m) ≡ given_in words → one_text (found_of m) name ≡ one_of name (given_in words)
text_found m words name rows = one_text-rows (found_of m) name ∙ ap (one_of name) rows

-- how a parse of the words fails
pub fails_by : {T : Type 0} (r : Result T Error) (a : App) (all words : List Text) → a ≡ command_line → all ≡ codes "trierun" ∷ words → (is_simple_and_free a ≡ true → FailsBy (fault_of a all) r) → FailsBy (faults_in words) r
fails_by r a all words grammar named fails = (rw (grammar, named) at fails) refl

-- a fault that tells of an error of the words is one of theirs
pub told : (words : List Text) (e : Error) (fault : ArgFault) → HasKind (faults_in words) e → Tells (kind_of e) fault → IsArgFaultOf words fault
told words e Memory has tells = tt
told words e NotText has tells = tells
told words e AuditJournal has tells = absurd tells
told words e (Help text) (inl memory) (inl help) = cc
told words e (Help text) (inl memory) (inr version) = cc
told words e (Help text) (inr among) tells = (kind_of e, tells, among)
told words e (Parser text) (inl memory) tells = absurd (tells.1 memory)
told words e (Parser text) (inr among) tells = (kind_of e, tells.0, among)

-- no word, a word, options, a call for help or for the version, a word too many, numbers out of their ranges
no_file : file_in [] ≡ None
unfolding clap_on_literals
no_file = refl

one_file : file_in (codes "a" ∷ []) ≡ Some (codes "a")
unfolding clap_on_literals
one_file = refl

no_fault : faults_in (codes "a" ∷ []) ≡ []
unfolding clap_on_literals
no_fault = refl

usual_workers : workers_in [] ≡ 4
unfolding clap_on_literals
usual_workers = refl

usual_grain : grain_in (codes "a" ∷ []) ≡ 1024
unfolding clap_on_literals
usual_grain = refl

no_audit : audit_in [] ≡ false
unfolding clap_on_literals
no_audit = refl

an_audit : audit_in (codes "--audit" ∷ []) ≡ true
unfolding clap_on_literals
an_audit = refl

ten_workers : workers_in (codes "--workers" ∷ codes "10" ∷ []) ≡ 10
unfolding clap_on_literals
ten_workers = refl

a_journal : journal_in (codes "--journal=j" ∷ codes "a" ∷ []) ≡ Some (codes "j")
unfolding clap_on_literals
a_journal = refl

no_workers : faults_in (codes "--workers" ∷ codes "0" ∷ []) ≡ ValueValidation ∷ []
unfolding clap_on_literals
no_workers = refl

help_asked : faults_in (codes "--help" ∷ []) ≡ DisplayHelp ∷ []
unfolding clap_on_literals
help_asked = refl

version_asked : faults_in (codes "--version" ∷ []) ≡ DisplayVersion ∷ []
unfolding clap_on_literals
version_asked = refl

version_in_short : faults_in (codes "-V" ∷ codes "a" ∷ []) ≡ DisplayVersion ∷ []
unfolding clap_on_literals
version_in_short = refl

two_files : faults_in (codes "a" ∷ codes "b" ∷ []) ≡ UnknownArgument ∷ []
unfolding clap_on_literals
two_files = refl
