-- Faults that pass from field to field, and from a line's fields to the line.
use Rattle.std.proofs.Common.{◌≡◌, ℕ, ◌<◌, ◌≤◌, ◌^◌, ◌∙◌, false, true, List, ◌∷◌, length, inl, inr, Result, Ok, Err, IfErr, refl, sym, arith}
use Rattle.std.specs.Prelude.{IsErrAnd, nat_lt}
use Rattle.std.specs.List.{list_any}
use Rattle.std.specs.Fmt.{decimal}
use Rattle.std.proofs.lemmas.Fmt.{decimal_injective}
use Rattle.std.proofs.lemmas.Bool.Decides.{nat_tests}
use Rattle.script.specs.Lines.{fields_of, is_skipped, is_bad_byte}
use Rattle.script.specs.Grammar.{Place}
use Rattle.script.specs.Statements.{Argument, place_of, spelling_of, IsInRange}
use Rattle.script.specs.Faults.{Suits, Faulty, IsClient, CommandFault, LineFault, StopsBy}
use Rattle.script.specs.declared.fault.Reason.{Reason}
use Rattle.script.specs.declared.fault.Reason.TheVariants.{BadClient}
use Rattle.script.specs.declared.parse_error.ParseError.{ParseError}
use Rattle.script.specs.declared.parse_error.ParseError.TheVariants.{Memory, Fault}

-- an argument in its range suits its place
pub suited : (argument : Argument) → IsInRange argument → Suits (place_of argument) (spelling_of argument)
suited argument in_range = record { argument = argument; placed = refl; in_range = in_range; spelled = refl }

-- the first field suits the first place
pub later : (argument : Argument) (places : List Place) (fields rest : List (List ℕ)) (stop : ParseError) → IsInRange argument → fields ≡ spelling_of argument ∷ rest → StopsBy (Faulty places rest) stop → StopsBy (Faulty (place_of argument ∷ places) fields) stop
later argument places fields rest Memory in_range e h = tt
later argument places fields rest (Fault reason) in_range e h = rw e (inr (suited argument in_range, h))

-- a `?` passes the stop on
pub passed : {X : Type 0} (r : Result X ParseError) (P : ParseError → Type 0) (stop : ParseError) → IsErrAnd r (λ e. e ≡ stop) → P stop → IfErr r P
passed (Ok x) P stop h p = tt
passed (Err e) P stop h p = rw h p

-- a number from 64 on is no client
pub no_client : (fields rest : List (List ℕ)) (field : List ℕ) (n : ℕ) → fields ≡ field ∷ rest → field ≡ decimal n → 64 ≤ n → n < 2 ^ 32 → CommandFault fields BadClient
no_client fields rest field n e is high low = rw e (inl (λ client. absurd (clash client), refl))
  where
    clash : IsClient field → ⊥
    clash client = let same : client.0 ≡ n = decimal_injective client.0 n (omega (arith, client.1)) (omega arith) (sym client.2 ∙ is) in omega (arith, client.1)

-- a line within the limits that is not skipped has the fault of its fields, and no other
pub at_fields : (n : ℕ) (line : List ℕ) (reason : Reason) → n ≤ 65536 → length line ≤ 256 → list_any is_bad_byte line ≡ false → is_skipped line ≡ false → LineFault n line reason → CommandFault (fields_of line) reason
at_fields n line reason few short good command fault =
    let a : nat_lt 65536 n ≡ false = grind (arith, nat_tests) in
    let b : nat_lt 256 (length line) ≡ false = grind (arith, nat_tests) in
    rw (a, b, good, command) at fault

pub from_fields : (n : ℕ) (line : List ℕ) (stop : ParseError) → n ≤ 65536 → length line ≤ 256 → list_any is_bad_byte line ≡ false → is_skipped line ≡ false → StopsBy (CommandFault (fields_of line)) stop → StopsBy (LineFault n line) stop
from_fields n line Memory few short good command fault = tt
from_fields n line (Fault reason) few short good command fault =
    let a : nat_lt 65536 n ≡ false = grind (arith, nat_tests) in
    let b : nat_lt 256 (length line) ≡ false = grind (arith, nat_tests) in
    rw (a, b, good, command) fault

-- a line within the limits that is skipped has no fault
pub no_skipped_fault : (n : ℕ) (line : List ℕ) (reason : Reason) → n ≤ 65536 → length line ≤ 256 → list_any is_bad_byte line ≡ false → is_skipped line ≡ true → LineFault n line reason → ⊥
no_skipped_fault n line reason few short good skipped fault =
    let a : nat_lt 65536 n ≡ false = grind (arith, nat_tests) in
    let b : nat_lt 256 (length line) ≡ false = grind (arith, nat_tests) in
    rw (a, b, good, skipped) at fault
