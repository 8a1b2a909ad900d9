-- The first fault of a line, from the left.
use Rattle.std.specs.Prelude.{◌≡◌, ℕ, ◌<◌, ◌⊎◌, List, [], ◌∷◌, length, nat_lt, MatchBool, MatchOption}
use Rattle.std.specs.List.{list_any}
use Rattle.std.specs.Fmt.{decimal}
use Rattle.script.specs.declared.limits.TheConstants.{MOST_CLIENTS, MOST_LINES, MOST_LINE_BYTES}
use Rattle.script.specs.Lines.{fields_of, is_skipped, is_bad_byte}
use Rattle.script.specs.Grammar.{Place, handle_place, key_place, value_place, test_place, map_place, pair_map_place, fold_place, verb_named}
use Rattle.script.specs.Statements.{Argument, place_of, spelling_of, IsInRange}
use Rattle.script.specs.declared.fault.Reason.{Reason}
use Rattle.script.specs.declared.fault.Reason.TheVariants.{TooManyLines, LineTooLong, BadByte, MissingField, BadClient, UnknownVerb, BadHandle, BadKey, BadValue, BadTest, BadMap, BadFold, ExtraField}
use Rattle.script.specs.declared.parse_error.ParseError.{ParseError}
use Rattle.script.specs.declared.parse_error.ParseError.TheVariants.{Memory, Fault}

-- the field spells an argument that may stand in the place
pub record Suits (place : Place) (field : List ℕ) : Type 0 where
  pub argument : Argument
  pub placed : place_of argument ≡ place
  pub in_range : IsInRange argument
  pub spelled : field ≡ spelling_of argument

-- the reason where it spells none
abbrev pub reason_at : Place → Reason
reason_at handle_place = BadHandle
reason_at key_place = BadKey
reason_at value_place = BadValue
reason_at test_place = BadTest
reason_at map_place = BadMap
reason_at pair_map_place = BadMap
reason_at fold_place = BadFold

-- the first fault of fields that should stand in these places
abbrev pub Faulty : List Place → List (List ℕ) → Reason → Type 0
Faulty [] [] reason = ⊥
Faulty [] (field ∷ fields) reason = reason ≡ ExtraField
Faulty (place ∷ places) [] reason = reason ≡ MissingField
Faulty (place ∷ places) (field ∷ fields) reason = (¬ (Suits place field) × (reason ≡ reason_at place)) ⊎ (Suits place field × Faulty places fields reason)

-- the first fault of a verb and its arguments
abbrev pub StatementFault : List (List ℕ) → Reason → Type 0
StatementFault [] reason = reason ≡ MissingField
StatementFault (name ∷ fields) reason = MatchOption (verb_named name) (reason ≡ UnknownVerb) (λ verb. Faulty verb.places fields reason)

-- the field spells a number from 0 to 63
abbrev pub IsClient : List ℕ → Type 0
IsClient field = (number : ℕ) × (number < MOST_CLIENTS) × (field ≡ decimal number)

-- the first fault of a client, a verb and its arguments
abbrev pub CommandFault : List (List ℕ) → Reason → Type 0
CommandFault [] reason = reason ≡ MissingField
CommandFault (field ∷ fields) reason = (¬ (IsClient field) × (reason ≡ BadClient)) ⊎ (IsClient field × StatementFault fields reason)

-- the fault of the line with this number: the first of these that applies
abbrev pub LineFault : ℕ → List ℕ → Reason → Type 0
LineFault number line reason =
    MatchBool (nat_lt MOST_LINES number) (reason ≡ TooManyLines)
    (MatchBool (nat_lt MOST_LINE_BYTES (length line)) (reason ≡ LineTooLong)
    (MatchBool (list_any is_bad_byte line) (reason ≡ BadByte)
    (MatchBool (is_skipped line) ⊥ (CommandFault (fields_of line) reason))))

-- reading stopped because memory ran out, or by a fault of this kind
abbrev pub StopsBy : (Reason → Type 0) → ParseError → Type 0
StopsBy P Memory = Unit {0}
StopsBy P (Fault reason) = P reason
