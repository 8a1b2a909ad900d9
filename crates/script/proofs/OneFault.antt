-- A line has one fault at most, and a text one first fault.
use Rattle.std.proofs.Common.{◌≡◌, ℕ, ◌+◌, ◌∙◌, Bool, true, false, List, [], ◌∷◌, inl, inr, sym}
use Rattle.std.specs.Prelude.{nat_lt, MatchBool, MatchOption, length, Option, Some, None}
use Rattle.std.specs.List.{list_any}
use Rattle.script.specs.Lines.{fields_of, is_skipped, is_bad_byte}
use Rattle.script.specs.Grammar.{Place, Verb, verb_named}
use Rattle.script.specs.Faults.{Faulty, StatementFault, CommandFault, LineFault}
use Rattle.script.specs.Scripts.{FirstFault}
use Rattle.script.specs.declared.fault.Reason.{Reason}
use Rattle.script.specs.declared.fault.Reason.TheVariants.{TooManyLines, LineTooLong, BadByte, UnknownVerb}

one_argument_fault : (places : List Place) (fields : List (List ℕ)) (r s : Reason) → Faulty places fields r → Faulty places fields s → r ≡ s
one_argument_fault [] [] r s f g = absurd f
one_argument_fault [] (field ∷ fields) r s f g = f ∙ sym g
one_argument_fault (place ∷ places) [] r s f g = f ∙ sym g
one_argument_fault (place ∷ places) (field ∷ fields) r s (inl (bad, f)) (inl (worse, g)) = f ∙ sym g
one_argument_fault (place ∷ places) (field ∷ fields) r s (inl (bad, f)) (inr (good, g)) = absurd (bad good)
one_argument_fault (place ∷ places) (field ∷ fields) r s (inr (good, f)) (inl (bad, g)) = absurd (bad good)
one_argument_fault (place ∷ places) (field ∷ fields) r s (inr (good, f)) (inr (fine, g)) = one_argument_fault places fields r s f g

one_statement_fault : (fields : List (List ℕ)) (r s : Reason) → StatementFault fields r → StatementFault fields s → r ≡ s
one_statement_fault [] r s f g = f ∙ sym g
one_statement_fault (name ∷ fields) r s f g = by_verb (verb_named name) f g
  where
    by_verb : (o : Option Verb) → MatchOption o (r ≡ UnknownVerb) (λ verb. Faulty verb.places fields r) → MatchOption o (s ≡ UnknownVerb) (λ verb. Faulty verb.places fields s) → r ≡ s
    by_verb None f g = f ∙ sym g
    by_verb (Some verb) f g = one_argument_fault verb.places fields r s f g

one_command_fault : (fields : List (List ℕ)) (r s : Reason) → CommandFault fields r → CommandFault fields s → r ≡ s
one_command_fault [] r s f g = f ∙ sym g
one_command_fault (field ∷ fields) r s (inl (bad, f)) (inl (worse, g)) = f ∙ sym g
one_command_fault (field ∷ fields) r s (inl (bad, f)) (inr (good, g)) = absurd (bad good)
one_command_fault (field ∷ fields) r s (inr (good, f)) (inl (bad, g)) = absurd (bad good)
one_command_fault (field ∷ fields) r s (inr (good, f)) (inr (fine, g)) = one_statement_fault fields r s f g

-- by a test: where the fault is known on one side, and one on the other, there is one
by_test : (b : Bool) (r s known : Reason) (F : Reason → Type 0) → (F r → F s → r ≡ s) → MatchBool b (r ≡ known) (F r) → MatchBool b (s ≡ known) (F s) → r ≡ s
by_test true r s known F one f g = f ∙ sym g
by_test false r s known F one f g = one f g

-- the fault of a line with a command, of one whose bytes are good, and of one that is short
abbrev FieldFault : List ℕ → Reason → Type 0
FieldFault line r = MatchBool (is_skipped line) ⊥ (CommandFault (fields_of line) r)

abbrev ByteFault : List ℕ → Reason → Type 0
ByteFault line r = MatchBool (list_any is_bad_byte line) (r ≡ BadByte) (FieldFault line r)

abbrev LengthFault : List ℕ → Reason → Type 0
LengthFault line r = MatchBool (nat_lt 256 (length line)) (r ≡ LineTooLong) (ByteFault line r)

one_field_fault : (b : Bool) (fields : List (List ℕ)) (r s : Reason) → MatchBool b ⊥ (CommandFault fields r) → MatchBool b ⊥ (CommandFault fields s) → r ≡ s
one_field_fault true fields r s f g = absurd f
one_field_fault false fields r s f g = one_command_fault fields r s f g

one_byte_fault : (line : List ℕ) (r s : Reason) → ByteFault line r → ByteFault line s → r ≡ s
one_byte_fault line r s = by_test (list_any is_bad_byte line) r s BadByte (FieldFault line) (one_field_fault (is_skipped line) (fields_of line) r s)

one_length_fault : (line : List ℕ) (r s : Reason) → LengthFault line r → LengthFault line s → r ≡ s
one_length_fault line r s = by_test (nat_lt 256 (length line)) r s LineTooLong (ByteFault line) (one_byte_fault line r s)

pub one_line_fault : (n : ℕ) (line : List ℕ) (r s : Reason) → LineFault n line r → LineFault n line s → r ≡ s
one_line_fault n line r s = by_test (nat_lt 65536 n) r s TooManyLines (LengthFault line) (one_length_fault line r s)

pub one_first_fault : (n : ℕ) (lines : List (List ℕ)) (at place : ℕ) (r s : Reason) → FirstFault n lines at r → FirstFault n lines place s → (at ≡ place) × (r ≡ s)
one_first_fault n [] at place r s f g = absurd f
one_first_fault n (line ∷ lines) at place r s (inl (here, f)) (inl (there, g)) = (here ∙ sym there, one_line_fault n line r s f g)
one_first_fault n (line ∷ lines) at place r s (inl (here, f)) (inr (none, g)) = absurd (none r f)
one_first_fault n (line ∷ lines) at place r s (inr (none, f)) (inl (there, g)) = absurd (none s g)
one_first_fault n (line ∷ lines) at place r s (inr (none, f)) (inr (never, g)) = one_first_fault (n + 1) lines at place r s f g
