-- Reading a text line by line.
use Prim.Native.Nat.{zero, suc}
use Rattle.std.proofs.Common.{◌≡◌, ℕ, ◌+◌, ◌≤◌, List, [], ◌∷◌, ◌++◌, length, Option, Some, None, inr, refl, ap, map, append_assoc, append-nil, arith}
use Rattle.std.specs.Prelude.{All}
use Rattle.script.specs.Lines.{lines_of}
use Rattle.script.specs.Statements.{IsLawfulLine}
use Rattle.script.specs.Scripts.{fields_on, numbered, words_on, words_read, IsLawfulIfAny, IsPlain, FirstFault}
use Rattle.script.specs.declared.statement.CommandLine.{CommandLine}
use Rattle.script.specs.declared.fault.Reason.{Reason}
use Rattle.script.proofs.ScriptLemmas.{no_line_fault}

-- after so many lines these command lines were read, and this text is left
pub record HasRead (text : List ℕ) (number : ℕ) (script : List CommandLine) (rest : List ℕ) : Type 0 where
  pub few : number ≤ 65536
  pub count : number + length (lines_of rest) ≡ length (lines_of text)
  pub plain : All IsPlain (lines_of rest) → All IsPlain (lines_of text)
  pub words : map words_on script ++ numbered (number + 1) (lines_of rest) ≡ numbered 1 (lines_of text)
  pub lawful : All IsLawfulLine script
  pub first : (at : ℕ) (reason : Reason) → FirstFault (number + 1) (lines_of rest) at reason → FirstFault 1 (lines_of text) at reason

abbrev pub as_list : Option CommandLine → List CommandLine
as_list None = []
as_list (Some line) = line ∷ []

All-cons : {X : Type 0} (P : X → Type 0) (x : X) (xs : List X) → P x → All P xs → All P (x ∷ xs)
All-cons P x xs p ps zero d below = p
All-cons P x xs p ps (suc k) d below = ps k d (omega arith)

All-push : {X : Type 0} (P : X → Type 0) (xs : List X) (x : X) → All P xs → P x → All P (xs ++ x ∷ [])
All-push P [] x ps p = All-cons P x [] p ps
All-push P (y ∷ xs) x ps p = All-cons P y (xs ++ x ∷ []) (ps 0 y (omega arith)) (All-push P xs x (λ k d below. ps (suc k) d (omega arith)) p)

lawful_more : (script : List CommandLine) (entry : Option CommandLine) → All IsLawfulLine script → IsLawfulIfAny entry → All IsLawfulLine (script ++ as_list entry)
lawful_more script None h e = rw append-nil h
lawful_more script (Some line) h e = All-push IsLawfulLine script line h e

words_more : (script : List CommandLine) (entry : Option CommandLine) → map words_on (script ++ as_list entry) ≡ map words_on script ++ words_read entry
words_more [] None = refl
words_more [] (Some line) = refl
words_more (x ∷ script) entry = ap (λ (rest : List (ℕ × List (List ℕ))). words_on x ∷ rest) (words_more script entry)

-- one line more
pub read_more : (text : List ℕ) (n : ℕ) (script : List CommandLine) (rest line after : List ℕ) (entry : Option CommandLine)
    → HasRead text n script rest → lines_of rest ≡ line ∷ lines_of after → words_read entry ≡ fields_on (n + 1) line → n + 1 ≤ 65536 → IsPlain line → IsLawfulIfAny entry
    → HasRead text (n + 1) (script ++ as_list entry) after
read_more text n script rest line after entry h next words few plain lawful = record {
  few = few;
  count = omega (arith, h.count, ap length next);
  plain = λ more. h.plain (rw next (All-cons IsPlain line (lines_of after) plain more));
  words = rw (words_more script entry, append_assoc, words) (rw next at h.words);
  lawful = lawful_more script entry h.lawful lawful;
  first = λ at reason fault. h.first at reason (rw next (inr (λ other. no_line_fault (n + 1) line entry other few plain words lawful, fault)));
}
