-- What a text spells has no fault, and is one script.
use Prim.Native.Nat.{suc}
use Rattle.std.proofs.Common.{◌≡◌, ℕ, ◌+◌, ◌≤◌, Bool, true, false, List, [], ◌∷◌, length, Option, Some, None, inl, inr, refl, sym, ap, map, arith}
use Rattle.std.specs.Prelude.{All}
use Rattle.std.specs.Fmt.{decimal}
use Rattle.std.proofs.lemmas.Fmt.{decimal_injective}
use Rattle.script.specs.Lines.{fields_of, is_skipped}
use Rattle.script.specs.Statements.{IsLawfulLine, words_of}
use Rattle.script.specs.Faults.{LineFault}
use Rattle.script.specs.Scripts.{fields_on, numbered, words_on, words_read, IsLawfulIfAny, IsPlain, FirstFault}
use Rattle.script.specs.declared.statement.Statement.{Statement}
use Rattle.script.specs.declared.statement.CommandLine.{CommandLine}
use Rattle.script.specs.declared.fault.Reason.{Reason}
use Rattle.script.proofs.FaultLemmas.{at_fields, no_skipped_fault}
use Rattle.script.proofs.WordLemmas.{same_statement, no_statement_fault}

behind : {X : Type 0} (P : X → Type 0) (x : X) (xs : List X) → All P (x ∷ xs) → All P xs
behind P x xs h = λ k d below. h (suc k) d (omega arith)

first : {X : Type 0} (P : X → Type 0) (x : X) (xs : List X) → All P (x ∷ xs) → P x
first P x xs h = h 0 x (omega arith)

-- words spell one command line
same_line : (a b : CommandLine) → IsLawfulLine a → IsLawfulLine b → words_on a ≡ words_on b → a ≡ b
same_line a b la lb e =
    let words : decimal a.client ∷ words_of a.statement ≡ decimal b.client ∷ words_of b.statement = ap (λ (p : ℕ × List (List ℕ)). p.1) e in
    let number : a.number ≡ b.number = ap (λ (p : ℕ × List (List ℕ)). p.0) e in
    let name : decimal a.client ≡ decimal b.client = cc in
    let rest : words_of a.statement ≡ words_of b.statement = cc in
    let client : a.client ≡ b.client = decimal_injective a.client b.client (omega (arith, la.0)) (omega (arith, lb.0)) name in
    let statement : a.statement ≡ b.statement = same_statement a.statement b.statement la.1 lb.1 rest in
    let made : (n c : ℕ) (d : Statement) → a.number ≡ n → a.client ≡ c → a.statement ≡ d → a ≡ record { number = n; client = c; statement = d } = λ (n c : ℕ) (d : Statement) p q r. rw (← p, ← q, ← r) refl in
    made b.number b.client b.statement number client statement

pub same_lines : (xs ys : List CommandLine) → All IsLawfulLine xs → All IsLawfulLine ys → map words_on xs ≡ map words_on ys → xs ≡ ys
same_lines [] [] lx ly e = refl
same_lines [] (y ∷ ys) lx ly e = cc
same_lines (x ∷ xs) [] lx ly e = cc
same_lines (x ∷ xs) (y ∷ ys) lx ly e =
    let words : words_on x ≡ words_on y = cc in
    let rest : map words_on xs ≡ map words_on ys = cc in
    let head : x ≡ y = same_line x y (first IsLawfulLine x xs lx) (first IsLawfulLine y ys ly) words in
    let tail : xs ≡ ys = same_lines xs ys (behind IsLawfulLine x xs lx) (behind IsLawfulLine y ys ly) rest in
    cc

-- a line within the limits that has no command, or whose fields are the words of a lawful one, has no fault
pub no_line_fault : (n : ℕ) (line : List ℕ) (entry : Option CommandLine) (reason : Reason) → n ≤ 65536 → IsPlain line → words_read entry ≡ fields_on n line → IsLawfulIfAny entry → LineFault n line reason → ⊥
no_line_fault n line entry reason few plain words lawful fault = by_skip (is_skipped line) entry refl words lawful
  where
    by_skip : (b : Bool) (entry : Option CommandLine) → is_skipped line ≡ b → words_read entry ≡ fields_on n line → IsLawfulIfAny entry → ⊥
    by_skip true entry skips words lawful = no_skipped_fault n line reason few plain.0 plain.1 skips fault
    by_skip false None command words lawful = let bad : words_read None ≡ (n, fields_of line) ∷ [] = rw command at words in cc
    by_skip false (Some x) command words lawful =
        let all : words_on x ∷ [] ≡ (n, fields_of line) ∷ [] = rw command at words in
        let head : words_on x ≡ (n, fields_of line) = cc in
        no_statement_fault x.statement x.client (fields_of line) reason lawful.0 lawful.1 (ap (λ (p : ℕ × List (List ℕ)). p.1) (sym head)) (at_fields n line reason few plain.0 plain.1 command fault)

-- lines that spell a script have no first fault
pub no_first_fault : (n : ℕ) (lines : List (List ℕ)) (script : List CommandLine) (at : ℕ) (reason : Reason) → n + length lines ≤ 65537 → All IsPlain lines → numbered n lines ≡ map words_on script → All IsLawfulLine script → FirstFault n lines at reason → ⊥
no_first_fault n [] script at reason few plain words lawful fault = fault
no_first_fault n (line ∷ lines) script at reason few plain words lawful fault =
    by_skip (is_skipped line) script refl words lawful fault (λ rest same good later. no_first_fault (n + 1) lines rest at reason (omega arith) (behind IsPlain line lines plain) same good later)
  where
    by_skip : (b : Bool) (script : List CommandLine) → is_skipped line ≡ b → numbered n (line ∷ lines) ≡ map words_on script → All IsLawfulLine script → FirstFault n (line ∷ lines) at reason
        → ((rest : List CommandLine) → numbered (n + 1) lines ≡ map words_on rest → All IsLawfulLine rest → FirstFault (n + 1) lines at reason → ⊥) → ⊥
    by_skip true script skips words lawful (inl (here, fault)) more = no_skipped_fault n line reason (omega arith) (first IsPlain line lines plain).0 (first IsPlain line lines plain).1 skips fault
    by_skip true script skips words lawful (inr (none, fault)) more = more script (rw skips at words) lawful fault
    by_skip false [] command words lawful fault more = let bad : (n, fields_of line) ∷ numbered (n + 1) lines ≡ [] = rw command at words in cc
    by_skip false (x ∷ xs) command words lawful (inl (here, fault)) more =
        let all : (n, fields_of line) ∷ numbered (n + 1) lines ≡ words_on x ∷ map words_on xs = rw command at words in
        let head : (n, fields_of line) ≡ words_on x = cc in
        no_line_fault n line (Some x) reason (omega arith) (first IsPlain line lines plain) (rw (command, head) refl) (first IsLawfulLine x xs lawful) fault
    by_skip false (x ∷ xs) command words lawful (inr (none, fault)) more =
        let all : (n, fields_of line) ∷ numbered (n + 1) lines ≡ words_on x ∷ map words_on xs = rw command at words in
        let tail : numbered (n + 1) lines ≡ map words_on xs = cc in
        more xs tail (behind IsLawfulLine x xs lawful) fault
