-- What the tests of the loop over lines say.
use Rattle.std.proofs.Common.{◌≡◌, Bool, true, false, List, ℕ}
use Rattle.std.specs.Prelude.{MatchBool, IsTrue, ◌↔◌}
use Rattle.questions.specs.Program.{ProgramState}
use Rattle.audit.specs.Answers.{IsNext, IsNoneNext}

pub none_next : (b : Bool) (s t : ProgramState) (line : List ℕ) → b ≡ false → MatchBool b (IsNext s line t) (IsNoneNext s line) → IsNoneNext s line
none_next true s t line e h = cc
none_next false s t line e h = h

pub is_next : (b : Bool) (s t : ProgramState) (line : List ℕ) → b ≡ true → MatchBool b (IsNext s line t) (IsNoneNext s line) → IsNext s line t
is_next true s t line e h = h
is_next false s t line e h = cc

pub other_line : (b : Bool) (P : Type 0) → b ≡ false → IsTrue b ↔ P → P → ⊥
other_line b P e h p = let there : b ≡ true = h.1 p in cc
