-- The first line of a text.
use Prim.Native.Nat.{zero, suc}
use Rattle.std.proofs.Common.{◌≡◌, ◌≢◌, ℕ, ◌<◌, ◌≤◌, false, List, [], ◌∷◌, length, take, drop, get_or, refl, arith}
use Rattle.std.specs.Prelude.{◌==◌}
use Rattle.std.proofs.lemmas.Bool.Decides.{nat_tests}
use Rattle.script.specs.Lines.{lines_of}

-- the first line ends before the first newline
lines_first : (text : List ℕ) (n : ℕ) → n ≤ length text → ((k : ℕ) → k < n → get_or text k 0 ≢ 10) → (n < length text → get_or text n 0 ≡ 10) → 0 < length text → lines_of text ≡ take n text ∷ lines_of (drop 1 (drop n text))
lines_first [] n l h e some = absurd (omega arith)
lines_first (b ∷ text) zero l h e some = let newline : b ≡ 10 = e (omega arith) in rw newline refl
lines_first (b ∷ []) (suc zero) l h e some =
    let other : b ≢ 10 = h 0 (omega arith) in
    let no : (b == 10) ≡ false = grind (arith, nat_tests) in
    rw no refl
lines_first (b ∷ []) (suc (suc n)) l h e some = absurd (omega arith)
lines_first (b ∷ c ∷ text) (suc n) l h e some =
    let other : b ≢ 10 = h 0 (omega arith) in
    let no : (b == 10) ≡ false = grind (arith, nat_tests) in
    let more = lines_first (c ∷ text) n (omega arith) (λ k below. h (suc k) (omega arith)) (λ below. e (omega arith)) (omega arith) in
    rw (no, more) refl

-- what `next` finds: a line, and the text behind its newline
pub next_line : (text line rest after : List ℕ) (n : ℕ) → n ≤ length text → ((k : ℕ) → k < n → get_or text k 0 ≢ 10) → (n < length text → get_or text n 0 ≡ 10) → 0 < length text → line ≡ take n text → rest ≡ drop n text → after ≡ drop 1 rest → lines_of text ≡ line ∷ lines_of after
next_line text line rest after n l h e some is_line is_rest is_after = rw (is_after, is_rest, is_line) (lines_first text n l h e some)
