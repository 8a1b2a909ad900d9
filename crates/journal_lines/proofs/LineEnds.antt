-- Where the first line of a text ends.
use Prim.Native.Nat.{zero, suc}
use Rattle.std.proofs.Common.{◌≡◌, ◌≢◌, ℕ, ◌<◌, true, false, List, [], ◌∷◌, length, take, drop, get_or, refl, arith}
use Rattle.std.specs.Prelude.{◌==◌}
use Rattle.std.proofs.lemmas.Bool.Decides.{nat_tests}
use Rattle.journal_lines.specs.Lines.{lines_in}

-- behind the first newline
pub first_ended : (text : List ℕ) (k : ℕ) → k < length text → ((i : ℕ) → i < k → get_or text i 0 ≢ 10) → get_or text k 0 ≡ 10 → lines_in text ≡ take (suc k) text ∷ lines_in (drop (suc k) text)
first_ended [] k below others here = absurd (omega arith)
first_ended (b ∷ text) zero below others here = let newline : (b == 10) ≡ true = grind (arith, nat_tests) in rw newline refl
first_ended (b ∷ []) (suc k) below others here = absurd (omega arith)
first_ended (b ∷ c ∷ text) (suc k) below others here =
    let other : b ≢ 10 = others 0 (omega arith) in
    let wrong : (b == 10) ≡ false = grind (arith, nat_tests) in
    let more = first_ended (c ∷ text) k (omega arith) (λ i h. others (suc i) (omega arith)) here in
    rw (wrong, more) refl

-- at the end of the text, where there is none
pub unended : (text : List ℕ) → 0 < length text → ((i : ℕ) → i < length text → get_or text i 0 ≢ 10) → lines_in text ≡ take (length text) text ∷ lines_in (drop (length text) text)
unended [] some others = absurd (omega arith)
unended (b ∷ []) some others =
    let other : b ≢ 10 = others 0 (omega arith) in
    let wrong : (b == 10) ≡ false = grind (arith, nat_tests) in
    rw wrong refl
unended (b ∷ c ∷ text) some others =
    let other : b ≢ 10 = others 0 (omega arith) in
    let wrong : (b == 10) ≡ false = grind (arith, nat_tests) in
    let more = unended (c ∷ text) (omega arith) (λ i h. others (suc i) (omega arith)) in
    rw (wrong, more) refl
