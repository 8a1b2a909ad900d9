-- A pair as a page has it.
use Rattle.std.proofs.Common.{◌≡◌, ℕ, ◌+◌, ◌≤◌, List, ◌++◌, length, ap, ◌∙◌, w64, arith, append_assoc, length-append}
use Rattle.std.specs.Int.{to_le_bytes}
use Rattle.c_map.specs.Pages.{spelled, written}
use Rattle.c_map.proofs.Written.{written-more}

module _ {V : Type 0} (number : V → ℕ) (bytes : V → List ℕ) where
  pub length-spelled : (e : List ℕ × V) → length (spelled number bytes e) ≡ 16 + length e.0 + length (bytes e.1)
  length-spelled e = omega (arith, length-append e.0 (bytes e.1))

  -- the four parts of a pair that are written one behind another
  pub written-parts : (b w x y z : List ℕ) (at : ℕ) (e : List ℕ × V) → at + length (spelled number bytes e) ≤ length b
      → w ≡ written b at (to_le_bytes w64 (length e.0)) → x ≡ written w (at + 8) (to_le_bytes w64 (number e.1)) → y ≡ written x (at + 16) e.0 → z ≡ written y (at + 16 + length e.0) (bytes e.1)
      → z ≡ written b at (spelled number bytes e)
  written-parts b w x y z at e fits first second third fourth =
      let a = to_le_bytes w64 (length e.0) in
      let n = to_le_bytes w64 (number e.1) in
      let long = length-spelled e in
      let two : x ≡ written b at (a ++ n) = second ∙ ap (λ u. written u (at + 8) n) first ∙ written-more b at a n (omega (arith, long, fits)) in
      let three : y ≡ written b at ((a ++ n) ++ e.0) = third ∙ ap (λ u. written u (at + 16) e.0) two ∙ written-more b at (a ++ n) e.0 (omega (arith, long, fits)) in
      fourth
      ∙ ap (λ u. written u (at + 16 + length e.0) (bytes e.1)) three
      ∙ ap (λ k. written (written b at ((a ++ n) ++ e.0)) k (bytes e.1)) (omega (arith, length-append (a ++ n) e.0))
      ∙ written-more b at ((a ++ n) ++ e.0) (bytes e.1) (omega (arith, long, fits, length-append (a ++ n) e.0))
      ∙ ap (written b at) (append_assoc (a ++ n) e.0 (bytes e.1))
