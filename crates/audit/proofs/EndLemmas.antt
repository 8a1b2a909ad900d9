-- How a last line begins.
use Rattle.std.proofs.Common.{◌≡◌, Bool, true, false, ℕ, ◌∙◌, List, ap, codes, sym}
use Rattle.std.specs.Prelude.{◌==◌}
use Rattle.std.specs.List.{starts_with}
use Rattle.journal_lines.specs.Lines.{ended, end_line}

-- what does not begin so is no last line
pub begins_so : (line : List ℕ) (begins : Bool) → begins ≡ starts_with ◌==◌ line (codes "{\"entries\":") → begins ≡ false
    → (entries : ℕ) → line ≡ ended (end_line entries) → ⊥
begins_so line begins is not entries last =
    let so : starts_with ◌==◌ line (codes "{\"entries\":") ≡ true = ap (λ (l : List ℕ). starts_with ◌==◌ l (codes "{\"entries\":")) last in
    let both : true ≡ false = sym so ∙ sym is ∙ not in
    cc
