-- What the program says of a journal's text.
use Rattle.std.specs.Prelude.{◌≡◌, ℕ, List, ◌++◌, Option, codes}
use Rattle.std.specs.Fmt.{decimal}
use Rattle.std.specs.Io.KnownBytes.{Appends}
use Rattle.audit.specs.Verdicts.{IsVerdict}
use Rattle.audit.specs.declared.verdict.Verdict.{Verdict}
use Rattle.audit.specs.declared.verdict.Verdict.TheVariants.{Legal, Bad}

-- the line that reports a verdict
abbrev pub verdict_line : Verdict → List ℕ
verdict_line (Legal entries) = codes "legal " ++ (decimal entries ++ codes "\n")
verdict_line (Bad line) = codes "bad " ++ (decimal line ++ codes "\n")

-- the status for a verdict
abbrev pub status_for : Verdict → ℕ
status_for (Legal entries) = 0
status_for (Bad line) = 3

-- the status is that for the right verdict on the text, and a writer that held the old bytes has its line behind them
abbrev pub TellsVerdict : List ℕ → ℕ → Option (List ℕ) → Option (List ℕ) → Type 0
TellsVerdict text status old new = (verdict : Verdict) × IsVerdict text verdict × (status ≡ status_for verdict) × Appends old new (verdict_line verdict)
