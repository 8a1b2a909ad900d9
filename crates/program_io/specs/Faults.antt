-- What the program prints for words that give no options, and the status that it ends with.
use Rattle.std.specs.Prelude.{◌≡◌, ◌≤◌, ℕ, List, Option, string_bytes}
use Rattle.std.specs.Io.KnownBytes.{Appends, Keeps}
use Rattle.program_io.specs.declared.arguments.ArgFault.{ArgFault}
use Rattle.program_io.specs.declared.arguments.ArgFault.TheVariants.{Help, Parser, NotText, AuditJournal, Memory}

-- the status for the fault, where standard output held the old bytes and has the new ones: the text that was asked for stands behind them where the status is 0, and of no other fault is anything there
abbrev pub IsShownBy : ArgFault → ℕ → Option (List ℕ) → Option (List ℕ) → Type 0
IsShownBy (Help text) status old new = (status ≤ 1) × (status ≡ 0 → Appends old new (string_bytes text))
IsShownBy (Parser text) status old new = (status ≡ 2) × Keeps old new
IsShownBy NotText status old new = (status ≡ 2) × Keeps old new
IsShownBy AuditJournal status old new = (status ≡ 2) × Keeps old new
IsShownBy Memory status old new = (status ≡ 1) × Keeps old new
