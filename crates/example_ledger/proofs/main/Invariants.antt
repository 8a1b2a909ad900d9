use Rattle.std.proofs.Common.{Some}
use Rattle.example_ledger.proofs.main.Given as goal

-- the book that was just opened
abbrev pub ghosts-tour : goal.ghosts-tour
ghosts-tour g a = record { book = Some a.opened.book }
