use Rattle.std.proofs.Common.{Some}
use Rattle.map_histories.proofs.history.history.Given as goal

-- the book that was just opened
abbrev pub ghosts-told : goal.ghosts-told
ghosts-told g a = record { book = Some a.opened.book }
