-- What a turn asks of a rule, and what it tells.
use Rattle.std.specs.Prelude.{◌≡◌, List, [], ◌∷◌, ◌++◌, length}
use mathlib.Core.List.{IsPrefix}
use Rattle.logbook.specs.Pages.{Book, Cell}
use Rattle.ghost_log.specs.Cells.{Agree, AllDiffer, AreHome, Count, cells_after}

module _ {E : Type 0} (holds : List Cell → List E → Type 0) where
  -- the cells differ, and whatever the book is, it holds them; and where they have these numbers, the rule is kept once these entries are added and counted in each
  abbrev pub Allows : (List E → List E) → List Count → List E → List E → Type 0
  Allows shows rights seen more = AllDiffer rights × ((cells : List Cell) (log : List E) → holds cells log
      → AreHome cells rights × (IsPrefix seen log → Agree cells rights → holds (cells_after (length more) cells rights) (log ++ more) × (shows (log ++ more) ≡ shows log)))

  -- no right asks nothing; else the rights are of the book that was seen, and its rule allows the entries
  abbrev pub MayTurn : (List E → List E) → Book → Book → List Count → List E → List E → Type 0
  MayTurn shows of_rights of_seen [] seen more = Unit {0}
  MayTurn shows of_rights of_seen (c ∷ rest) seen more = (of_rights ≡ of_seen) × Allows shows (c ∷ rest) seen more

  -- the log had gone on from what was seen, the cells had these numbers there, and the log has these entries behind it now
  abbrev pub Added : List Count → List E → List E → List E → Type 0
  Added rights seen more new = (log : List E) × (cells : List Cell) × holds cells log × IsPrefix seen log × Agree cells rights × (new ≡ log ++ more)

  -- with no right nothing is done
  abbrev pub Turned : List Count → List E → List E → List E → Type 0
  Turned [] seen more new = new ≡ seen
  Turned (c ∷ rest) seen more new = Added (c ∷ rest) seen more new
