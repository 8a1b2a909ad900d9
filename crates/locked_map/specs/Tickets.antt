-- Tickets of open jobs.
use Rattle.std.specs.Prelude.{◌≡◌, ℕ, Some}
use Rattle.boxcar.specs.Table.{Shelves, Where, Shows}
use Rattle.bulk_work.specs.Answers as plain
use Rattle.versions.specs.Map.{Map}
use Rattle.handles.specs.Machine.{Outcome, frozen}
use Rattle.journal.specs.Journals.{Entered}
use Rattle.journal.specs.Tokens.{entry_at}
use Rattle.journal.specs.Kept.{opened_by}

-- a ticket: the number of its job, its query, and the map that the freeze recorded
pub record Ticketed (K V Q : Type 0) : Type 0 where
  pub job : ℕ
  pub query : Q
  pub frozen : Map K V

-- the outcome of a freeze that gave this ticket
abbrev pub ticket_outcome : {K V Q B : Type 0} → Ticketed K V Q → Outcome K V B
ticket_outcome t = frozen t.job t.frozen

-- the token is of this vector, and its entry is the freeze of the query that opened the job of this number and showed this map
pub record IsTicket {K V Q I : Type 0} (t : Shelves) (number : ℕ) (query : Q) (map : Map K V) (token : Where (Entered K V Q (plain.Summary K V I))) : Type 0 where
  pub shown : Shows t token
  pub opened : opened_by (entry_at token) ≡ Some (number, record { query = query; frozen = map })
