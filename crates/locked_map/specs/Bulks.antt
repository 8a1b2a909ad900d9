-- What a bulk call adds to its seat, and what it answers.
use Rattle.std.specs.Prelude.{◌≡◌, ◌⊎◌, ℕ, Option, Some, None, Result, Ok, Err, IfOk}
use Rattle.bulk_work.specs.Answers as plain
use Rattle.bulk_work.specs.Summaries.{summary_of}
use Rattle.bulk_work.specs.declared.asks.Answer.{Answer}
use Rattle.versions.specs.Map.{Map}
use Rattle.versions.specs.declared.refusal.Refusal.{Refusal}
use Rattle.versions.specs.declared.refusal.Refusal.TheVariants.{NoJob, NoMemory}
use Rattle.handles.specs.Machine.{freeze, finish, finished, refused}
use Rattle.journal.specs.Answers.{answered}
use Rattle.locked_map.specs.Seats.{Seated, Adds}
use Rattle.locked_map.specs.Tickets.{Ticketed, ticket_outcome}

module _ {K V Q I P : Type 0} (answers : Q → Map K V → P → Type 0) (answer_of : P → plain.Answer K V I) where
  -- what is returned is the answer of a part that answers the ticket's query for its map
  abbrev pub IsAnswerTo : Ticketed K V Q → Answer K V I → Type 0
  IsAnswerTo ticket answer = (part : P) × answers ticket.query ticket.frozen part × (summary_of answer ≡ plain.summary (answer_of part))

  -- what follows where the freeze was answered so: its refusal is the answer, with no ticket; else the job is finished
  -- and its answer returned, or its ticket comes back with the refusal of the finish, which is NoJob or NoMemory, and adds nothing where it is NoMemory
  abbrev pub EndsBulk : Seated K V Q (plain.Summary K V I) → Result (Ticketed K V Q) Refusal
      → Result (Answer K V I) (Refusal × Option (Ticketed K V Q)) → Seated K V Q (plain.Summary K V I) → Type 0
  EndsBulk m (Err e) result t = (result ≡ Err (e, None)) × (t ≡ m)
  EndsBulk m (Ok ticket) (Ok answer) t = Adds m (finish ticket.job) (finished (summary_of answer)) t × IsAnswerTo ticket answer
  EndsBulk m (Ok ticket) (Err e) t = Adds m (finish ticket.job) (refused e.0) t × (e.1 ≡ Some ticket) × ((e.0 ≡ NoJob) ⊎ (e.0 ≡ NoMemory))

  -- a freeze of the handle with the query, and what follows
  pub record AddsBulk (h : ℕ) (q : Q) (s : Seated K V Q (plain.Summary K V I))
      (result : Result (Answer K V I) (Refusal × Option (Ticketed K V Q))) (t : Seated K V Q (plain.Summary K V I)) : Type 0 where
    pub opened : Result (Ticketed K V Q) Refusal
    pub between : Seated K V Q (plain.Summary K V I)
    pub freezes : Adds s (freeze h q) (answered ticket_outcome opened) between
    pub asked : IfOk opened (λ ticket. ticket.query ≡ q)
    pub ends : EndsBulk between opened result t
