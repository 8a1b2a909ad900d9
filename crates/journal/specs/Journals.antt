-- Journals: what an entry is, and which journals are legal.
use Rattle.std.specs.Prelude.{◌≡◌, ℕ, ◌+◌, ◌==◌, Bool, true, false, List, [], ◌∷◌, cond, map}
use Rattle.std.specs.List.{list_all}
use Rattle.handles.specs.declared.limits.Limits.{Limits}
use Rattle.handles.specs.Machine.{Kind, State, Request, Outcome, unfinished, refused, worked, nothing, is_entry, Run}

-- an entry: the number of the seat that called, what it asked, and what it was answered
pub record Entered (K V Q B : Type 0) : Type 0 where
  pub seat : ℕ
  pub request : Request K V Q
  pub outcome : Outcome K V B

-- whether what is answered so is an entry: no refusal by NoJob, Unfinished, JournalFull or NoMemory is, and no step of a worker
abbrev pub is_filed : {K V B : Type 0} → Outcome K V B → Bool
is_filed (refused e) = is_entry e
is_filed unfinished = false
is_filed worked = false
is_filed _ = true

module _ {K V Q B : Type 0} where
  -- what was asked
  abbrev pub request_in : Entered K V Q B → Request K V Q
  request_in e = e.request

  -- what was answered
  abbrev pub outcome_in : Entered K V Q B → Outcome K V B
  outcome_in e = e.outcome

  -- what was asked, in order
  abbrev pub requests_in : List (Entered K V Q B) → List (Request K V Q)
  requests_in es = map request_in es

  -- what was answered, in order
  abbrev pub outcomes_in : List (Entered K V Q B) → List (Outcome K V B)
  outcomes_in es = map outcome_in es

  -- whether what was answered so is an entry
  abbrev pub is_filed_in : Entered K V Q B → Bool
  is_filed_in e = is_filed e.outcome

  -- the entries that have the seat's number, in order, each with its place in the journal; the first entry has this place
  abbrev pub own : ℕ → ℕ → List (Entered K V Q B) → List (ℕ × Entered K V Q B)
  own k from [] = []
  own k from (e ∷ es) = cond (e.seat == k) ((from, e) ∷ own k (from + 1) es) (own k (from + 1) es)

-- a legal journal that leads to this state: its requests got their outcomes in a run from no handles, no jobs and no entries, and each outcome is one that is filed
pub record IsLegal {K V Q A B : Type 0} (kind : Kind K V Q A B) (limits : Limits) (es : List (Entered K V Q B)) (t : State K V Q) : Type 0 where
  pub run : Run kind (nothing limits) (requests_in es) (outcomes_in es) t
  pub filed : list_all is_filed_in es ≡ true
