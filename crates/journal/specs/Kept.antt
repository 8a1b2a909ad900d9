-- What the lock keeps.
use Rattle.std.specs.Prelude.{◌≡◌, ◌≢◌, ◌⊎◌, ◌==◌, Bool, true, not, ◌++◌, ◌∷◌, [], ℕ, List, length, map, Option, Some, None, is_some}
use Rattle.std.specs.Ordering.{nat_cmp}
use Rattle.boxcar.specs.Table.{Shelves, Where, Shows}
use Rattle.bulk_work.specs.Answers as plain
use Rattle.versions.specs.Map.{Map, value_at, without}
use Rattle.handles.specs.Machine.{Kind, State, Job, Request, freeze, finish, abandon, Outcome, made, frozen, finished, job_at, Step}
use Rattle.journal.specs.Journals.{Entered, IsLegal, is_filed}
use Rattle.journal.specs.Tokens.{entry_at, entries_of, AllShown}
use Rattle.journal.specs.declared.frozen.Frozen.{Frozen}

-- what lies under the lock: the machine's state, the journal that leads to it, and of each open job, where in the vector the entry stands that opened it
pub record Standing (K V Q B : Type 0) : Type 0 where
  pub state : State K V Q
  pub journal : List (Entered K V Q B)
  pub openers : Map ℕ ℕ

module _ {K V Q B : Type 0} where
  -- the number and the job of a freeze that was granted
  abbrev pub granted_job : Request K V Q → Outcome K V B → Option (ℕ × Job K V Q)
  granted_job (freeze h q) (frozen j m) = Some (j, record { query = q; frozen = m })
  granted_job r o = None

  -- the number and the job that an entry opened, if it is a freeze that was granted
  abbrev pub opened_by : Entered K V Q B → Option (ℕ × Job K V Q)
  opened_by e = granted_job e.request e.outcome

  -- the open job of this number was opened by this entry
  pub record WasOpenedBy (s : State K V Q) (number : ℕ) (e : Entered K V Q B) : Type 0 where
    pub job : Job K V Q
    pub opened : opened_by e ≡ Some (number, job)
    pub stands : job_at s number ≡ Some job

  -- where the entry stands that opened the job of this number, if one is open
  abbrev pub opener_at : Standing K V Q B → ℕ → Option ℕ
  opener_at l number = value_at nat_cmp l.openers number

  -- the job of this number is not open, or another entry opened it than the one that stands at this index
  abbrev pub IsAnothers : Standing K V Q B → ℕ → ℕ → Type 0
  IsAnothers l number index = (job_at l.state number ≡ None) ⊎ ((other : ℕ) × (opener_at l number ≡ Some other) × (other ≢ index))

  -- where openers stand after an event whose entry stands at this index: a freeze that is granted adds it, and the end of a job takes the job's away
  abbrev pub openers_after : Map ℕ ℕ → Request K V Q → Outcome K V B → ℕ → Map ℕ ℕ
  openers_after openers (freeze h q) (frozen j m) index = without nat_cmp openers j ++ (j, index) ∷ []
  openers_after openers (finish j) (finished b) index = without nat_cmp openers j
  openers_after openers (abandon j) made index = without nat_cmp openers j
  openers_after openers r o index = openers

module _ {K V Q I : Type 0} where
  -- a token beside an open job: it is of this vector, and shows the freeze that opened the job
  pub record IsOpen (t : Shelves) (s : State K V Q) (f : Frozen K V Q I) : Type 0 where
    pub shown : Shows t f.token
    pub opener : WasOpenedBy s f.number (entry_at f.token)

  -- each of the tokens stands beside an open job
  abbrev pub AllOpen : Shelves → State K V Q → List (Frozen K V Q I) → Type 0
  AllOpen t s [] = Unit {0}
  AllOpen t s (f ∷ fs) = IsOpen t s f × AllOpen t s fs

  -- whether a token stands beside another job
  abbrev pub is_other : ℕ → Frozen K V Q I → Bool
  is_other n f = not (f.number == n)

  -- the number of a job, and where the entry stands that opened it
  abbrev pub opener_of : Frozen K V Q I → ℕ × ℕ
  opener_of f = (f.number, f.token.index)

  -- the same of each
  abbrev pub openers_of : List (Frozen K V Q I) → Map ℕ ℕ
  openers_of fs = map opener_of fs

  -- each open job has a token beside it, and no other number has one
  abbrev pub EachHasItsToken : State K V Q → List (Frozen K V Q I) → Type 0
  EachHasItsToken s fs = (number : ℕ) → is_some (value_at nat_cmp (openers_of fs) number) ≡ is_some (job_at s number)

-- the tokens are of the vector; the journal of their entries is legal and leads to the state; and beside each open job stands the token of its freeze
pub record IsKept {K V Q A I : Type 0} (kind : Kind K V Q A (plain.Summary K V I)) (t : Shelves) (s : State K V Q) (ts : List (Where (Entered K V Q (plain.Summary K V I)))) (fs : List (Frozen K V Q I)) : Type 0 where
  pub shown : AllShown t ts
  pub legal : IsLegal kind s.limits (entries_of ts) s
  pub beside : AllOpen t s fs
  pub each : EachHasItsToken s fs

-- one event under the lock: its entry is filed last, by a token of the vector, and it is a step of the machine
pub record Files {K V Q A I : Type 0} (kind : Kind K V Q A (plain.Summary K V I)) (t : Shelves) (old : Standing K V Q (plain.Summary K V I)) (seat : ℕ) (r : Request K V Q) (o : Outcome K V (plain.Summary K V I)) (token : Where (Entered K V Q (plain.Summary K V I))) (at : ℕ) (new : Standing K V Q (plain.Summary K V I)) : Type 0 where
  pub shown : Shows t token
  pub entry : entry_at token ≡ record { seat = seat; request = r; outcome = o }
  pub place : at ≡ length old.journal
  pub journal : new.journal ≡ old.journal ++ entry_at token ∷ []
  pub openers : new.openers ≡ openers_after old.openers r o token.index
  pub step : Step kind old.state r o new.state
  pub filed : is_filed o ≡ true
