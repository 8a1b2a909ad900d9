-- The machine of handles: its states, its step as a relation, and its runs.
use Rattle.std.specs.Prelude.{◌≡◌, ℕ, ◌+◌, ◌-◌, Bool, true, false, not, ◌&&◌, ◌||◌, ◌==◌, nat_le, nat_lt, List, [], ◌∷◌, ◌++◌, length, Option, Some, None, is_some, unwrap_or, if◌then◌else◌}
use Rattle.std.specs.declared.cmp.Ordering.{Ordering}
use Rattle.std.specs.Ordering.{nat_cmp}
use Rattle.std.specs.List.{list_any}
use Rattle.versions.specs.Map.{Map, value_at, with_pair, without}
use Rattle.versions.specs.Commands.{Command, clear, Reply, after, reply, is_full, needs_no_memory}
use Rattle.versions.specs.declared.refusal.Refusal.{Refusal}
use Rattle.versions.specs.declared.refusal.Refusal.TheVariants.{NoHandle, Taken, Full, NoJob, Unfinished, TooManyJobs, JournalFull, NoMemory, BadNumber}
use Rattle.held_maps.specs.declared.limits.TheConstants.{LAST_HANDLE}
use Rattle.handles.specs.declared.limits.Limits.{Limits}
use Rattle.handles.specs.declared.limits.TheConstants.{MOST_JOBS}

-- an open job: its query, and the map that its freeze recorded
pub record Job (K V Q : Type 0) : Type 0 where
  pub query : Q
  pub frozen : Map K V

-- what a machine keeps
pub record State (K V Q : Type 0) : Type 0 where
  pub limits : Limits
  -- the map of each live handle number
  pub live : Map ℕ (Map K V)
  -- the open job of each number
  pub jobs : Map ℕ (Job K V Q)
  -- the number of the next job
  pub next : ℕ
  -- how many entries there are so far
  pub entries : ℕ

-- what a machine may be asked; Q is what a freeze asks of the map
pub data Request (K V Q : Type 0) : Type 0 where
  open_handle : ℕ → Request K V Q
  snapshot : ℕ → ℕ → Request K V Q
  drop_handle : ℕ → Request K V Q
  on : ℕ → Command K V → Request K V Q
  view : ℕ → Request K V Q
  freeze : ℕ → Q → Request K V Q
  finish : ℕ → Request K V Q
  abandon : ℕ → Request K V Q
  worker_step : Request K V Q

-- what a request is answered; B is what a finish returns
pub data Outcome (K V B : Type 0) : Type 0 where
  made : Outcome K V B
  replied : Reply V → Outcome K V B
  viewed : Map K V → Outcome K V B
  frozen : ℕ → Map K V → Outcome K V B
  finished : B → Outcome K V B
  unfinished : Outcome K V B
  refused : Refusal → Outcome K V B
  worked : Outcome K V B

-- keys in their order, values with their equality, and queries: the number that one reserves, the answers that it may have, the map that an answer makes, and what is reported of an answer
pub record Kind (K V Q A B : Type 0) : Type 1 where
  pub order : K → K → Ordering
  pub equal : V → V → Bool
  pub target : Q → Option ℕ
  pub answers : Q → Map K V → A → Type 0
  pub map_of : A → Map K V
  pub told : A → B

-- the state with no handles, no jobs and no entries
abbrev pub nothing : {K V Q : Type 0} → Limits → State K V Q
nothing limits = record { limits = limits; live = []; jobs = []; next = 0; entries = 0 }

module _ {K V Q : Type 0} where
  -- the map of a handle, if it is live
  abbrev pub map_at : State K V Q → ℕ → Option (Map K V)
  map_at s h = value_at nat_cmp s.live h

  -- the map of a handle that is live
  abbrev pub held_by : State K V Q → ℕ → Map K V
  held_by s h = unwrap_or (map_at s h) []

  -- the open job of a number, if there is one
  abbrev pub job_at : State K V Q → ℕ → Option (Job K V Q)
  job_at s j = value_at nat_cmp s.jobs j

  -- the handle is live with the map
  abbrev pub live_with : State K V Q → ℕ → Map K V → Map ℕ (Map K V)
  live_with s h m = with_pair nat_cmp s.live h m

  -- the handle that is read, written, dropped, frozen or snapshotted
  abbrev pub source : Request K V Q → Option ℕ
  source (open_handle h) = None
  source (snapshot h to) = Some h
  source (drop_handle h) = Some h
  source (on h c) = Some h
  source (view h) = Some h
  source (freeze h q) = Some h
  source (finish j) = None
  source (abandon j) = None
  source worker_step = None

  -- the job that is finished or abandoned
  abbrev pub job_of : Request K V Q → Option ℕ
  job_of (finish j) = Some j
  job_of (abandon j) = Some j
  job_of _ = None

  -- whether it needs room in the journal
  abbrev pub needs_room : Request K V Q → Bool
  needs_room (finish j) = false
  needs_room (abandon j) = false
  needs_room worker_step = false
  needs_room _ = true

  -- whether it opens a job
  abbrev pub is_freeze : Request K V Q → Bool
  is_freeze (freeze h q) = true
  is_freeze _ = false

  -- whether it succeeds, or is refused for another reason, where there is no memory
  abbrev pub takes_no_memory : Request K V Q → Bool
  takes_no_memory (drop_handle h) = true
  takes_no_memory (on h c) = needs_no_memory c
  takes_no_memory (finish j) = true
  takes_no_memory (abandon j) = true
  takes_no_memory _ = false

  -- the map that a drop or a clear of a live handle releases
  abbrev pub let_go : State K V Q → Request K V Q → Option (Map K V)
  let_go s (drop_handle h) = map_at s h
  let_go s (on h clear) = map_at s h
  let_go s r = None

  -- how many entries may still be made besides the ends of the open jobs
  abbrev pub room : State K V Q → ℕ
  room s = s.limits.entries - s.entries - length s.jobs

  -- whether a job is named and not open
  abbrev pub is_unknown_job : State K V Q → Option ℕ → Bool
  is_unknown_job s None = false
  is_unknown_job s (Some j) = not (is_some (job_at s j))

  -- whether a handle is named and not live
  abbrev pub is_not_live : State K V Q → Option ℕ → Bool
  is_not_live s None = false
  is_not_live s (Some h) = not (is_some (map_at s h))

-- whether a number is no handle's
abbrev pub is_bad : Option ℕ → Bool
is_bad None = false
is_bad (Some h) = nat_lt LAST_HANDLE h

-- whether a number is named and is this one
abbrev pub is_number : Option ℕ → ℕ → Bool
is_number None h = false
is_number (Some to) h = to == h

-- the refusal of the first condition that holds
abbrev pub first_of : List (Bool × Refusal) → Option Refusal
first_of [] = None
first_of (c ∷ cs) = if c.0 then Some c.1 else first_of cs

-- whether a refusal is an entry of the journal
abbrev pub is_entry : Refusal → Bool
is_entry NoJob = false
is_entry Unfinished = false
is_entry JournalFull = false
is_entry NoMemory = false
is_entry _ = true

module _ {K V Q A B : Type 0} (kind : Kind K V Q A B) where
  -- the number that an open, a snapshot or a freeze would open or reserve
  abbrev pub wanted : Request K V Q → Option ℕ
  wanted (open_handle h) = Some h
  wanted (snapshot h to) = Some to
  wanted (freeze h q) = kind.target q
  wanted _ = None

  -- whether the open job reserves the number
  abbrev pub reserves : ℕ → ℕ × Job K V Q → Bool
  reserves h job = is_number (kind.target job.1.query) h

  -- whether the number is live, or is the target of an open job
  abbrev pub is_taken : State K V Q → Option ℕ → Bool
  is_taken s None = false
  is_taken s (Some h) = is_some (map_at s h) || list_any (reserves h) s.jobs

  -- whether a command would put a new key into a map that holds as many pairs as it may
  abbrev pub lacks_place : State K V Q → Request K V Q → Bool
  lacks_place s (on h c) = is_full kind.order s.limits.pairs (held_by s h) c
  lacks_place s _ = false

  -- the conditions of refusals, in the order in which they count
  abbrev pub conditions : State K V Q → Request K V Q → List (Bool × Refusal)
  conditions s r =
      (needs_room r && nat_lt (room s) 2, JournalFull)
      ∷ (is_bad (source r) || is_bad (wanted r), BadNumber)
      ∷ (is_not_live s (source r), NoHandle)
      ∷ (is_unknown_job s (job_of r), NoJob)
      ∷ (is_taken s (wanted r), Taken)
      ∷ (is_freeze r && nat_le MOST_JOBS (length s.jobs), TooManyJobs)
      ∷ (lacks_place s r, Full)
      ∷ []

  -- why a request is refused, if it is
  abbrev pub refusal : State K V Q → Request K V Q → Option Refusal
  refusal s r = first_of (conditions s r)

  -- the live handles once a target, if there is one, has the answer's map
  abbrev pub live_after : State K V Q → Option ℕ → A → Map ℕ (Map K V)
  live_after s None a = s.live
  live_after s (Some to) a = live_with s to (kind.map_of a)

  -- the query of the open job has an answer for its frozen map, which is returned: the job is closed, a target is live with the answer's map
  pub record Finishes (s : State K V Q) (j : ℕ) (b : B) (t : State K V Q) : Type 0 where
    pub job : Job K V Q
    pub answer : A
    pub named : job_at s j ≡ Some job
    pub is_answer : kind.answers job.query job.frozen answer
    pub told : b ≡ kind.told answer
    pub left : t ≡ record s { live = live_after s (kind.target job.query) answer; jobs = without nat_cmp s.jobs j; entries = s.entries + 1 }

  -- what a request that is not refused may be answered, and what it leaves
  abbrev pub Granted : State K V Q → Request K V Q → Outcome K V B → State K V Q → Type 0
  Granted s (open_handle h) made t = t ≡ record s { live = live_with s h []; entries = s.entries + 1 }
  Granted s (snapshot h to) made t = t ≡ record s { live = live_with s to (held_by s h); entries = s.entries + 1 }
  Granted s (drop_handle h) made t = t ≡ record s { live = without nat_cmp s.live h; entries = s.entries + 1 }
  Granted s (on h c) (replied y) t = (y ≡ reply kind.order kind.equal (held_by s h) c) × (t ≡ record s { live = live_with s h (after kind.order kind.equal (held_by s h) c); entries = s.entries + 1 })
  Granted s (view h) (viewed m) t = (m ≡ held_by s h) × (t ≡ record s { entries = s.entries + 1 })
  Granted s (freeze h q) (frozen j m) t = (j ≡ s.next) × (m ≡ held_by s h) × (t ≡ record s { jobs = with_pair nat_cmp s.jobs j (record { query = q; frozen = m }); next = s.next + 1; entries = s.entries + 1 })
  Granted s (finish j) (finished b) t = Finishes s j b t
  Granted s (finish j) unfinished t = t ≡ s
  Granted s (abandon j) made t = t ≡ record s { jobs = without nat_cmp s.jobs j; entries = s.entries + 1 }
  Granted s worker_step worked t = t ≡ s
  Granted s _ _ t = ⊥

  -- one step: a request is refused exactly where a condition holds, and then nothing changes but the number of entries
  abbrev pub Step : State K V Q → Request K V Q → Outcome K V B → State K V Q → Type 0
  Step s r (refused e) t = (refusal s r ≡ Some e) × (t ≡ record s { entries = if is_entry e then s.entries + 1 else s.entries })
  Step s r o t = (refusal s r ≡ None) × Granted s r o t

  -- the requests get the outcomes, one step after another
  abbrev pub Run : State K V Q → List (Request K V Q) → List (Outcome K V B) → State K V Q → Type 0
  Run s [] [] t = s ≡ t
  Run s (r ∷ rs) (o ∷ os) t = (m : State K V Q) × Step s r o m × Run m rs os t
  Run s _ _ t = ⊥

  -- the first requests, up to some one of them, get some outcomes, one step after another
  pub record IsRunOfSome (s : State K V Q) (rs : List (Request K V Q)) (t : State K V Q) : Type 0 where
    pub done : List (Request K V Q)
    pub left : List (Request K V Q)
    pub outcomes : List (Outcome K V B)
    pub all : rs ≡ done ++ left
    pub run : Run s done outcomes t
