-- The open jobs of a table, as they stand in a vector.
use Rattle.std.specs.Prelude.{◌≡◌, ◌≤◌, ◌<◌, ◌+◌, ℕ, List, [], ◌∷◌, map, Bool, not, ◌==◌, Option, Some, None, length}
use Rattle.std.specs.Arc.{arc_value}
use Rattle.std.specs.Ordering.{nat_cmp}
use Rattle.versions.specs.Map.{Map, value_at, with_pair, without}
use Rattle.bulk_work.specs.Answers as plain
use Rattle.bulk_work.specs.Summaries.{summary_of}
use Rattle.bulk_work.specs.declared.asks.Answer.{Answer}
pub use Rattle.held_maps.specs.Targets.{FitsIn, IsLoose, IsPlace, live_with_made, stamps_with_made}
use Rattle.handles.specs.Machine.{Job}
use Rattle.handles.specs.Handles.{HeldMaps}
use Rattle.handles.specs.declared.jobs.OpenJob.{OpenJob}

-- an open job, under its number
abbrev pub job_of : {K V Q : Type 0} → OpenJob K V Q → ℕ × Job K V Q
job_of o = (o.number, record { query = arc_value o.query; frozen = o.view })

-- the open jobs, each under its number
abbrev pub jobs_of : {K V Q : Type 0} → List (OpenJob K V Q) → Map ℕ (Job K V Q)
jobs_of os = map job_of os

-- whether it is another job
abbrev pub other_job : {K V Q : Type 0} → ℕ → OpenJob K V Q → Bool
other_job n o = not (o.number == n)

-- the numbers are below n
abbrev pub AllBelow : {K V Q : Type 0} → ℕ → List (OpenJob K V Q) → Type 0
AllBelow n [] = Unit {0}
AllBelow n (o ∷ os) = (o.number < n) × AllBelow n os

-- what contracts see of the jobs: the open job of each number, and the number of the next
pub record Opened (K V Q : Type 0) : Type 0 where
  pub jobs : Map ℕ (Job K V Q)
  pub next : ℕ

-- a job that can be finished where a map has at most `limit` pairs: its frozen map has no more, and its target is the number of a place
pub record CanFinish {K V Q : Type 0} (target : Q → Option ℕ) (limit : ℕ) (job : Job K V Q) : Type 0 where
  pub fits : length job.frozen ≤ limit
  pub place : IsPlace (target job.query)

-- each of the jobs can be finished
abbrev pub AllCanFinish : {K V Q : Type 0} → (Q → Option ℕ) → ℕ → Map ℕ (Job K V Q) → Type 0
AllCanFinish target limit [] = Unit {0}
AllCanFinish target limit (j ∷ js) = CanFinish target limit j.1 × AllCanFinish target limit js

-- the live maps once a target, if there is one, has the answer's map
abbrev pub live_with_answer : {K V I : Type 0} → Map ℕ (Map K V) → Option ℕ → plain.Answer K V I → Map ℕ (Map K V)
live_with_answer live None a = live
live_with_answer live (Some to) a = with_pair nat_cmp live to (plain.map_of a)

-- the stamps of the live handles once a target, if there is one, has this stamp
abbrev pub stamps_with_target : Map ℕ ℕ → ℕ → Option ℕ → Map ℕ ℕ
stamps_with_target stamps stamp None = stamps
stamps_with_target stamps stamp (Some to) = with_pair nat_cmp stamps to stamp

-- the query of the open job has an answer for its frozen map, which is returned: the job is closed, and a target is live with the answer's map and with the stamp that is issued next
pub record Concludes {K V Q I : Type 0} (target : Q → Option ℕ) (answers : Q → Map K V → plain.Answer K V I → Type 0) (places : HeldMaps K V) (jobs : Opened K V Q) (j : ℕ) (told : Answer K V I) (places_after : HeldMaps K V) (jobs_after : Opened K V Q) : Type 0 where
  pub job : Job K V Q
  pub answer : plain.Answer K V I
  pub named : value_at nat_cmp jobs.jobs j ≡ Some job
  pub is_answer : answers job.query job.frozen answer
  pub is_told : summary_of told ≡ plain.summary answer
  pub live : places_after.live ≡ live_with_answer places.live (target job.query) answer
  pub fresh : places_after.stamps ≡ stamps_with_target places.stamps (places.issued + 1) (target job.query)
  pub closed : jobs_after.jobs ≡ without nat_cmp jobs.jobs j
  pub kept : jobs_after.next ≡ jobs.next

-- the query of the open job has an answer for its frozen map, of which this is reported
pub record Tells {K V Q I : Type 0} (answers : Q → Map K V → plain.Answer K V I → Type 0) (jobs : Opened K V Q) (j : ℕ) (told : Answer K V I) : Type 0 where
  pub job : Job K V Q
  pub answer : plain.Answer K V I
  pub named : value_at nat_cmp jobs.jobs j ≡ Some job
  pub is_answer : answers job.query job.frozen answer
  pub is_told : summary_of told ≡ plain.summary answer
