use Rattle.std.proofs.Common.{◌≡◌, drop}
use Rattle.std.specs.Ordering.{nat_cmp}
use Rattle.versions.specs.Map.{value_at}
use Rattle.core_steps.specs.JobStates.{job_states_of}
use Rattle.core_steps.proofs.job_state.place_of.Given as goal

-- the job is among those that are left
abbrev pub invariant-loop-job_state : goal.invariant-loop-job_state
invariant-loop-job_state g l = record {
  place : l.place ≡ l.job_state-index;
  left : value_at nat_cmp (job_states_of (drop l.job_state-index l.job_states)) l.number ≡ value_at nat_cmp (job_states_of l.job_states) l.number;
}
