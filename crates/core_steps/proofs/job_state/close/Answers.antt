use Rattle.std.proofs.Common.{rules, ◌≡◌, filter, ap, ◌∙◌}
use Rattle.std.proofs.lemmas.Fn.{filter_same}
use Rattle.core_steps.specs.JobStates.{job_states_of}
use Rattle.core_steps.proofs.JobStateLemmas.{other_job_state, job_states_without}
use Rattle.core_steps.proofs.job_state.close.Goals as goal

pub returns : goal.returns
returns g c =
    let kept : c.retain.new.self.items ≡ filter (other_job_state c.args.number) c.args.job_states.now.items = filter_same _ _ _ (λ x b f' k. search rules) _ _ c.retain.ensures.filtered in
    ap job_states_of kept ∙ job_states_without c.args.job_states.now.items c.args.number
