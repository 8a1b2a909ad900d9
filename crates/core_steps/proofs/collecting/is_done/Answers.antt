use Rattle.std.proofs.Common.{rules, ◌≡◌, true, false, is_none, refl, sym, ◌∙◌, arith}
use Rattle.std.proofs.lemmas.Bool.{false≢true}
use Rattle.core_steps.proofs.Collections.{none_left, held_waits, queue_waits, none_waits_here}
use Rattle.core_steps.proofs.collecting.is_done.Goals as goal

pub loop-worker_state-preserved : goal.loop-worker_state-preserved
loop-worker_state-preserved g c =
    let d = c.worker_state-item.result in
    let free : is_none d.held ≡ true = search rules in
    sym (none_waits_here c.args.worker_states.now c.loop-worker_state.worker_state-index d (omega arith) c.worker_state-item.is free (λ some. omega (arith, some, c.waiting-count.ensures))) ∙ c.loop-worker_state.invariant

pub returns-then-not-free : goal.returns-then-not-free
returns-then-not-free g c =
    let d = c.worker_state-item.result in
    let held : is_none d.held ≡ false = search rules in (
      λ yes. absurd (false≢true yes),
      λ none. absurd (held_waits c.args.worker_states.now c.loop-worker_state.worker_state-index d (omega arith) c.worker_state-item.is held (c.loop-worker_state.invariant ∙ none)),
    )

pub returns-then-count-gt0 : goal.returns-then-count-gt0
returns-then-count-gt0 g c =
    let d = c.worker_state-item.result in (
      λ yes. absurd (false≢true yes),
      λ none. absurd (queue_waits c.args.worker_states.now c.loop-worker_state.worker_state-index d (omega arith) c.worker_state-item.is (omega (arith, c.waiting-count.ensures)) (c.loop-worker_state.invariant ∙ none)),
    )

pub returns : goal.returns
returns g c = (λ yes. sym c.loop-worker_state.invariant ∙ none_left c.args.worker_states.now c.loop-worker_state.worker_state-index (omega arith), λ none. refl)
