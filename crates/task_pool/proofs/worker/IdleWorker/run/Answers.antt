use Rattle.std.proofs.Common.{ap, sym, subst, ◌∙◌, arith}
use Rattle.iter.specs.Intervals.{cover, whole}
use Rattle.ruled_deques.specs.EndsView.{given}
use Rattle.task_pool.specs.Asked.{KeepsAsked}
use Rattle.partial_results.specs.Worked.{once}
use Rattle.task_pool.proofs.Asked.{kept_at, kept_both}
use Rattle.task_pool.proofs.worker.IdleWorker.run.Goals as goal
use Rattle.task_pool.proofs.worker.IdleWorker.run.Goals.{in-Some+in_ok-state-in-Some+then-is_settled, in-Some+in_ok-state-in-Some+else-is_settled, in-None+else-failed-shared, else-loop-test, then-loop-test+then-is_stopped, then-loop-test+else-is_stopped+in-None+then-failed-shared}

pub loop-preserved : goal.loop-preserved
loop-preserved g c =
    let Asked = g.G.Gate.asked c.args.shared.now.gate.now in
    let first = c.args.self.state in
    elim c.match-take.branch [
      | in-Some+in_ok-state-in-Some+then-is_settled w ↦ (
        ap (λ s. s.ends.place) w.state-is ∙ w.in_ok-state-in-Some.ensures.same.0 ∙ w.in-Some.ensures.same.0 ∙ c.loop.invariant.0,
        λ p. omega (
          arith,
          ap (λ n. cover (given whole n) p) (ap (λ s. s.ends.place) w.state-is ∙ w.in_ok-state-in-Some.ensures.same.0 ∙ w.in-Some.ensures.same.0),
          ap (λ s. cover s.ends.taken p) w.state-is,
          ap (λ s. cover s.ends.pushed p) w.state-is,
          ap (λ s. cover s.partial p) w.state-is,
          ap (λ s. cover s.leftover.items p) w.state-is,
          ap (λ xs. cover xs p) w.in_ok-state-in-Some.ensures.same.1,
          w.in_ok-state-in-Some.ensures.did p,
          w.in-Some.ensures.took (λ i. once i p),
          ap (λ xs. cover xs p) w.in-Some.ensures.same.1,
          c.loop.invariant.1 p,
        ),
        subst (λ s. KeepsAsked Asked first.ends.place first.partial s.partial) (sym w.state-is)
            (kept_both Asked first.ends.place first.partial c.loop.state.partial w.in_ok-state-in-Some.state.partial c.loop.invariant.2 (kept_at Asked _ _ _ _ (w.in-Some.ensures.same.0 ∙ c.loop.invariant.0) w.in_ok-state-in-Some.ensures.asked)),
      )
      | in-Some+in_ok-state-in-Some+else-is_settled w ↦ (
        ap (λ s. s.ends.place) w.state-is ∙ w.in_ok-state-in-Some.ensures.same.0 ∙ w.in-Some.ensures.same.0 ∙ c.loop.invariant.0,
        λ p. omega (
          arith,
          ap (λ n. cover (given whole n) p) (ap (λ s. s.ends.place) w.state-is ∙ w.in_ok-state-in-Some.ensures.same.0 ∙ w.in-Some.ensures.same.0),
          ap (λ s. cover s.ends.taken p) w.state-is,
          ap (λ s. cover s.ends.pushed p) w.state-is,
          ap (λ s. cover s.partial p) w.state-is,
          ap (λ s. cover s.leftover.items p) w.state-is,
          ap (λ xs. cover xs p) w.in_ok-state-in-Some.ensures.same.1,
          w.in_ok-state-in-Some.ensures.did p,
          w.in-Some.ensures.took (λ i. once i p),
          ap (λ xs. cover xs p) w.in-Some.ensures.same.1,
          c.loop.invariant.1 p,
        ),
        subst (λ s. KeepsAsked Asked first.ends.place first.partial s.partial) (sym w.state-is)
            (kept_both Asked first.ends.place first.partial c.loop.state.partial w.in_ok-state-in-Some.state.partial c.loop.invariant.2 (kept_at Asked _ _ _ _ (w.in-Some.ensures.same.0 ∙ c.loop.invariant.0) w.in_ok-state-in-Some.ensures.asked)),
      )
      | in-None+else-failed-shared w ↦ (
        ap (λ s. s.ends.place) w.state-is ∙ w.in-None.ensures.same.0 ∙ c.loop.invariant.0,
        λ p. omega (
          arith,
          ap (λ n. cover (given whole n) p) (ap (λ s. s.ends.place) w.state-is ∙ w.in-None.ensures.same.0),
          ap (λ s. cover s.ends.taken p) w.state-is,
          ap (λ s. cover s.ends.pushed p) w.state-is,
          ap (λ s. cover s.partial p) w.state-is,
          ap (λ s. cover s.leftover.items p) w.state-is,
          w.in-None.ensures.took (λ i. once i p),
          ap (λ xs. cover xs p) w.in-None.ensures.same.1,
          c.loop.invariant.1 p,
        ),
        subst (λ s. KeepsAsked Asked first.ends.place first.partial s.partial) (sym w.state-is) c.loop.invariant.2,
      )
    ]

pub invariant_of-result : goal.invariant_of-result
invariant_of-result g c = record {
  balance = λ p. elim c.loop-test.branch [
    | else-loop-test w ↦ omega (
      arith,
      ap (λ s. cover (given whole s.ends.place) p) w.state-is,
      ap (λ s. cover s.ends.taken p) w.state-is,
      ap (λ s. cover s.ends.pushed p) w.state-is,
      ap (λ s. cover s.partial p) w.state-is,
      ap (λ s. cover s.leftover.items p) w.state-is,
      c.loop.invariant.1 p,
    )
    | then-loop-test+then-is_stopped w ↦ omega (
      arith,
      ap (λ s. cover (given whole s.ends.place) p) w.state-is,
      ap (λ s. cover s.ends.taken p) w.state-is,
      ap (λ s. cover s.ends.pushed p) w.state-is,
      ap (λ s. cover s.partial p) w.state-is,
      ap (λ s. cover s.leftover.items p) w.state-is,
      c.loop.invariant.1 p,
    )
    | then-loop-test+else-is_stopped+in-None+then-failed-shared w ↦ omega (
      arith,
      ap (λ n. cover (given whole n) p) (ap (λ s. s.ends.place) w.state-is ∙ w.in-None.ensures.same.0),
      ap (λ s. cover s.ends.taken p) w.state-is,
      ap (λ s. cover s.ends.pushed p) w.state-is,
      ap (λ s. cover s.partial p) w.state-is,
      ap (λ s. cover s.leftover.items p) w.state-is,
      w.in-None.ensures.took (λ i. once i p),
      ap (λ xs. cover xs p) w.in-None.ensures.same.1,
      c.loop.invariant.1 p,
    )
  ];
}

pub returns-clause-place : goal.returns-clause-place
returns-clause-place g c = elim c.loop-test.branch [
  | else-loop-test w ↦ ap (λ s. s.ends.place) w.state-is ∙ c.loop.invariant.0
  | then-loop-test+then-is_stopped w ↦ ap (λ s. s.ends.place) w.state-is ∙ c.loop.invariant.0
  | then-loop-test+else-is_stopped+in-None+then-failed-shared w ↦ ap (λ s. s.ends.place) w.state-is ∙ w.in-None.ensures.same.0 ∙ c.loop.invariant.0
]

pub returns-clause-asked : goal.returns-clause-asked
returns-clause-asked g c =
    let Asked = g.G.Gate.asked c.args.shared.now.gate.now in
    let first = c.args.self.state in
    elim c.loop-test.branch [
      | else-loop-test w ↦ subst (λ s. KeepsAsked Asked first.ends.place first.partial s.partial) (sym w.state-is) c.loop.invariant.2
      | then-loop-test+then-is_stopped w ↦ subst (λ s. KeepsAsked Asked first.ends.place first.partial s.partial) (sym w.state-is) c.loop.invariant.2
      | then-loop-test+else-is_stopped+in-None+then-failed-shared w ↦ subst (λ s. KeepsAsked Asked first.ends.place first.partial s.partial) (sym w.state-is) c.loop.invariant.2
    ]
