use Rattle.std.proofs.Common.{◌≡◌, ◌+◌, [], true, false, length, map, take, ap, sym, subst, ◌∙◌, arith}
use Rattle.std.specs.Prelude.{Result, Ok, Err, OnOk, OnErr}
use Rattle.std.specs.Result.{is_err}
use Rattle.std.proofs.lemmas.List.{length_push, take_all}
use Rattle.std.proofs.lemmas.List.Elements.{All-get_or}
use Rattle.core_steps.specs.Queries.{asked, divided}
use Rattle.core_steps.specs.Steps.{CanAsk, HasRun, Ran, asked_by}
use Rattle.core_steps.proofs.RunSteps.{steps_more, run_none, ran}
use Rattle.core_steps.proofs.cores.Core.run.Goals as goal

ok_here : {T E P : Type 0} (r : Result T E) → is_err r ≡ false → OnOk r P → P
ok_here (Ok x) e h = h
ok_here (Err x) e h = cc

err_here : {T E P : Type 0} (r : Result T E) → is_err r ≡ true → OnErr r P → P
err_here (Ok x) e h = cc
err_here (Err x) e h = h

pub one_more-requires : goal.one_more-requires
one_more-requires g c =
    subst (λ step. CanAsk g.Q.Bulk.ready (asked_by step)) (sym c.step-item.is)
    (All-get_or (λ step. CanAsk g.Q.Bulk.ready (asked_by step)) c.args.steps.now c.loop-step.step-index c.step-item.result c.loop-step-test.true c.requires)

pub loop-step-init : goal.loop-step-init
loop-step-init g c =
    let kind = asked g.K.Ord.cmp g.V.PartialEq.eq g.Q.Asks.target_of g.Q.Asks.answered in
    let division = divided g.K.PathKey.path_of g.Q.Bulk.decides in
    record {
      run = subst (λ os. HasRun kind division c.args.self.now [] os c.args.self.now) (sym c.new-outcomes.ensures.items) (run_none kind division c.args.self.now);
      count = ap length c.new-outcomes.ensures.items;
    }

pub loop-step-preserved : goal.loop-step-preserved
loop-step-preserved g c =
    let kind = asked g.K.Ord.cmp g.V.PartialEq.eq g.Q.Asks.target_of g.Q.Asks.answered in
    let division = divided g.K.PathKey.path_of g.Q.Bulk.decides in
    let made = ok_here c.one_more.result (sym c.is_err.ensures.value ∙ c.if-is_err.false) c.one_more.ensures.ok in
    let steps = c.args.steps.now in
    let done = map asked_by (take (c.loop-step.step-index + 1) steps) in
    record {
      run = subst (λ os. HasRun kind division c.args.self.now done os c.one_more.new.self) (sym made.1)
          (steps_more kind division c.args.self.now c.loop-step.self c.one_more.new.self steps c.loop-step.step-index c.step-item.result c.loop-step.outcomes.items made.0
          c.loop-step-test.true c.step-item.is c.loop-step.invariant.run made.2);
      count = omega (arith, ap length made.1, length_push c.loop-step.outcomes.items made.0, c.loop-step.invariant.count);
    }

pub returns-clause-run : goal.returns-clause-run
returns-clause-run g c =
    let kind = asked g.K.Ord.cmp g.V.PartialEq.eq g.Q.Asks.target_of g.Q.Asks.answered in
    let division = divided g.K.PathKey.path_of g.Q.Bulk.decides in
    let steps = c.args.steps.now in
    subst (λ xs. Ran kind division c.args.self.now (map asked_by xs) c.loop-step.outcomes.items c.loop-step.self) (take_all c.loop-step.step-index steps (omega (arith, c.loop-step-test.false)))
    (ran kind division c.law_of_coverings.ensures c.args.self.now c.loop-step.self (map asked_by (take c.loop-step.step-index steps)) c.loop-step.outcomes.items c.workers.ensures.core c.loop-step.invariant.run)

pub returns-then-is_err-clause-short : goal.returns-then-is_err-clause-short
returns-then-is_err-clause-short g c =
    let same = err_here c.one_more.result (sym c.is_err.ensures.value ∙ c.if-is_err.true) c.one_more.ensures.outcomes in
    omega (arith, ap length same, c.loop-step.invariant.count, c.loop-step-test.true)

pub returns-then-is_err-clause-err : goal.returns-then-is_err-clause-err
returns-then-is_err-clause-err g c =
    let kind = asked g.K.Ord.cmp g.V.PartialEq.eq g.Q.Asks.target_of g.Q.Asks.answered in
    let division = divided g.K.PathKey.path_of g.Q.Bulk.decides in
    let steps = c.args.steps.now in
    let failed = sym c.is_err.ensures.value ∙ c.if-is_err.true in
    let same = err_here c.one_more.result failed c.one_more.ensures.outcomes in
    let left = err_here c.one_more.result failed c.one_more.ensures.err in
    let so_far = ran kind division c.law_of_coverings.ensures c.args.self.now c.loop-step.self (map asked_by (take c.loop-step.step-index steps)) c.loop-step.outcomes.items c.workers.ensures.core c.loop-step.invariant.run in
    subst (λ t. Ran kind division c.args.self.now (map asked_by (take (length c.one_more.new.outcomes.items) steps)) c.one_more.new.outcomes.items t) (sym left)
    (subst (λ os. Ran kind division c.args.self.now (map asked_by (take (length os) steps)) os c.loop-step.self) (sym same)
    (subst (λ n. Ran kind division c.args.self.now (map asked_by (take n steps)) c.loop-step.outcomes.items c.loop-step.self) (sym c.loop-step.invariant.count) so_far))
