use Rattle.std.proofs.Common.{rules, ◌≡◌, Some, sym, subst}
use Rattle.std.specs.Ordering.{nat_cmp}
use Rattle.versions.specs.Map.{value_at}
use Rattle.handles.specs.Machine.{Job}
use Rattle.handles.specs.Jobs.{job_of}
use Rattle.handles.proofs.table.ends.tell_job.Goals as goal

pub tell-requires : goal.tell-requires
tell-requires g c =
    let j = (job_of c.in-Some.open.now).1 in
    let named : value_at nat_cmp c.args.jobs.now.jobs c.args.job ≡ Some j = search rules in
    ∣ (j.frozen, subst (λ q. g.Q.Bulk.answers q j.frozen c.args.part.now) (sym c.deref.ensures) (c.requires j named)) ∣₁

pub returns-in_ok-tell-in-Some-clause-tells : goal.returns-in_ok-tell-in-Some-clause-tells
returns-in_ok-tell-in-Some-clause-tells g c =
    let j : Job g.row.K.Denot g.row.V.Denot g.row.Q.Denot = (job_of c.in-Some.open.now).1 in
    let named : value_at nat_cmp c.args.jobs.now.jobs c.args.job ≡ Some j = search rules in
    let answer = g.Q.Asks.answer_of c.args.part.now in
    let answers = subst (λ q. g.Q.Bulk.answers q j.frozen c.args.part.now) (sym c.deref.ensures) (c.requires j named) in
    record {
      job = j;
      answer = answer;
      named = named;
      is_answer = subst (λ q. g.Q.Asks.answered q j.frozen answer) c.deref.ensures (c.tell.ensures.answered j.frozen answers);
      is_told = c.in_ok-tell-in-Some.ensures.told;
    }
