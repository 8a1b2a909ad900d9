use Rattle.std.proofs.Common.{◌+◌, length, refl, sym, ap, subst, ◌∙◌, arith}
use Rattle.std.proofs.lemmas.List.{length-map}
use Rattle.std.specs.Ordering.{nat_cmp}
use Rattle.versions.specs.Map.{with_pair}
use Rattle.handles.specs.declared.jobs.OpenJob.{OpenJob}
use Rattle.handles.specs.Jobs.{AllBelow, Opened, jobs_of}
use Rattle.handles.proofs.JobLists.{below_push, jobs_of-push}
use Rattle.handles.proofs.jobs.Jobs.add.Goals as goal

pub invariant_of-self : goal.invariant_of-self
invariant_of-self g c =
    let o : OpenJob g.row.K.Denot g.row.V.Denot g.row.Q.Denot = record { number = c.self.inside.next; query = c.args.query; view = c.args.view } in (
      subst (AllBelow (c.self.inside.next + 1)) (sym c.push_reserved.ensures.items) (below_push c.self.inside.next o c.self.inside.open.items refl c.self.invariant.0),
      omega (arith, simp length-map at (ap (λ (o : Opened g.row.K.Denot g.row.V.Denot g.row.Q.Denot). length o.jobs) c.self.view_is), c.push_reserved.ensures.len),
      omega (arith, c.push_reserved.ensures.capacity),
    )

pub returns-clause-jobs : goal.returns-clause-jobs
returns-clause-jobs g c =
    let o : OpenJob g.row.K.Denot g.row.V.Denot g.row.Q.Denot = record { number = c.self.inside.next; query = c.args.query; view = c.args.view } in
    ap jobs_of c.push_reserved.ensures.items
    ∙ jobs_of-push o c.self.inside.open.items c.self.invariant.0
    ∙ (λ i. with_pair nat_cmp (c.self.view_is i).jobs (c.self.view_is i).next (record { query = c.args.query.value; frozen = c.args.view }))
