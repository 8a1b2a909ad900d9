use Rattle.std.proofs.Common.{rules, ◌≡◌, filter, sym, ap, subst, ◌∙◌, arith}
use Rattle.std.proofs.lemmas.Fn.{filter_same}
use Rattle.std.specs.Ordering.{nat_cmp}
use Rattle.versions.specs.Map.{without}
use Rattle.handles.specs.Jobs.{AllBelow, Opened, jobs_of, other_job}
use Rattle.handles.proofs.JobLists.{below_kept, jobs_of-filter}
use Rattle.handles.proofs.jobs.Jobs.close.Goals as goal

pub invariant_of-self : goal.invariant_of-self
invariant_of-self g c =
    let kept : c.retain.new.self.items ≡ filter (other_job c.args.number) c.self.inside.open.items = filter_same _ _ _ (λ x b f' k. search rules) _ _ c.retain.ensures.filtered in (
      subst (AllBelow c.self.inside.next) (sym kept) (below_kept c.self.inside.next (other_job c.args.number) c.self.inside.open.items c.self.invariant.0),
      omega (arith, c.retain.ensures.bound),
      omega (arith, c.retain.ensures.capacity),
    )

pub returns-clause-jobs : goal.returns-clause-jobs
returns-clause-jobs g c =
    let kept : c.retain.new.self.items ≡ filter (other_job c.args.number) c.self.inside.open.items = filter_same _ _ _ (λ x b f' k. search rules) _ _ c.retain.ensures.filtered in
    ap jobs_of kept
    ∙ jobs_of-filter c.args.number c.self.inside.open.items
    ∙ ap (λ (o : Opened g.row.K.Denot g.row.V.Denot g.row.Q.Denot). without nat_cmp o.jobs c.args.number) c.self.view_is
