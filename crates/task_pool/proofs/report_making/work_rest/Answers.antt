use Rattle.std.proofs.Common.{◌++◌, ap, sym, subst, arith}
use Rattle.std.specs.Prelude.{All}
use Rattle.std.proofs.lemmas.List.Elements.{All-nil}
use Rattle.iter.specs.Intervals.{AreApart, cover}
use Rattle.task_pool.proofs.report_making.work_rest.Goals as goal

pub work_leftovers-requires-clause-apart : goal.work_leftovers-requires-clause-apart
work_leftovers-requires-clause-apart g c = subst (λ xs. AreApart (xs ++ c.args.leftover.items)) (sym c.in-Ok.ensures) c.requires.apart

pub returns-clause-mine : goal.returns-clause-mine
returns-clause-mine g c = λ p. omega (arith, c.in_ok-mine.ensures.did p, ap (λ x. cover x p) c.in-Ok.ensures)

pub returns-clause-asked : goal.returns-clause-asked
returns-clause-asked g c =
    let Asked = g.G.Gate.asked c.args.shared.now.gate.now in
    let none : All (Asked c.args.workers) c.in-Ok.none = subst (All (Asked c.args.workers)) (sym c.in-Ok.ensures) (All-nil (Asked c.args.workers)) in
    subst (All (Asked c.args.workers)) (sym c.in-Ok-list.ensures) (c.in_ok-mine.ensures.asked none)
