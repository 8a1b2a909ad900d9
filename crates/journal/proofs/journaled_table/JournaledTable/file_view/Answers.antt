use Rattle.std.proofs.Common.{rules, ◌≡◌, ◌++◌, ◌∷◌, [], false, refl, sym, subst}
use Rattle.boxcar.specs.Table.{Shows}
use Rattle.handles.specs.Machine.{Request, Step, view}
use Rattle.handles.specs.Views.{Foresees, machine, view_outcome, lacks_memory}
use Rattle.journal.specs.Answers.{answered}
use Rattle.journal.specs.Kept.{openers_of}
use Rattle.journal.specs.Tokens.{entry_at}
use Rattle.journal.proofs.Foresight.{step_as_foreseen, filed_as_counted}
use Rattle.journal.proofs.Runs.{kept_more, open_still}
use Rattle.journal.proofs.Events.{files_event}
use Rattle.journal.proofs.Openers.{each_still}
use Rattle.journal.proofs.journaled_table.JournaledTable.file_view.Goals as goal

pub invariant_of-self-2 : goal.invariant_of-self-2
invariant_of-self-2 g c =
    let kind = machine g.K.Ord.cmp g.V.PartialEq.eq g.Q.Asks.target_of g.Q.Asks.answered in
    let l = c.self.inside in
    let r : Request g.row.K.Denot g.row.V.Denot g.row.Q.Denot = view c.args.handle in
    let sees : Foresees kind l.table r view_outcome c.args.answer = subst (λ x. Foresees kind x.state r view_outcome c.args.answer) (sym c.self.view_is) c.requires.foreseen in
    let has : lacks_memory c.view-shown.result ≡ false = search rules in
    let step : Step kind l.table r (answered view_outcome c.args.answer) c.view-shown.new.self = step_as_foreseen kind l.table c.view-shown.new.self r view_outcome c.args.answer c.view-shown.result c.law_of_foresight.ensures refl sees c.requires.counted c.view-shown.ensures.step has in
    let shows : Shows g.J.JournalName.table c.in-Ok.mine = search rules in
    let entry : entry_at c.in-Ok.mine ≡ record { seat = c.args.caller.seat; request = r; outcome = answered view_outcome c.args.answer } = search rules in
    let is : c.push_reserved.new.self.items ≡ l.journal.items ++ c.in-Ok.mine ∷ [] = search rules in
    let jobs = c.law_of_open_jobs.ensures l.table c.view-shown.new.self r (answered view_outcome c.args.answer) refl refl step in
    kept_more kind g.J.JournalName.table l.table c.view-shown.new.self l.journal.items c.push_reserved.new.self.items l.freezes.items l.freezes.items c.in-Ok.mine c.args.caller.seat r (answered view_outcome c.args.answer)
    is c.self.invariant shows entry (filed_as_counted kind view_outcome c.args.answer (λ m. refl) c.requires.counted) step
    (open_still g.J.JournalName.table l.table c.view-shown.new.self l.freezes.items jobs c.self.invariant.beside) (each_still l.table c.view-shown.new.self l.freezes.items jobs c.self.invariant.each)

pub returns-clause-filed : goal.returns-clause-filed
returns-clause-filed g c =
    let kind = machine g.K.Ord.cmp g.V.PartialEq.eq g.Q.Asks.target_of g.Q.Asks.answered in
    let l = c.self.inside in
    let r : Request g.row.K.Denot g.row.V.Denot g.row.Q.Denot = view c.args.handle in
    let sees : Foresees kind l.table r view_outcome c.args.answer = subst (λ x. Foresees kind x.state r view_outcome c.args.answer) (sym c.self.view_is) c.requires.foreseen in
    let has : lacks_memory c.view-shown.result ≡ false = search rules in
    let step : Step kind l.table r (answered view_outcome c.args.answer) c.view-shown.new.self = step_as_foreseen kind l.table c.view-shown.new.self r view_outcome c.args.answer c.view-shown.result c.law_of_foresight.ensures refl sees c.requires.counted c.view-shown.ensures.step has in
    let shows : Shows g.J.JournalName.table c.in-Ok.token = search rules in
    let entry : entry_at c.in-Ok.token ≡ record { seat = c.args.caller.seat; request = r; outcome = answered view_outcome c.args.answer } = search rules in
    let is : c.push_reserved.new.self.items ≡ l.journal.items ++ c.in-Ok.mine ∷ [] = search rules in
    files_event kind g.J.JournalName.table l.table c.view-shown.new.self l.journal.items c.push_reserved.new.self.items c.in-Ok.token c.in-Ok.mine c.args.caller.seat r (answered view_outcome c.args.answer) _ c.args.self.now (openers_of l.freezes.items) (openers_of l.freezes.items)
    c.self.view_is is c.in-Ok.ensures.same shows entry (search rules) (filed_as_counted kind view_outcome c.args.answer (λ m. refl) c.requires.counted) step refl
