use Rattle.std.proofs.Common.{rules, ◌≡◌, ◌++◌, ◌∷◌, [], refl, ◌∙◌, ap, sym, subst}
use Rattle.std.specs.Prelude.{IsTrue}
use Rattle.boxcar.specs.Table.{Shows}
use Rattle.bulk_work.specs.Answers as plain
use Rattle.bulk_work.specs.Summaries.{summary_of}
use Rattle.handles.specs.Machine.{Request, Step, finish, finished}
use Rattle.handles.specs.Views.{machine}
use Rattle.journal.specs.Journals.{Entered}
use Rattle.journal.specs.Kept.{AllOpen, WasOpenedBy, openers_of}
use Rattle.journal.specs.Tokens.{entry_at}
use Rattle.journal.proofs.Runs.{kept_more}
use Rattle.journal.proofs.Beside.{closed_still, finishes, finish_keeps, opened_stands}
use Rattle.journal.proofs.Events.{files_event, opened_in}
use Rattle.journal.proofs.Openers.{each_closed, openers_of-filter}
use Rattle.journal.proofs.journaled_table.JournaledTable.finish.Goals as goal

pub entered_finish-entered-requires : goal.entered_finish-entered-requires
entered_finish-entered-requires g c = λ asking is.
    let yes : IsTrue c.was_opened_by.result = search rules in
    let opened = opened_in _ c.self.inside.table c.args.job c.args.opener.now.value (c.was_opened_by.ensures.opened yes) (search rules) in
    c.requires.part asking (opened_stands c.self.inside.table c.args.job c.args.opener.now.value asking opened is)

pub finish-requires : goal.finish-requires
finish-requires g c = λ asking is.
    let yes : IsTrue c.was_opened_by.result = search rules in
    let opened = opened_in _ c.self.inside.table c.args.job c.args.opener.now.value (c.was_opened_by.ensures.opened yes) (search rules) in
    c.requires.part asking (opened_stands c.self.inside.table c.args.job c.args.opener.now.value asking opened is)

pub invariant_of-self-2 : goal.invariant_of-self-2
invariant_of-self-2 g c =
    let kind = machine g.K.Ord.cmp g.V.PartialEq.eq g.Q.Asks.target_of g.Q.Asks.answered in
    let l = c.self.inside in
    let r : Request g.row.K.Denot g.row.V.Denot g.row.Q.Denot = finish c.args.job in
    let p = plain.summary (g.Q.Asks.answer_of c.args.part) in
    let yes : IsTrue c.was_opened_by.result = search rules in
    let opened : WasOpenedBy l.table c.args.job c.args.opener.now.value = opened_in _ l.table c.args.job c.args.opener.now.value (c.was_opened_by.ensures.opened yes) (search rules) in
    let step : Step kind l.table r (finished p) c.finish.new.self = finishes kind l.table c.finish.new.self c.args.job opened.job p c.finish.result opened.stands c.finish.ensures.memory c.finish.ensures.told c.finish.ensures.step in
    let shows : Shows g.J.JournalName.table c.in-Ok.mine = search rules in
    let entry : entry_at c.in-Ok.mine ≡ record { seat = c.args.caller.seat; request = r; outcome = finished p } = search rules in
    let is : c.push_reserved.new.self.items ≡ l.journal.items ++ c.in-Ok.mine ∷ [] = search rules in
    let beside : AllOpen g.J.JournalName.table c.finish.new.self c.close.new.freezes.items = subst (AllOpen g.J.JournalName.table c.finish.new.self) (sym c.close.ensures.others)
    (closed_still g.J.JournalName.table l.table c.finish.new.self c.args.job l.freezes.items (λ q e. finish_keeps kind l.table c.finish.new.self c.args.job q p step e) c.self.invariant.beside) in
    kept_more kind g.J.JournalName.table l.table c.finish.new.self l.journal.items c.push_reserved.new.self.items l.freezes.items c.close.new.freezes.items c.in-Ok.mine c.args.caller.seat r (finished p)
    is c.self.invariant shows entry refl step beside
    (each_closed l.table c.finish.new.self c.args.job l.freezes.items c.close.new.freezes.items (ap (λ x. x.jobs) step.1.left) c.close.ensures.others c.self.invariant.each)

pub returns-clause-filed : goal.returns-clause-filed
returns-clause-filed g c =
    let kind = machine g.K.Ord.cmp g.V.PartialEq.eq g.Q.Asks.target_of g.Q.Asks.answered in
    let l = c.self.inside in
    let r : Request g.row.K.Denot g.row.V.Denot g.row.Q.Denot = finish c.args.job in
    let t = summary_of c.in-Ok-finish.answer in
    let filed : plain.Summary g.row.K.Denot g.row.V.Denot g.row.Q-Item.Denot → Entered g.row.K.Denot g.row.V.Denot g.row.Q.Denot (plain.Summary g.row.K.Denot g.row.V.Denot g.row.Q-Item.Denot) = λ x. record { seat = c.args.caller.seat; request = r; outcome = finished x } in
    let step : Step kind l.table r (finished t) c.finish.new.self = c.in-Ok-finish.ensures.step in
    let shows : Shows g.J.JournalName.table c.in-Ok.token = search rules in
    let entry : entry_at c.in-Ok.token ≡ filed t = c.in-Ok.ensures.entry ∙ ap filed (sym c.in-Ok-finish.ensures.told) in
    let is : c.push_reserved.new.self.items ≡ l.journal.items ++ c.in-Ok.mine ∷ [] = search rules in
    files_event kind g.J.JournalName.table l.table c.finish.new.self l.journal.items c.push_reserved.new.self.items c.in-Ok.token c.in-Ok.mine c.args.caller.seat r (finished t) _ c.args.self.now (openers_of l.freezes.items) (openers_of c.close.new.freezes.items)
    c.self.view_is is c.in-Ok.ensures.same shows entry (search rules) refl step
    (ap openers_of c.close.ensures.others ∙ openers_of-filter c.args.job l.freezes.items)

pub returns-clause-opened : goal.returns-clause-opened
returns-clause-opened g c =
    let yes : IsTrue c.was_opened_by.result = search rules in
    opened_in _ c.args.self.now.state c.args.job c.args.opener.now.value (c.was_opened_by.ensures.opened yes) (search rules)

pub returns-in_default-clause-due : goal.returns-in_default-clause-due
returns-in_default-clause-due g c = λ lacks.
    let yes : IsTrue c.was_opened_by.result = search rules in
    opened_in _ c.args.self.now.state c.args.job c.args.opener.now.value (c.was_opened_by.ensures.opened yes) (search rules)
