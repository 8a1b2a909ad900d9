use Rattle.std.proofs.Common.{rules, ◌≡◌, ◌++◌, ◌∷◌, [], refl, ◌∙◌, ap, sym, subst}
use Rattle.std.specs.Prelude.{IsTrue}
use Rattle.boxcar.specs.Table.{Shows}
use Rattle.handles.specs.Machine.{Request, Step, abandon, made}
use Rattle.handles.specs.Views.{machine}
use Rattle.journal.specs.Kept.{AllOpen, WasOpenedBy, openers_of}
use Rattle.journal.specs.Tokens.{entry_at}
use Rattle.journal.proofs.Runs.{kept_more}
use Rattle.journal.proofs.Beside.{closed_still, abandons, abandon_keeps}
use Rattle.journal.proofs.Events.{files_event, opened_in}
use Rattle.journal.proofs.Openers.{each_closed, openers_of-filter}
use Rattle.journal.proofs.journaled_table.JournaledTable.abandon.Goals as goal

pub invariant_of-self-2 : goal.invariant_of-self-2
invariant_of-self-2 g c =
    let kind = machine g.K.Ord.cmp g.V.PartialEq.eq g.Q.Asks.target_of g.Q.Asks.answered in
    let l = c.self.inside in
    let r : Request g.row.K.Denot g.row.V.Denot g.row.Q.Denot = abandon c.args.job in
    let yes : IsTrue c.was_opened_by.result = search rules in
    let opened : WasOpenedBy l.table c.args.job c.args.opener.now.value = opened_in _ l.table c.args.job c.args.opener.now.value (c.was_opened_by.ensures.opened yes) (search rules) in
    let step : Step kind l.table r made c.abandon.new.self = abandons kind l.table c.abandon.new.self c.args.job opened.job c.abandon.result opened.stands c.abandon.ensures.memory c.abandon.ensures.step in
    let shows : Shows g.J.JournalName.table c.in_ok-token.mine = search rules in
    let entry : entry_at c.in_ok-token.mine ≡ record { seat = c.args.caller.seat; request = r; outcome = made } = search rules in
    let is : c.push_reserved.new.self.items ≡ l.journal.items ++ c.in_ok-token.mine ∷ [] = search rules in
    let beside : AllOpen g.J.JournalName.table c.abandon.new.self c.close.new.freezes.items = subst (AllOpen g.J.JournalName.table c.abandon.new.self) (sym c.close.ensures.others)
    (closed_still g.J.JournalName.table l.table c.abandon.new.self c.args.job l.freezes.items (λ q e. abandon_keeps kind l.table c.abandon.new.self c.args.job q step e) c.self.invariant.beside) in
    kept_more kind g.J.JournalName.table l.table c.abandon.new.self l.journal.items c.push_reserved.new.self.items l.freezes.items c.close.new.freezes.items c.in_ok-token.mine c.args.caller.seat r made
    is c.self.invariant shows entry refl step beside
    (each_closed l.table c.abandon.new.self c.args.job l.freezes.items c.close.new.freezes.items (ap (λ x. x.jobs) step.1) c.close.ensures.others c.self.invariant.each)

pub returns-clause-filed : goal.returns-clause-filed
returns-clause-filed g c =
    let kind = machine g.K.Ord.cmp g.V.PartialEq.eq g.Q.Asks.target_of g.Q.Asks.answered in
    let l = c.self.inside in
    let r : Request g.row.K.Denot g.row.V.Denot g.row.Q.Denot = abandon c.args.job in
    let yes : IsTrue c.was_opened_by.result = search rules in
    let opened : WasOpenedBy l.table c.args.job c.args.opener.now.value = opened_in _ l.table c.args.job c.args.opener.now.value (c.was_opened_by.ensures.opened yes) (search rules) in
    let step : Step kind l.table r made c.abandon.new.self = abandons kind l.table c.abandon.new.self c.args.job opened.job c.abandon.result opened.stands c.abandon.ensures.memory c.abandon.ensures.step in
    let shows : Shows g.J.JournalName.table c.in_ok-token.token = search rules in
    let entry : entry_at c.in_ok-token.token ≡ record { seat = c.args.caller.seat; request = r; outcome = made } = search rules in
    let is : c.push_reserved.new.self.items ≡ l.journal.items ++ c.in_ok-token.mine ∷ [] = search rules in
    files_event kind g.J.JournalName.table l.table c.abandon.new.self l.journal.items c.push_reserved.new.self.items c.in_ok-token.token c.in_ok-token.mine c.args.caller.seat r made _ c.args.self.now (openers_of l.freezes.items) (openers_of c.close.new.freezes.items)
    c.self.view_is is c.in_ok-token.ensures.same shows entry (search rules) refl step
    (ap openers_of c.close.ensures.others ∙ openers_of-filter c.args.job l.freezes.items)

pub returns-clause-opened : goal.returns-clause-opened
returns-clause-opened g c =
    let yes : IsTrue c.was_opened_by.result = search rules in
    opened_in _ c.args.self.now.state c.args.job c.args.opener.now.value (c.was_opened_by.ensures.opened yes) (search rules)
