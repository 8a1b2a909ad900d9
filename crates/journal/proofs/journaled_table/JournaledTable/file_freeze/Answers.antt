use Rattle.std.proofs.Common.{rules, ◌≡◌, ◌++◌, ◌∷◌, [], false, refl, sym, ◌∙◌, subst}
use Rattle.std.specs.Arc.{arc_value}
use Rattle.boxcar.specs.Table.{Shows}
use Rattle.handles.specs.Machine.{Request, Step, freeze}
use Rattle.handles.specs.Views.{Foresees, machine, frozen_outcome, lacks_memory}
use Rattle.journal.specs.Answers.{answered}
use Rattle.journal.specs.Kept.{IsKept, openers_of}
use Rattle.journal.specs.Tokens.{entry_at}
use Rattle.journal.proofs.Foresight.{step_as_foreseen, filed_as_counted, stays_where_lacking}
use Rattle.journal.proofs.Runs.{kept_more}
use Rattle.journal.proofs.Events.{files_event, frozen_after}
use Rattle.journal.proofs.Openers.{each_frozen, openers_frozen}
use Rattle.journal.proofs.journaled_table.JournaledTable.file_freeze.Goals as goal

pub invariant_of-self-2 : goal.invariant_of-self-2
invariant_of-self-2 g c =
    let kind = machine g.K.Ord.cmp g.V.PartialEq.eq g.Q.Asks.target_of g.Q.Asks.answered in
    let l = c.self.inside in
    let r : Request g.row.K.Denot g.row.V.Denot g.row.Q.Denot = freeze c.args.handle (arc_value c.args.query) in
    let sees : Foresees kind l.table r frozen_outcome c.args.answer = subst (λ x. Foresees kind x.state r frozen_outcome c.args.answer) (sym c.self.view_is) c.requires.foreseen in
    let has : lacks_memory c.freeze-frozen.result ≡ false = search rules in
    let step : Step kind l.table r (answered frozen_outcome c.args.answer) c.freeze-frozen.new.self = step_as_foreseen kind l.table c.freeze-frozen.new.self r frozen_outcome c.args.answer c.freeze-frozen.result c.law_of_foresight.ensures refl sees c.requires.counted c.freeze-frozen.ensures.step has in
    let shows : Shows g.J.JournalName.table c.in-Ok.mine = search rules in
    let entry : entry_at c.in-Ok.mine ≡ record { seat = c.args.caller.seat; request = r; outcome = answered frozen_outcome c.args.answer } = search rules in
    let is : c.push_reserved.new.self.items ≡ l.journal.items ++ c.in-Ok.mine ∷ [] = search rules in
    let beside = frozen_after kind g.J.JournalName.table l.table c.freeze-frozen.new.self c.args.handle c.args.caller.seat (arc_value c.args.query) c.args.answer l.freezes.items _ c.set_beside.new.freezes.items (λ n. record { number = n; token = c.again.result })
    c.law_of_freezes.ensures (λ n. refl) (λ n. search rules) (λ n. search rules) step c.set_beside.ensures (search rules) c.self.invariant.beside in
    let each = each_frozen kind l.table c.freeze-frozen.new.self c.args.handle (arc_value c.args.query) c.args.answer l.freezes.items _ c.set_beside.new.freezes.items (λ n. record { number = n; token = c.again.result })
    (λ n. refl) step c.set_beside.ensures (search rules) c.self.invariant.each in
    kept_more kind g.J.JournalName.table l.table c.freeze-frozen.new.self l.journal.items c.push_reserved.new.self.items l.freezes.items c.set_beside.new.freezes.items c.in-Ok.mine c.args.caller.seat r (answered frozen_outcome c.args.answer)
    is c.self.invariant shows entry (filed_as_counted kind frozen_outcome c.args.answer (λ x. refl) c.requires.counted) step beside each

pub returns-clause-filed : goal.returns-clause-filed
returns-clause-filed g c =
    let kind = machine g.K.Ord.cmp g.V.PartialEq.eq g.Q.Asks.target_of g.Q.Asks.answered in
    let l = c.self.inside in
    let r : Request g.row.K.Denot g.row.V.Denot g.row.Q.Denot = freeze c.args.handle (arc_value c.args.query) in
    let sees : Foresees kind l.table r frozen_outcome c.args.answer = subst (λ x. Foresees kind x.state r frozen_outcome c.args.answer) (sym c.self.view_is) c.requires.foreseen in
    let has : lacks_memory c.freeze-frozen.result ≡ false = search rules in
    let step : Step kind l.table r (answered frozen_outcome c.args.answer) c.freeze-frozen.new.self = step_as_foreseen kind l.table c.freeze-frozen.new.self r frozen_outcome c.args.answer c.freeze-frozen.result c.law_of_foresight.ensures refl sees c.requires.counted c.freeze-frozen.ensures.step has in
    let shows : Shows g.J.JournalName.table c.in-Ok.token = search rules in
    let entry : entry_at c.in-Ok.token ≡ record { seat = c.args.caller.seat; request = r; outcome = answered frozen_outcome c.args.answer } = search rules in
    let is : c.push_reserved.new.self.items ≡ l.journal.items ++ c.in-Ok.mine ∷ [] = search rules in
    files_event kind g.J.JournalName.table l.table c.freeze-frozen.new.self l.journal.items c.push_reserved.new.self.items c.in-Ok.token c.in-Ok.mine c.args.caller.seat r (answered frozen_outcome c.args.answer) _ c.args.self.now (openers_of l.freezes.items) (openers_of c.set_beside.new.freezes.items)
    c.self.view_is is c.in-Ok.ensures.same shows entry (search rules) (filed_as_counted kind frozen_outcome c.args.answer (λ x. refl) c.requires.counted) step
    (openers_frozen kind c.args.handle (arc_value c.args.query) c.args.answer l.freezes.items _ c.set_beside.new.freezes.items c.again.result c.in-Ok.token (search rules) c.set_beside.ensures (search rules))

pub invariant_of-self-then-lacks : goal.invariant_of-self-then-lacks
invariant_of-self-then-lacks g c =
    let kind = machine g.K.Ord.cmp g.V.PartialEq.eq g.Q.Asks.target_of g.Q.Asks.answered in
    let l = c.self.inside in
    let r : Request g.row.K.Denot g.row.V.Denot g.row.Q.Denot = freeze c.args.handle (arc_value c.args.query) in
    let table = stays_where_lacking kind l.table c.freeze-frozen.new.self r frozen_outcome c.freeze-frozen.result c.freeze-frozen.ensures.step (sym c.lacks_memory-lacks.ensures ∙ c.if-lacks.true) in
    let journal : c.entered_freeze-entered.new.journal.items ≡ l.journal.items = c.entered_freeze-entered.ensures.items in
    let freezes : c.entered_freeze-entered.new.freezes.items ≡ l.freezes.items = c.entered_freeze-entered.ensures.freezes in
    subst (λ t. IsKept kind g.J.JournalName.table t c.entered_freeze-entered.new.journal.items c.entered_freeze-entered.new.freezes.items) (sym table)
    (subst (λ xs. IsKept kind g.J.JournalName.table l.table xs c.entered_freeze-entered.new.freezes.items) (sym journal) (subst (IsKept kind g.J.JournalName.table l.table l.journal.items) (sym freezes) c.self.invariant))
