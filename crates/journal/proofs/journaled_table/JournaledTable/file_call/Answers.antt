use Rattle.std.proofs.Common.{rules, ◌≡◌, ◌++◌, ◌∷◌, [], sym, subst}
use Rattle.boxcar.specs.Table.{Shows}
use Rattle.bulk_work.specs.Answers as plain
use Rattle.handles.specs.Machine.{Request, Step}
use Rattle.handles.specs.Views.{Foresees, call_outcome, machine, request_of}
use Rattle.journal.specs.Answers.{answered}
use Rattle.journal.specs.Kept.{openers_of}
use Rattle.journal.specs.Tokens.{entry_at}
use Rattle.journal.proofs.Foresight.{outcome_answered, filed_as_counted, call_is_filed, call_opens_no_job, call_names_no_job}
use Rattle.journal.proofs.Runs.{kept_more, open_still}
use Rattle.journal.proofs.Events.{files_event}
use Rattle.journal.proofs.Openers.{each_still, call_keeps_openers}
use Rattle.journal.proofs.journaled_table.JournaledTable.file_call.Goals as goal

pub serve_foreseen-served-requires-clause-foreseen : goal.serve_foreseen-served-requires-clause-foreseen
serve_foreseen-served-requires-clause-foreseen g c =
    let kind = machine g.K.Ord.cmp g.V.PartialEq.eq g.Q.Asks.target_of g.Q.Asks.answered in
    let r : Request g.row.K.Denot g.row.V.Denot g.row.Q.Denot = request_of c.args.call in
    subst (λ x. Foresees kind x.state r call_outcome c.args.answer) (sym c.self.view_is) c.requires.foreseen

pub invariant_of-self-2 : goal.invariant_of-self-2
invariant_of-self-2 g c =
    let kind = machine g.K.Ord.cmp g.V.PartialEq.eq g.Q.Asks.target_of g.Q.Asks.answered in
    let l = c.self.inside in
    let r : Request g.row.K.Denot g.row.V.Denot g.row.Q.Denot = request_of c.args.call in
    let step : Step kind l.table r (answered call_outcome c.args.answer) c.serve_foreseen-served.new.self = subst (λ o. Step kind l.table r o c.serve_foreseen-served.new.self) (outcome_answered c.args.answer) (search rules) in
    let shows : Shows g.J.JournalName.table c.in-Ok.mine = search rules in
    let entry : entry_at c.in-Ok.mine ≡ record { seat = c.args.caller.seat; request = r; outcome = answered call_outcome c.args.answer } = search rules in
    let is : c.push_reserved.new.self.items ≡ l.journal.items ++ c.in-Ok.mine ∷ [] = search rules in
    let jobs = c.law_of_open_jobs.ensures l.table c.serve_foreseen-served.new.self r (answered call_outcome c.args.answer) (call_opens_no_job _ c.args.call) (call_names_no_job _ c.args.call) step in
    kept_more kind g.J.JournalName.table l.table c.serve_foreseen-served.new.self l.journal.items c.push_reserved.new.self.items l.freezes.items l.freezes.items c.in-Ok.mine c.args.caller.seat r (answered call_outcome c.args.answer)
    is c.self.invariant shows entry (filed_as_counted kind call_outcome c.args.answer (call_is_filed g.row.K.Denot g.row.V.Denot (plain.Summary g.row.K.Denot g.row.V.Denot g.row.Q-Item.Denot)) c.requires.counted) step
    (open_still g.J.JournalName.table l.table c.serve_foreseen-served.new.self l.freezes.items jobs c.self.invariant.beside) (each_still l.table c.serve_foreseen-served.new.self l.freezes.items jobs c.self.invariant.each)

pub returns-clause-filed : goal.returns-clause-filed
returns-clause-filed g c =
    let kind = machine g.K.Ord.cmp g.V.PartialEq.eq g.Q.Asks.target_of g.Q.Asks.answered in
    let l = c.self.inside in
    let r : Request g.row.K.Denot g.row.V.Denot g.row.Q.Denot = request_of c.args.call in
    let step : Step kind l.table r (answered call_outcome c.args.answer) c.serve_foreseen-served.new.self = subst (λ o. Step kind l.table r o c.serve_foreseen-served.new.self) (outcome_answered c.args.answer) (search rules) in
    let shows : Shows g.J.JournalName.table c.in-Ok.token = search rules in
    let entry : entry_at c.in-Ok.token ≡ record { seat = c.args.caller.seat; request = r; outcome = answered call_outcome c.args.answer } = search rules in
    let is : c.push_reserved.new.self.items ≡ l.journal.items ++ c.in-Ok.mine ∷ [] = search rules in
    files_event kind g.J.JournalName.table l.table c.serve_foreseen-served.new.self l.journal.items c.push_reserved.new.self.items c.in-Ok.token c.in-Ok.mine c.args.caller.seat r (answered call_outcome c.args.answer) _ c.args.self.now (openers_of l.freezes.items) (openers_of l.freezes.items)
    c.self.view_is is c.in-Ok.ensures.same shows entry (search rules) (filed_as_counted kind call_outcome c.args.answer (call_is_filed g.row.K.Denot g.row.V.Denot (plain.Summary g.row.K.Denot g.row.V.Denot g.row.Q-Item.Denot)) c.requires.counted) step
    (sym (call_keeps_openers _ (openers_of l.freezes.items) c.args.call (answered call_outcome c.args.answer) c.in-Ok.token.index))
