use Rattle.std.proofs.Common.{rules, ◌≡◌, ◌++◌, ◌∷◌, [], None, refl, ap, subst, sym}
use Rattle.std.specs.Prelude.{IfOk}
use Rattle.handles.specs.Machine.{Request}
use Rattle.handles.specs.Views.{call_outcome, machine, request_of}
use Rattle.journal.specs.Answers.{answered}
use Rattle.filed_entries.specs.declared.filed.Filed.{Filed}
use Rattle.journal.proofs.Foresight.{call_names_no_job}
use Rattle.locked_map.specs.Getting.{MayReturn}
use Rattle.locked_map.proofs.Adding.{event_adds, unfiled_adds}
use Rattle.locked_map.proofs.Getting.{may_return}
use Rattle.locked_map.proofs.shared_map.SharedMap.call.Goals as goal

pub returns-in-Ok-clause-adds : goal.returns-in-Ok-clause-adds
returns-in-Ok-clause-adds g c =
    let kind = machine g.K.Ord.cmp g.V.PartialEq.eq g.Q.Asks.target_of g.Q.Asks.answered in
    let s = c.seat.inside in
    let r : Request g.row.K.Denot g.row.V.Denot g.row.Q.Denot = request_of c.args.call in
    let f : Filed g.row.K.Denot g.row.V.Denot g.row.Q.Denot g.row.Q-Item.Denot = record { token = c.in-Ok.event.token; place = c.in-Ok.event.place; floor = s.floor } in
    let is : c.file.new.list.items ≡ s.list.items ++ f ∷ [] = search rules in
    event_adds kind g.J.JournalName.table _ _ c.new-caller.result.seat s.number s.floor c.file.new.floor s.full s.unknown s.list.items c.file.new.list.items f r (answered call_outcome c.in-Ok.event.answer) (answered call_outcome c.file.result) c.args.seat.now
    c.seat.view_is is refl c.file.ensures.floor c.new-caller.ensures.seat c.in-Ok.ensures.filed (ap (answered call_outcome) c.file.ensures.answer)

pub returns-in-Err-clause-adds : goal.returns-in-Err-clause-adds
returns-in-Err-clause-adds g c =
    let kind = machine g.K.Ord.cmp g.V.PartialEq.eq g.Q.Asks.target_of g.Q.Asks.answered in
    let r : Request g.row.K.Denot g.row.V.Denot g.row.Q.Denot = request_of c.args.call in
    unfiled_adds kind c.deref_mut.result.now.state c.args.seat.now c.mark.new.self r c.in-Err.refusal None (call_names_no_job _ c.args.call) c.in-Err.ensures.unfiled (search rules)

pub returns-in-Ok-clause-told : goal.returns-in-Ok-clause-told
returns-in-Ok-clause-told g c =
    let kind = machine g.K.Ord.cmp g.V.PartialEq.eq g.Q.Asks.target_of g.Q.Asks.answered in
    subst (λ a. IfOk a (λ y. MayReturn kind (request_of c.args.call) (call_outcome y))) (sym c.file.ensures.answer) (may_return kind _ _ (request_of c.args.call) call_outcome c.in-Ok.event.answer c.in-Ok.ensures.filed.step)
