use Rattle.std.proofs.Common.{rules, ◌≡◌, ◌++◌, ◌∷◌, [], None, refl, ap}
use Rattle.boxcar.specs.Table.{Shows}
use Rattle.handles.specs.Machine.{Request, view}
use Rattle.handles.specs.Views.{machine, view_outcome}
use Rattle.journal.specs.Answers.{answered}
use Rattle.filed_entries.specs.declared.filed.Filed.{Filed}
use Rattle.locked_map.proofs.Adding.{all_of_more, event_adds, unfiled_adds}
use Rattle.locked_map.proofs.shared_map.SharedMap.view.Goals as goal

pub invariant_of-seat : goal.invariant_of-seat
invariant_of-seat g c =
    let s = c.seat.inside in
    let event = c.in-Ok.event in
    let f : Filed g.row.K.Denot g.row.V.Denot g.row.Q.Denot g.row.Q-Item.Denot = record { token = event.token; place = event.place; floor = s.floor } in
    let is : c.file.new.list.items ≡ s.list.items ++ f ∷ [] = search rules in
    let shows : Shows g.J.JournalName.table event.token = search rules in
    all_of_more g.J.JournalName.table s.list.items c.file.new.list.items f is c.seat.invariant shows

pub returns-in-Ok : goal.returns-in-Ok
returns-in-Ok g c =
    let kind = machine g.K.Ord.cmp g.V.PartialEq.eq g.Q.Asks.target_of g.Q.Asks.answered in
    let s = c.seat.inside in
    let r : Request g.row.K.Denot g.row.V.Denot g.row.Q.Denot = view c.args.handle in
    let f : Filed g.row.K.Denot g.row.V.Denot g.row.Q.Denot g.row.Q-Item.Denot = record { token = c.in-Ok.event.token; place = c.in-Ok.event.place; floor = s.floor } in
    let is : c.file.new.list.items ≡ s.list.items ++ f ∷ [] = search rules in
    event_adds kind g.J.JournalName.table _ _ c.new-caller.result.seat s.number s.floor c.file.new.floor s.full s.unknown s.list.items c.file.new.list.items f r (answered view_outcome c.in-Ok.event.answer) (answered view_outcome c.file.result) c.args.seat.now
    c.seat.view_is is refl c.file.ensures.floor c.new-caller.ensures.seat c.in-Ok.ensures.filed (ap (answered view_outcome) c.file.ensures.answer)

pub returns-in-Err : goal.returns-in-Err
returns-in-Err g c =
    let kind = machine g.K.Ord.cmp g.V.PartialEq.eq g.Q.Asks.target_of g.Q.Asks.answered in
    let r : Request g.row.K.Denot g.row.V.Denot g.row.Q.Denot = view c.args.handle in
    unfiled_adds kind c.deref_mut.result.now.state c.args.seat.now c.mark.new.self r c.in-Err.refusal None refl c.in-Err.ensures.unfiled (search rules)
