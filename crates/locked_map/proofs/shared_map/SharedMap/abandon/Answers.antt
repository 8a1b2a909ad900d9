use Rattle.std.proofs.Common.{rules, ◌≡◌, ◌++◌, ◌∷◌, [], refl, subst}
use Rattle.boxcar.specs.Table.{Shows}
use Rattle.bulk_work.specs.Answers as plain
use Rattle.handles.specs.Machine.{Request, abandon, made, refused}
use Rattle.handles.specs.Views.{machine}
use Rattle.locked_map.specs.Seats.{Adds, Seated, placed_all}
use Rattle.filed_entries.specs.declared.filed.Filed.{Filed}
use Rattle.locked_map.proofs.Adding.{all_of_more, ended_adds, event_adds}
use Rattle.locked_map.proofs.shared_map.SharedMap.abandon.Goals as goal

pub invariant_of-seat : goal.invariant_of-seat
invariant_of-seat g c =
    let s = c.seat.inside in
    let event = c.in-Ok.event in
    let f : Filed g.row.K.Denot g.row.V.Denot g.row.Q.Denot g.row.Q-Item.Denot = record { token = event.token; place = event.place; floor = s.floor } in
    let is : c.file.new.list.items ≡ s.list.items ++ f ∷ [] = search rules in
    let shows : Shows g.J.JournalName.table event.token = search rules in
    all_of_more g.J.JournalName.table s.list.items c.file.new.list.items f is c.seat.invariant shows

pub returns-in-Ok-clause-adds : goal.returns-in-Ok-clause-adds
returns-in-Ok-clause-adds g c =
    let kind = machine g.K.Ord.cmp g.V.PartialEq.eq g.Q.Asks.target_of g.Q.Asks.answered in
    let s = c.seat.inside in
    let r : Request g.row.K.Denot g.row.V.Denot g.row.Q.Denot = abandon c.ticket.inside.job in
    let f : Filed g.row.K.Denot g.row.V.Denot g.row.Q.Denot g.row.Q-Item.Denot = record { token = c.in-Ok.event.token; place = c.in-Ok.event.place; floor = s.floor } in
    let is : c.file.new.list.items ≡ s.list.items ++ f ∷ [] = search rules in
    let after : Seated g.row.K.Denot g.row.V.Denot g.row.Q.Denot (plain.Summary g.row.K.Denot g.row.V.Denot g.row.Q-Item.Denot) = record { number = s.number; floor = c.file.new.floor; list = placed_all c.file.new.list.items; full = s.full; unknown = s.unknown } in
    let adds : Adds c.args.seat.now r made after = event_adds kind g.J.JournalName.table _ _ c.new-caller.result.seat s.number s.floor c.file.new.floor s.full s.unknown s.list.items c.file.new.list.items f r made made c.args.seat.now
    c.seat.view_is is refl c.file.ensures.floor c.new-caller.ensures.seat c.in-Ok.ensures.filed refl in
    subst (λ t. Adds c.args.seat.now (abandon t.job) made after) c.ticket.view_is adds

pub returns-in-Err-clause-adds : goal.returns-in-Err-clause-adds
returns-in-Err-clause-adds g c =
    let adds : Adds c.args.seat.now (abandon c.ticket.inside.job) (refused c.in-Err.refusal) c.mark.new.self = ended_adds c.args.seat.now c.mark.new.self (abandon c.ticket.inside.job) c.in-Err.refusal c.ticket.inside.job refl c.in-Err.ensures.unfiled (search rules) in
    subst (λ t. Adds c.args.seat.now (abandon t.job) (refused c.in-Err.refusal) c.mark.new.self) c.ticket.view_is adds
