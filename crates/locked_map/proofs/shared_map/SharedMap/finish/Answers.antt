use Rattle.std.proofs.Common.{rules, ◌≡◌, ◌++◌, ◌∷◌, [], refl, ap, subst}
use Rattle.bulk_work.specs.Answers as plain
use Rattle.bulk_work.specs.Summaries.{summary_of}
use Rattle.handles.specs.Machine.{Request, finish, finished, refused}
use Rattle.handles.specs.Views.{machine}
use Rattle.locked_map.specs.Seats.{Adds, Seated, placed_all}
use Rattle.filed_entries.specs.declared.filed.Filed.{Filed}
use Rattle.locked_map.proofs.Adding.{ended_adds, event_adds}
use Rattle.locked_map.proofs.shared_map.SharedMap.finish.Goals as goal

pub returns-in-Ok-clause-adds : goal.returns-in-Ok-clause-adds
returns-in-Ok-clause-adds g c =
    let kind = machine g.K.Ord.cmp g.V.PartialEq.eq g.Q.Asks.target_of g.Q.Asks.answered in
    let s = c.seat.inside in
    let r : Request g.row.K.Denot g.row.V.Denot g.row.Q.Denot = finish c.ticket.inside.job in
    let f : Filed g.row.K.Denot g.row.V.Denot g.row.Q.Denot g.row.Q-Item.Denot = record { token = c.in-Ok.event.token; place = c.in-Ok.event.place; floor = s.floor } in
    let is : c.file.new.list.items ≡ s.list.items ++ f ∷ [] = search rules in
    let after : Seated g.row.K.Denot g.row.V.Denot g.row.Q.Denot (plain.Summary g.row.K.Denot g.row.V.Denot g.row.Q-Item.Denot) = record { number = s.number; floor = c.file.new.floor; list = placed_all c.file.new.list.items; full = s.full; unknown = s.unknown } in
    let adds : Adds c.args.seat.now r (finished (summary_of c.file.result)) after = event_adds kind g.J.JournalName.table _ _ c.new-caller.result.seat s.number s.floor c.file.new.floor s.full s.unknown s.list.items c.file.new.list.items f r (finished (summary_of c.in-Ok.event.answer)) (finished (summary_of c.file.result)) c.args.seat.now
    c.seat.view_is is refl c.file.ensures.floor c.new-caller.ensures.seat c.in-Ok.ensures.filed (ap (λ a. finished (summary_of a)) c.file.ensures.answer) in
    subst (λ t. Adds c.args.seat.now (finish t.job) (finished (summary_of c.file.result)) after) c.ticket.view_is adds

pub returns-in-Err-clause-adds : goal.returns-in-Err-clause-adds
returns-in-Err-clause-adds g c =
    let adds : Adds c.args.seat.now (finish c.ticket.inside.job) (refused c.in-Err.refusal) c.mark.new.self = ended_adds c.args.seat.now c.mark.new.self (finish c.ticket.inside.job) c.in-Err.refusal c.ticket.inside.job refl c.in-Err.ensures.unfiled (search rules) in
    subst (λ t. Adds c.args.seat.now (finish t.job) (refused c.in-Err.refusal) c.mark.new.self) c.ticket.view_is adds
