use Rattle.std.proofs.Common.{rules, ◌≡◌, ◌+◌, ◌++◌, ◌∷◌, [], refl, ap, subst}
use Rattle.bulk_work.specs.Answers as plain
use Rattle.handles.specs.Machine.{Request, freeze}
use Rattle.handles.specs.Views.{machine, frozen_outcome}
use Rattle.journal.specs.Answers.{answered}
use Rattle.boxcar.specs.Table.{Shows}
use Rattle.locked_map.specs.Seats.{Adds, Seated, placed_all}
use Rattle.locked_map.specs.Tickets.{ticket_outcome}
use Rattle.filed_entries.specs.declared.filed.Filed.{Filed}
use Rattle.locked_map.proofs.Adding.{all_of_more, event_adds}
use Rattle.locked_map.proofs.shared_map.SharedMap.freeze.Goals.{in-Ok-answer, in-Err-answer}
use Rattle.locked_map.proofs.shared_map.SharedMap.freeze.Goals as goal

pub invariant_of-seat : goal.invariant_of-seat
invariant_of-seat g c =
    let s = c.seat.inside in
    let event = c.in-Ok.event in
    let f : Filed g.row.K.Denot g.row.V.Denot g.row.Q.Denot g.row.Q-Item.Denot = record { token = event.token; place = event.place; floor = s.floor } in
    let is : c.file-answer.new.list.items ≡ s.list.items ++ f ∷ [] = search rules in
    let shows : Shows g.J.JournalName.table event.token = search rules in
    all_of_more g.J.JournalName.table s.list.items c.file-answer.new.list.items f is c.seat.invariant shows

pub returns-after-answer-clause-adds : goal.returns-after-answer-clause-adds
returns-after-answer-clause-adds g c =
    let kind = machine g.K.Ord.cmp g.V.PartialEq.eq g.Q.Asks.target_of g.Q.Asks.answered in
    let s = c.seat.inside in
    let r : Request g.row.K.Denot g.row.V.Denot g.row.Q.Denot = freeze c.args.handle c.args.query.value in
    let event = c.in-Ok.event in
    let f : Filed g.row.K.Denot g.row.V.Denot g.row.Q.Denot g.row.Q-Item.Denot = record { token = event.token; place = event.place; floor = s.floor } in
    let is : c.file-answer.new.list.items ≡ s.list.items ++ f ∷ [] = search rules in
    let behind : c.file-answer.new.floor ≡ event.place + 1 = search rules in
    let after : Seated g.row.K.Denot g.row.V.Denot g.row.Q.Denot (plain.Summary g.row.K.Denot g.row.V.Denot g.row.Q-Item.Denot) = record { number = s.number; floor = c.file-answer.new.floor; list = placed_all c.file-answer.new.list.items; full = s.full; unknown = s.unknown } in
    let adds : Adds c.args.seat.now r (answered frozen_outcome c.file-answer.result) after = event_adds kind g.J.JournalName.table _ _ c.new-caller.result.seat s.number s.floor c.file-answer.new.floor s.full s.unknown s.list.items c.file-answer.new.list.items f r (answered frozen_outcome event.answer) (answered frozen_outcome c.file-answer.result) c.args.seat.now
    c.seat.view_is is refl behind c.new-caller.ensures.seat c.in-Ok.ensures.filed (ap (answered frozen_outcome) c.file-answer.ensures.answer) in
    elim c.match-answer.branch [
      | in-Ok-answer w ↦
          let same : answered {B = plain.Summary g.row.K.Denot g.row.V.Denot g.row.Q-Item.Denot} frozen_outcome c.file-answer.result ≡ answered ticket_outcome c.match-answer.result = search rules in
          subst (λ o. Adds c.args.seat.now r o after) same adds
      | in-Err-answer w ↦
          let same : answered {B = plain.Summary g.row.K.Denot g.row.V.Denot g.row.Q-Item.Denot} frozen_outcome c.file-answer.result ≡ answered ticket_outcome c.match-answer.result = search rules in
          subst (λ o. Adds c.args.seat.now r o after) same adds
    ]
