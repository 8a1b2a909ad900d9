use Rattle.std.proofs.Common.{rules, ◌≡◌, ◌<◌, length, vec_len, slice_index_or, subst, sym, ◌∙◌}
use Rattle.locked_map.proofs.Seating.{some_of}
use Rattle.locked_map.proofs.clients.run_in.Goals as goal

pub returns-clause-each : goal.returns-clause-each
returns-clause-each g c k client o h =
    let ran = c.in-Ok-run_seated in
    let long : vec_len ran.seats ≡ length ran.seats.items = search rules in
    let held : k < length ran.seats.items = subst (λ n. k < n) (sym ran.ensures.seats ∙ long) h in
    let s = some_of ran.seats.items k held in
    let closed = c.in-Ok-closed_under.ensures in (
      slice_index_or ran.seats.items k s,
      ran.ensures.each k client o s h,
      record { entries = closed.each k s held; floors = closed.floors k s held; full = closed.full k s held; unknown = closed.unknown k s held },
    )

pub returns-clause-seats : goal.returns-clause-seats
returns-clause-seats g c k d h =
    let ran = c.in-Ok-run_seated in
    let long : vec_len ran.seats ≡ length ran.seats.items = search rules in
    subst (λ n. (slice_index_or c.in-Ok-closed_under.closed.journal k d).seat < n) (sym long ∙ ran.ensures.seats) (c.in-Ok-closed_under.ensures.known k d h)
