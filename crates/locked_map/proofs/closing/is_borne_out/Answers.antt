use Rattle.std.proofs.Common.{rules, ◌≡◌, ◌∷◌, ◌<◌, ◌≤◌, length}
use Rattle.journal.specs.Tokens.{entry_at, AllShown}
use Rattle.locked_map.proofs.Walk.{walks_skip, walks_take, head_shown, item_shown}
use Rattle.locked_map.proofs.closing.is_borne_out.Goals.{then-of-seat+in-Some+else-filed-place+else-not-is_above_floor+else-index, else-of-seat}
use Rattle.locked_map.proofs.closing.is_borne_out.Goals as goal

pub loop-token-preserved : goal.loop-token-preserved
loop-token-preserved g c =
    let h : c.loop-token.token-index < length c.deref-token-items.result.now = search rules in
    elim c.if-of-seat.branch [
      | then-of-seat+in-Some+else-filed-place+else-not-is_above_floor+else-index w ↦
          let mine : (entry_at c.token-item.result).seat ≡ c.seat.inside.number = search rules in
          let parts : c.loop-token.rest.now ≡ w.in-Some.filed.now ∷ c.if-of-seat.rest.now = search rules in
          let at : w.in-Some.filed.now.place ≡ c.loop-token.place = search rules in
          let above : w.in-Some.filed.now.floor ≤ w.in-Some.filed.now.place = search rules in
          let same : entry_at w.in-Some.filed.now.token ≡ entry_at c.token-item.result = search rules in
          walks_take g.J.JournalName.table c.seat.inside.number c.deref-token-items.result.now c.loop-token.token-index c.loop-token.place c.seat.inside.list.items c.loop-token.rest.now c.if-of-seat.rest.now w.in-Some.filed.now c.token-item.result c.loop-token.invariant h c.token-item.is mine parts at above same
      | else-of-seat w ↦
          let other : ((entry_at c.token-item.result).seat ≡ c.seat.inside.number → ⊥) = search rules in
          let same : c.loop-token.rest.now ≡ c.if-of-seat.rest.now = search rules in
          walks_skip g.J.JournalName.table c.seat.inside.number c.deref-token-items.result.now c.loop-token.token-index c.loop-token.place c.seat.inside.list.items c.loop-token.rest.now c.if-of-seat.rest.now c.token-item.result c.loop-token.invariant same h c.token-item.is other
    ]

pub agrees-requires : goal.agrees-requires
agrees-requires g c =
    let parts : c.loop-token.rest.now ≡ c.in-Some.filed.now ∷ c.in-Some.tail.now = search rules in
    let h : c.loop-token.token-index < length c.deref-token-items.result.now = search rules in
    let all : AllShown g.J.JournalName.table c.deref-token-items.result.now = search rules in
    let same : c.in-Some.filed.now.token.index ≡ c.token-item.result.index = search rules in (
      head_shown g.J.JournalName.table c.args.entries.now c.loop-token.rest.now c.in-Some.tail.now c.in-Some.filed.now c.requires.table parts c.loop-token.invariant.shown,
      item_shown g.J.JournalName.table c.args.entries.now c.deref-token-items.result.now c.loop-token.token-index c.token-item.result c.requires.table c.token-item.is h all,
      same,
    )
