use Rattle.locked_map.proofs.Walk.{Walks}
use Rattle.locked_map.proofs.closing.is_borne_out.Given as goal

abbrev pub invariant-loop-token : goal.invariant-loop-token
invariant-loop-token g l = Walks g.J.JournalName.table l.seat-inside.number l.token-items l.token-index l.place l.seat-inside.list.items l.rest
