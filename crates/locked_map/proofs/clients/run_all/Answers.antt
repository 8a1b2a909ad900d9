use denote.Param.Send.{sendable}
use Rattle.locked_map.proofs.Crossing.{shared_sync}
use Rattle.locked_map.proofs.clients.run_all.Goals as goal

pub map_vec-requires-sync-W : goal.map_vec-requires-sync-W
map_vec-requires-sync-W g c κs within = search (sendable, shared_sync) depth 20
