-- A shared map may be used by many threads at once.
use denote.RattleType.{RattleType}
use denote.Struct.Declared as Declared
use denote.Param.Send.{IsSend, IsSync, AllSync, sendable, recorded_sync, struct_sync}
use Rattle.std.proofs.Crossing as heap
use Rattle.boxcar.proofs.Sent as slots
use Rattle.std.specs.declared.cmp.Ord as Ord
use Rattle.std.specs.declared.cmp.PartialEq as PartialEq
use Rattle.std.specs.declared.cmp.PartialOrd as PartialOrd
use Rattle.hash_path.specs.declared.key.PathKey as PathKey
use Rattle.bulk_work.specs.declared.asks.Asks as Asks
use Rattle.combiner.specs.declared.bulk.Bulk as Bulk
use Rattle.journal.specs.declared.journal_name.JournalName as JournalName
use Rattle.journal.proofs.Crossing.{entry_send, entry_sync, journaled_send}
use Rattle.locked_map.specs.contracts.shared_map.SharedMap as SharedMap

module _ (K V Q J I P : RattleType) (key : PathKey.Ghosts K.Denot) (order : Ord.Ghosts K.Denot) (keq : PartialEq.Ghosts K.Denot) (kord : PartialOrd.Ghosts K.Denot) (veq : PartialEq.Ghosts V.Denot) (asks : Asks.Ghosts Q.Denot K.Denot V.Denot I.Denot P.Denot) (bulk : Bulk.Ghosts Q.Denot K.Denot V.Denot P.Denot) (room : JournalName.Ghosts J.Denot) where
  pub shared_sync : IsSend K → IsSync K → IsSend V → IsSync V → IsSend Q → IsSync Q → IsSend J → IsSync J → IsSend I → IsSync I → IsSync (Declared.row (SharedMap.the_type K V Q J I P key order keq kord veq asks bulk room))
  shared_sync ks ky vs vy qs qy js jy is iy =
      let T = SharedMap.the_type K V Q J I P key order keq kord veq asks bulk room in
      let fields : AllSync (Declared.fields T) = (search sendable, (search (sendable, heap.crosses, entry_send, entry_sync, slots.slot_send, slots.slot_sync, slots.tag_sync) depth 30, (search (heap.crosses, journaled_send), tt))) in
      recorded_sync _ _ _ T.to_one (struct_sync (Declared.shape T) fields)
