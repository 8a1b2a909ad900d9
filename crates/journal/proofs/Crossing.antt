-- Entries may be read by many threads at once, and a table with its journal may go from one thread to another.
use denote.RattleType.{RattleType}
use denote.Struct.Declared as Declared
use denote.Param.Send.{IsSend, IsSync, AllSend, AllSync, sendable, recorded_send, recorded_sync, struct_send, struct_sync, view_send, view_sync}
use Rattle.std.proofs.Crossing as heap
use Rattle.versions.proofs.Crossing as maps
use Rattle.boxcar.proofs.Sent as slots
use Rattle.std.specs.declared.cmp.Ord as Ord
use Rattle.std.specs.declared.cmp.PartialEq as PartialEq
use Rattle.std.specs.declared.cmp.PartialOrd as PartialOrd
use Rattle.hash_path.specs.declared.key.PathKey as PathKey
use Rattle.bulk_work.specs.declared.asks.Asks as Asks
use Rattle.combiner.specs.declared.bulk.Bulk as Bulk
use Rattle.handles.specs.contracts.request.Request as Request
use Rattle.handles.specs.contracts.outcome.Outcome as Outcome
use Rattle.handles.specs.contracts.table.Table as Table
use Rattle.journal.specs.declared.journal_name.JournalName as JournalName
use Rattle.journal.specs.contracts.entry.Entry as Entry
use Rattle.journal.specs.contracts.entry.Entry.TheInside as Inside
use Rattle.journal.specs.contracts.journaled_table.JournaledTable as JournaledTable
use Rattle.handles.proofs.request.Request.TheSendSync as requests

module _ (K V Q I : RattleType) (key : PathKey.Ghosts K.Denot) (order : Ord.Ghosts K.Denot) (keq : PartialEq.Ghosts K.Denot) (kord : PartialOrd.Ghosts K.Denot) where
  outcome_send : IsSend K → IsSync K → IsSend V → IsSync V → IsSend I → IsSync I → IsSend (Outcome.the_field K V I key order keq kord).row
  outcome_send ks ky vs vy is iy = search (sendable, heap.crosses, maps.view_send) depth 30

  outcome_sync : IsSend K → IsSync K → IsSend V → IsSync V → IsSend I → IsSync I → IsSync (Outcome.the_field K V I key order keq kord).row
  outcome_sync ks ky vs vy is iy = search (sendable, heap.crosses, maps.view_sync) depth 30

  request_send : IsSend K → IsSync K → IsSend V → IsSync V → IsSend Q → IsSync Q → IsSend (Request.the_field K V Q).row
  request_send ks ky vs vy qs qy = search (heap.crosses, requests.the_field_send) depth 20

  request_sync : IsSend K → IsSync K → IsSend V → IsSync V → IsSend Q → IsSync Q → IsSync (Request.the_field K V Q).row
  request_sync ks ky vs vy qs qy = search (heap.crosses, requests.the_field_sync) depth 20

  pub entry_send : IsSend K → IsSync K → IsSend V → IsSync V → IsSend Q → IsSync Q → IsSend I → IsSync I → IsSend (Entry.the_row K V Q I key order keq kord)
  entry_send ks ky vs vy qs qy is iy =
      let T = Inside.the_type K V Q I key order keq kord in
      let fields : AllSend (Declared.fields T) = (search sendable, (request_send ks ky vs vy qs qy, (outcome_send ks ky vs vy is iy, tt))) in
      view_send _ _ _ _ _ (recorded_send _ _ _ T.to_one (struct_send (Declared.shape T) fields))

  pub entry_sync : IsSend K → IsSync K → IsSend V → IsSync V → IsSend Q → IsSync Q → IsSend I → IsSync I → IsSync (Entry.the_row K V Q I key order keq kord)
  entry_sync ks ky vs vy qs qy is iy =
      let T = Inside.the_type K V Q I key order keq kord in
      let fields : AllSync (Declared.fields T) = (search sendable, (request_sync ks ky vs vy qs qy, (outcome_sync ks ky vs vy is iy, tt))) in
      view_sync _ _ _ _ _ (recorded_sync _ _ _ T.to_one (struct_sync (Declared.shape T) fields))

module _ (K V Q J I P : RattleType) (key : PathKey.Ghosts K.Denot) (order : Ord.Ghosts K.Denot) (keq : PartialEq.Ghosts K.Denot) (kord : PartialOrd.Ghosts K.Denot) (veq : PartialEq.Ghosts V.Denot) (asks : Asks.Ghosts Q.Denot K.Denot V.Denot I.Denot P.Denot) (bulk : Bulk.Ghosts Q.Denot K.Denot V.Denot P.Denot) (room : JournalName.Ghosts J.Denot) where
  table_send : IsSend K → IsSync K → IsSend V → IsSync V → IsSend Q → IsSync Q → IsSend I → IsSync I → IsSend (Table.the_row K V Q I P key order keq kord asks bulk)
  table_send ks ky vs vy qs qy is iy = search (sendable, heap.crosses, maps.view_send, maps.version_send) depth 40 fits 20000

  pub journaled_send : IsSend K → IsSync K → IsSend V → IsSync V → IsSend Q → IsSync Q → IsSend J → IsSync J → IsSend I → IsSync I → IsSend (JournaledTable.the_row K V Q J I P key order keq kord veq asks bulk room)
  journaled_send ks ky vs vy qs qy js jy is iy = search (sendable, heap.crosses, table_send, slots.written_send) depth 40 fits 20000
