-- A worker, with its pieces, its ends of the deques and its partial result, may go to another thread.
use denote.RattleType.{RattleType}
use denote.Ref.{NamedLft}
use denote.Struct.Declared as Declared
use denote.Param.Send.{IsSend, IsSync, AllSend, sendable, recorded_send, struct_send}
use Rattle.std.specs.contracts.result.Result as Result
use Rattle.std.proofs.Crossing as heap
use Rattle.slots.specs.declared.storage.KeySlots as KeySlots
use Rattle.slots.specs.declared.storage.ValueSlots as ValueSlots
use Rattle.std.specs.declared.cmp.Ord as Ord
use Rattle.std.specs.declared.cmp.PartialEq as PartialEq
use Rattle.std.specs.declared.cmp.PartialOrd as PartialOrd
use Rattle.hash_path.specs.declared.key.PathKey as PathKey
use Rattle.combiner.specs.declared.bulk_in.BulkIn as BulkIn
use Rattle.partial_results.specs.declared.task.OfView as OfView
use Rattle.partial_results.specs.declared.partial.OfBulk as OfBulk
use Rattle.partial_results.specs.contracts.task.Task as Task
use Rattle.partial_results.proofs.Crossing.{partial_send, task_send}
use Rattle.std.specs.declared.cmp.Eq as Eq
use Rattle.task_pool.specs.contracts.worker.WorkerState as WorkerState
use Rattle.task_pool.specs.contracts.worker.IdleWorker as IdleWorker
use Rattle.ruled_deques.specs.declared.ends.Deques as Deques
use Rattle.ruled_deques.proofs.Crossing.{ends_send}
use Rattle.trie_node.specs.contracts.NoMemory as NoMemory

module _ (C K V S W A B P D : RattleType) (named : OfView.Ghosts C.Denot K.Denot V.Denot) (key : PathKey.Ghosts K.Denot) (order : Ord.Ghosts K.Denot) (keq : PartialEq.Ghosts K.Denot) (kord : PartialOrd.Ghosts K.Denot) (keqq : Eq.Ghosts K.Denot) (keys : KeySlots.Ghosts S.Denot K.Denot A.Denot) (values : ValueSlots.Ghosts S.Denot V.Denot B.Denot) (deques : Deques.Ghosts D.Denot) where
  module _ (a : NamedLft) (does : OfBulk.Ghosts C.Denot W.Denot) (bulk : BulkIn.Ghosts W.Denot K.Denot V.Denot S.Denot P.Denot A.Denot B.Denot) where
    state_fields : IsSend C → IsSend K → IsSend V → IsSend A → IsSync A → IsSend B → IsSync B → IsSync W → IsSend P → IsSend D → AllSend (Declared.fields (WorkerState.the_type a C K V S W D A B P named does key order keq kord keys values bulk deques))
    state_fields cs hs us ks ky vs vy by ps ds =
        let task : IsSend (Task.the_row C K V S A B named key order keq kord keys values) = task_send C K V S A B named key order keq kord keys values cs ks ky vs vy in
        (ends_send _ D deques task ds, (partial_send C K V S A B named key order keq kord keys values W P a does bulk cs hs us by ps, (search (sendable, heap.crosses) depth 20, tt)))

    pub worker_send : IsSend C → IsSend K → IsSend V → IsSend A → IsSync A → IsSend B → IsSync B → IsSync W → IsSend P → IsSend D → IsSend (IdleWorker.the_row a C K V S W D A B P named does key order keq kord bulk deques keys values)
    worker_send cs hs us ks ky vs vy by ps ds =
        let T = IdleWorker.the_type a C K V S W D A B P named does key order keq kord bulk deques keys values in
        let fields : AllSend (Declared.fields T) = (struct_send (Declared.shape (WorkerState.the_type a C K V S W D A B P named does key order keq kord keys values bulk deques)) (state_fields cs hs us ks ky vs vy by ps ds), tt) in
        recorded_send _ _ _ T.to_one (struct_send (Declared.shape T) fields)

no_memory : IsSend NoMemory.the_row
no_memory = search sendable depth 20

-- what comes of a worker
pub came_send : (R : RattleType) → IsSend R → IsSend (Result.the_row R NoMemory.the_row)
came_send R s =
    let none : IsSend NoMemory.the_row = no_memory in
    search sendable depth 20
