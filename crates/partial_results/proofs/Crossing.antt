-- Pieces and partial results may go to another thread.
use denote.RattleType.{RattleType}
use denote.Ref.{NamedLft}
use denote.Struct.Declared as Declared
use denote.Param.Send.{IsSend, IsSync, AllSend, sendable, recorded_send, struct_send, view_send}
use Rattle.std.proofs.Crossing as heap
use Rattle.versions.proofs.Crossing as maps
use Rattle.trie_shape.proofs.node.Node.TheLaws.TheKnot as nodes
use Rattle.slots.specs.declared.storage.KeySlots as KeySlots
use Rattle.slots.specs.declared.storage.ValueSlots as ValueSlots
use Rattle.std.specs.declared.cmp.Ord as Ord
use Rattle.std.specs.declared.cmp.PartialEq as PartialEq
use Rattle.std.specs.declared.cmp.PartialOrd as PartialOrd
use Rattle.hash_path.specs.declared.key.PathKey as PathKey
use Rattle.combiner.specs.declared.bulk_in.BulkIn as BulkIn
use Rattle.splitter.specs.contracts.piece.Piece as Piece
use Rattle.splitter.specs.contracts.piece.Piece.TheInside as Inside
use Rattle.partial_results.specs.declared.task.OfView as OfView
use Rattle.partial_results.specs.declared.partial.OfBulk as OfBulk
use Rattle.partial_results.specs.contracts.task.Task as Task
use Rattle.partial_results.specs.contracts.task.Task.TheInside as InTask
use Rattle.partial_results.specs.contracts.partial.Partial as Partial
use Rattle.partial_results.specs.contracts.partial.Partial.TheInside as InPartial
use Rattle.std.specs.declared.cmp.Eq as Eq

module _ (K V S A B : RattleType) (key : PathKey.Ghosts K.Denot) (order : Ord.Ghosts K.Denot) (keq : PartialEq.Ghosts K.Denot) (kord : PartialOrd.Ghosts K.Denot) (keys : KeySlots.Ghosts S.Denot K.Denot A.Denot) (values : ValueSlots.Ghosts S.Denot V.Denot B.Denot) where
  pub piece_send : IsSend A → IsSync A → IsSend B → IsSync B → IsSend (Piece.the_row K V S A B key order keq kord keys values)
  piece_send ks ky vs vy =
      let T = Inside.the_type K V S A B key order keq kord keys values in
      let fields : AllSend (Declared.fields T) = (maps.view_send K V S A B key order keq kord keys values ks ky vs vy, (search sendable, (search sendable, (search (sendable, heap.crosses, nodes.crosses_both) depth 30, (search (sendable, heap.crosses), tt))))) in
      view_send _ _ _ _ _ (recorded_send _ _ _ T.to_one (struct_send (Declared.shape T) fields))

module _ (C K V S A B : RattleType) (named : OfView.Ghosts C.Denot K.Denot V.Denot) (key : PathKey.Ghosts K.Denot) (order : Ord.Ghosts K.Denot) (keq : PartialEq.Ghosts K.Denot) (kord : PartialOrd.Ghosts K.Denot) (keys : KeySlots.Ghosts S.Denot K.Denot A.Denot) (values : ValueSlots.Ghosts S.Denot V.Denot B.Denot) where
  pub task_send : IsSend C → IsSend A → IsSync A → IsSend B → IsSync B → IsSend (Task.the_row C K V S A B named key order keq kord keys values)
  task_send cs ks ky vs vy =
      let T = InTask.the_type C K V S A B named key order keq kord keys values in
      let fields : AllSend (Declared.fields T) = (piece_send K V S A B key order keq kord keys values ks ky vs vy, (search sendable, tt)) in
      view_send _ _ _ _ _ (recorded_send _ _ _ T.to_one (struct_send (Declared.shape T) fields))

  module _ (W P : RattleType) (a : NamedLft) (does : OfBulk.Ghosts C.Denot W.Denot) (bulk : BulkIn.Ghosts W.Denot K.Denot V.Denot S.Denot P.Denot A.Denot B.Denot) where
    pub partial_send : IsSend C → IsSend K → IsSend V → IsSync W → IsSend P → IsSend (Partial.the_row a C K V S W A B P named does key order keq kord keys values bulk)
    partial_send cs ks vs by ps =
        let T = InPartial.the_type a C K V S W A B P named does key order keq kord keys values bulk in
        let fields : AllSend (Declared.fields T) = (search sendable depth 20, (search sendable depth 20, (search (sendable, heap.crosses) depth 20, (search (sendable, heap.crosses) depth 20, (search sendable depth 20, tt))))) in
        view_send _ _ _ _ _ (recorded_send _ _ _ T.to_one (struct_send (Declared.shape T) fields))
