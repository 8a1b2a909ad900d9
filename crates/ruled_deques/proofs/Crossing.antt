-- A worker's ends may go to another thread where the items may.
use denote.RattleType.{RattleType}
use denote.Struct.Declared as Declared
use denote.Param.Send.{IsSend, AllSend, sendable, recorded_send, struct_send, view_send}
use Rattle.std.proofs.Crossing as heap
use Rattle.std.specs.contracts.alloc.Global as Heap
use Rattle.std.specs.contracts.impls.GlobalAllocator.TheImpl.{ghosts}
use Rattle.std.specs.contracts.option.Option as Option
use Rattle.atomic_blocks.proofs.RowSent as rows
use Rattle.atomic_blocks.specs.contracts.rows.shared.Seat as Seat
use Rattle.crossbeam_deque.proofs.handles.Worker.TheSendSync as owner
use Rattle.crossbeam_deque.proofs.handles.Stealer.TheSendSync as thief
use Rattle.crossbeam_deque.specs.contracts.view.Doing as Doing
use Rattle.ruled_deques.specs.contracts.rule.DequeView as DequeView
use Rattle.ruled_deques.specs.contracts.rule.DequeRule as DequeRule
use Rattle.ruled_deques.specs.contracts.rule.DequeRuleProtocolDequeView.TheImpl as rule
use Rattle.ruled_deques.specs.declared.ends.Deques as Deques
use Rattle.ruled_deques.specs.contracts.ends.OwnEnd as OwnEnd
use Rattle.ruled_deques.specs.contracts.ends.StealEnd as StealEnd
use Rattle.ruled_deques.specs.contracts.worker_ends.WorkerEnds as WorkerEnds
use Rattle.ruled_deques.specs.contracts.worker_ends.WorkerEnds.TheInside as InEnds

pass_send : (S V : RattleType) → IsSend S → IsSend (Seat.the_row S V Heap.the_row ghosts)
pass_send S V s = record { owned = λ d vs. ((λ vss. (tt, ((λ uss. (tt, tt)), tt))), rows.seat_keyless S s (ghosts.dealloc_token d.heap) (heap.frees.frees d.heap) V.coded.code d.rows d.id d.me); leaving = λ k x vs. tt }

module _ (T D : RattleType) (deques : Deques.Ghosts D.Denot) where
  own_fields : IsSend T → IsSend D → AllSend (Declared.fields (OwnEnd.the_type T D deques))
  own_fields t d =
      (search sendable, (owner.the_field_send T Heap.the_row (DequeView.the_row T) DequeRule.the_row ghosts (rule.ghosts T) t heap.send heap.sync heap.frees, (search sendable, tt)))

  theft_fields : IsSend T → IsSend D → AllSend (Declared.fields (StealEnd.the_type T D deques))
  theft_fields t d =
      let option : IsSend (Option.the_row T) = search sendable depth 20 in
      (search sendable, (thief.the_field_send T Heap.the_row (DequeView.the_row T) DequeRule.the_row ghosts (rule.ghosts T) t heap.send heap.sync heap.frees, (pass_send (Option.the_row T) (Doing.the_row T (DequeView.the_row T)) option, (search sendable, tt))))

  theft_send : IsSend T → IsSend D → IsSend (StealEnd.the_row T D deques)
  theft_send t d =
      let S = StealEnd.the_type T D deques in
      recorded_send _ _ _ S.to_one (struct_send (Declared.shape S) (theft_fields t d))

  pub ends_send : IsSend T → IsSend D → IsSend (WorkerEnds.the_row T D deques)
  ends_send t d =
      let S = InEnds.the_type T D deques in
      let theft : IsSend (StealEnd.the_row T D deques) = theft_send t d in
      let fields : AllSend (Declared.fields S) = (struct_send (Declared.shape (OwnEnd.the_type T D deques)) (own_fields t d), (heap.Vec-send _ theft, tt)) in
      view_send _ _ _ _ _ (recorded_send _ _ _ S.to_one (struct_send (Declared.shape S) fields))
