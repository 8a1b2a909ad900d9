-- The locks of a map may be shared by threads, and go from one to another, where keys and values may.
use denote.RattleType.{RattleType}
use denote.Exit.{Exit, unchanged, leaves, hidden, under}
use denote.Param.Send.{IsSend, IsSync, Quiet, owning_send, sendable, struct_send, struct_sync}
use denote.Struct.Owning.{fields, shape, to}
use denote.Struct.Struct.{exits_of}
use Rattle.std.proofs.Crossing as heap
use Rattle.std.specs.contracts.alloc.Global as Heap
use Rattle.std.specs.contracts.impls.GlobalAllocator.TheImpl as allocator
use Rattle.std.specs.contracts.sync.Mutex as Mutex
use Rattle.std.specs.contracts.vec.Vec as Vec
use Rattle.slots.specs.declared.storage.KeySlots as KeySlots
use Rattle.slots.specs.declared.storage.ValueSlots as ValueSlots
use Rattle.std.specs.declared.cmp.Eq as Eq
use Rattle.std.specs.declared.cmp.Ord as Ord
use Rattle.std.specs.declared.cmp.PartialEq as PartialEq
use Rattle.std.specs.declared.cmp.PartialOrd as PartialOrd
use Rattle.hash_path.specs.declared.key.PathKey as PathKey
use Rattle.stripe.specs.declared.keeps.Keeps as Keeps
use Rattle.crossbeam_utils.specs.contracts.cache_padded.CachePadded as CachePadded
use Rattle.stripes.specs.contracts.locks.Locks as Locks
use Rattle.stripes.specs.contracts.locks.Locks.TheInside as Inside
use Rattle.stripe.specs.contracts.stripe.Stripe as Stripe
use Rattle.versions.proofs.Crossing as maps
use Rattle.ghost_log.proofs.Rights.TheSendSync.{the_send as rights_send}
use Rattle.logbook.proofs.tokens.Seen.TheSendSync.{the_send as seen_send}
use Rattle.write_history.specs.contracts.part.Part as Part
use Rattle.write_history.specs.declared.book.Naming as Naming

-- what is hidden at exit is quiet where it is quiet in sight
pub quiet : {D X : Type 0} (to : D → X) (e : Exit X) → Quiet e → Quiet (hidden (under to e))
quiet to unchanged q = λ x w. tt
quiet to (leaves L l S s r) q = λ d. q (to d)

module _ (K V P J S A B : RattleType) (key : PathKey.Ghosts K.Denot) (order : Ord.Ghosts K.Denot) (equal : Eq.Ghosts K.Denot) (keq : PartialEq.Ghosts K.Denot) (kord : PartialOrd.Ghosts K.Denot) (keeps : Keeps.Ghosts P.Denot K.Denot V.Denot) (naming : Naming.Ghosts J.Denot) (keys : KeySlots.Ghosts S.Denot K.Denot A.Denot) (values : ValueSlots.Ghosts S.Denot V.Denot B.Denot) where
  abbrev List : RattleType
  List = Vec.the_row (CachePadded.the_row (Mutex.the_row (Stripe.the_row K V P J S A B key order equal keq kord keeps naming keys values))) Heap.the_row allocator.ghosts

  part_send : IsSend (Part.the_row K V J key order equal keq kord naming)
  part_send = search (sendable, seen_send, rights_send) depth 30

  list_send : IsSend A → IsSync A → IsSend B → IsSync B → IsSend List
  list_send ks ky vs vy = search (sendable, heap.crosses, maps.version_send, part_send) depth 40 fits 20000

  list_sync : IsSend A → IsSync A → IsSend B → IsSync B → IsSync List
  list_sync ks ky vs vy = search (sendable, heap.crosses, maps.version_send, part_send) depth 40 fits 20000

  fields_send : IsSend List → IsSend (Inside.the_row K V P J S A B key order equal keq kord keeps naming keys values)
  fields_send list =
      let T = Inside.the_type K V P J S A B key order equal keq kord keeps naming keys values in
      owning_send T (list, tt) (λ d. tt) (λ k. quiet (to T) (exits_of k (fields T)) ((struct_send (shape T) (list, tt)).leaving k))

  fields_sync : IsSync List → IsSync (Inside.the_row K V P J S A B key order equal keq kord keeps naming keys values)
  fields_sync list =
      let T = Inside.the_type K V P J S A B key order equal keq kord keeps naming keys values in
      record { shared = λ d b o κ. ((struct_sync (shape T) (list, tt)).shared (to T d) b o κ, tt) }

  pub locks_send : IsSend A → IsSend B → IsSync A → IsSync B → IsSend (Locks.the_row K V P J S A B key order equal keq kord keeps naming keys values)
  locks_send ks vs ky vy = let inside = fields_send (list_send ks ky vs vy) in search sendable

  pub locks_sync : IsSend A → IsSend B → IsSync A → IsSync B → IsSync (Locks.the_row K V P J S A B key order equal keq kord keeps naming keys values)
  locks_sync ks vs ky vy = let inside = fields_sync (list_sync ks ky vs vy) in search sendable
