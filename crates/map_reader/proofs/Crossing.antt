-- The latest base may be shared by threads, and go from one to another, where keys and values may.
use denote.RattleType.{RattleType}
use denote.Param.Send.{IsSend, IsSync, owning_send, sendable, struct_send, struct_sync}
use denote.Struct.Owning.{fields, shape, to}
use denote.Struct.Struct.{exits_of}
use Rattle.std.proofs.Crossing as heap
use Rattle.std.specs.contracts.alloc.Global as Heap
use Rattle.std.specs.contracts.impls.GlobalAllocator.TheImpl as allocator
use Rattle.std.specs.contracts.option.Option as Option
use Rattle.std.specs.contracts.sync.Arc as Arc
use Rattle.std.specs.contracts.sync.Mutex as Mutex
use Rattle.slots.specs.declared.storage.KeySlots as KeySlots
use Rattle.slots.specs.declared.storage.ValueSlots as ValueSlots
use Rattle.std.specs.declared.cmp.Eq as Eq
use Rattle.std.specs.declared.cmp.Ord as Ord
use Rattle.std.specs.declared.cmp.PartialEq as PartialEq
use Rattle.std.specs.declared.cmp.PartialOrd as PartialOrd
use Rattle.hash_path.specs.declared.key.PathKey as PathKey
use Rattle.stripe.specs.declared.keeps.Keeps as Keeps
use Rattle.write_history.specs.declared.book.Naming as Naming
use Rattle.map_reader.specs.declared.since.Since as Since
use Rattle.map_reader.specs.contracts.latest.LatestBase as LatestBase
use Rattle.map_reader.specs.contracts.latest.LatestBase.TheInside as Inside
use Rattle.map_reader.specs.contracts.base.Base as Base
use Rattle.map_reader.specs.contracts.sight.Sight as Sight
use Rattle.logbook.proofs.tokens.Seen.TheSendSync.{the_send as seen_send, the_sync as seen_sync}
use Rattle.stripes.proofs.Crossing.{quiet}
use Rattle.versions.proofs.Crossing as maps

module _ (K V P J W S A B : RattleType) (key : PathKey.Ghosts K.Denot) (order : Ord.Ghosts K.Denot) (equal : Eq.Ghosts K.Denot) (keq : PartialEq.Ghosts K.Denot) (kord : PartialOrd.Ghosts K.Denot) (keeps : Keeps.Ghosts P.Denot K.Denot V.Denot) (naming : Naming.Ghosts J.Denot) (from : Since.Ghosts W.Denot K.Denot V.Denot) (keys : KeySlots.Ghosts S.Denot K.Denot A.Denot) (values : ValueSlots.Ghosts S.Denot V.Denot B.Denot) where
  abbrev Lock : RattleType
  Lock = Mutex.the_row (Option.the_row (Arc.the_row (Base.the_row K V P J W S A B key order equal keq kord keeps naming from keys values) Heap.the_row allocator.ghosts))

  sight_send : IsSend (Sight.the_row K V J W key order equal keq kord naming from)
  sight_send = search (sendable, heap.crosses, seen_send) depth 30

  sight_sync : IsSync (Sight.the_row K V J W key order equal keq kord naming from)
  sight_sync = search (sendable, heap.crosses, seen_sync) depth 30

  lock_send : IsSend A → IsSync A → IsSend B → IsSync B → IsSend Lock
  lock_send ks ky vs vy = search (sendable, heap.crosses, maps.view_send, maps.view_sync, sight_send, sight_sync) depth 40 fits 20000

  lock_sync : IsSend A → IsSync A → IsSend B → IsSync B → IsSync Lock
  lock_sync ks ky vs vy = search (sendable, heap.crosses, maps.view_send, maps.view_sync, sight_send, sight_sync) depth 40 fits 20000

  fields_send : IsSend Lock → IsSend (Inside.the_row K V P J W S A B key order equal keq kord keeps naming from keys values)
  fields_send lock =
      let T = Inside.the_type K V P J W S A B key order equal keq kord keeps naming from keys values in
      owning_send T (lock, tt) (λ d. tt) (λ k. quiet (to T) (exits_of k (fields T)) ((struct_send (shape T) (lock, tt)).leaving k))

  fields_sync : IsSync Lock → IsSync (Inside.the_row K V P J W S A B key order equal keq kord keeps naming from keys values)
  fields_sync lock =
      let T = Inside.the_type K V P J W S A B key order equal keq kord keeps naming from keys values in
      record { shared = λ d b o κ. ((struct_sync (shape T) (lock, tt)).shared (to T d) b o κ, tt) }

  pub latest_send : IsSend A → IsSend B → IsSync A → IsSync B → IsSend (LatestBase.the_row K V P J W S A B key order equal keq kord keeps naming from keys values)
  latest_send ks vs ky vy = let inside = fields_send (lock_send ks ky vs vy) in search sendable

  pub latest_sync : IsSend A → IsSend B → IsSync A → IsSync B → IsSync (LatestBase.the_row K V P J W S A B key order equal keq kord keeps naming from keys values)
  latest_sync ks vs ky vy = let inside = fields_sync (lock_sync ks ky vs vy) in search sendable
