-- The root of a trie may be shared by threads, and go from one to another, where keys and values may; so may versions and views.
use denote.RattleType.{RattleType}
use denote.Exit.{Exit, unchanged, leaves, hidden, under}
use denote.Param.Send.{IsSend, IsSync, Quiet, owning_send, sendable, struct_send, struct_sync}
use denote.Struct.Owning.{fields, shape, to}
use denote.Struct.Struct.{exits_of}
use Rattle.std.proofs.Crossing as heap
use Rattle.slots.specs.declared.storage.KeySlots as KeySlots
use Rattle.slots.specs.declared.storage.ValueSlots as ValueSlots
use Rattle.std.specs.declared.cmp.Ord as Ord
use Rattle.std.specs.declared.cmp.PartialEq as PartialEq
use Rattle.std.specs.declared.cmp.PartialOrd as PartialOrd
use Rattle.hash_path.specs.declared.key.PathKey as PathKey
use Rattle.versions.specs.contracts.root.Root as Root
use Rattle.versions.specs.contracts.version.Version as Version
use Rattle.versions.specs.contracts.view.View as View
use Rattle.versions.specs.contracts.root.Root.TheInside as Inside
use Rattle.trie_shape.proofs.node.Node.TheLaws.TheKnot as nodes
use Rattle.trie_shape.specs.contracts.node.Node as Node

-- what is hidden at exit is quiet where it is quiet in sight
quiet : {D X : Type 0} (to : D → X) (e : Exit X) → Quiet e → Quiet (hidden (under to e))
quiet to unchanged q = λ x w. tt
quiet to (leaves L l S s r) q = λ d. q (to d)

module _ (K V S A B : RattleType) (keys : KeySlots.Ghosts S.Denot K.Denot A.Denot) (values : ValueSlots.Ghosts S.Denot V.Denot B.Denot) where
  node_send : IsSend A → IsSync A → IsSend B → IsSync B → IsSend (Node.the_field K V S A B keys values).row
  node_send ks ky vs vy = search (sendable, heap.crosses, nodes.crosses_both) depth 40 fits 20000

  node_sync : IsSend A → IsSync A → IsSend B → IsSync B → IsSync (Node.the_field K V S A B keys values).row
  node_sync ks ky vs vy = search (sendable, heap.crosses, nodes.crosses_both) depth 40 fits 20000

  fields_send : IsSend (Node.the_field K V S A B keys values).row → IsSend (Inside.the_row K V S A B keys values)
  fields_send node =
      let T = Inside.the_type K V S A B keys values in
      owning_send T (node, tt) (λ d. tt) (λ k. quiet (to T) (exits_of k (fields T)) ((struct_send (shape T) (node, tt)).leaving k))

  fields_sync : IsSync (Node.the_field K V S A B keys values).row → IsSync (Inside.the_row K V S A B keys values)
  fields_sync node =
      let T = Inside.the_type K V S A B keys values in
      record { shared = λ d b o κ. ((struct_sync (shape T) (node, tt)).shared (to T d) b o κ, tt) }

  pub root_send : IsSend A → IsSend B → IsSync A → IsSync B → IsSend (Root.the_row K V S A B keys values)
  root_send ks vs ky vy = let inside = fields_send (node_send ks ky vs vy) in search sendable

  pub root_sync : IsSend A → IsSend B → IsSync A → IsSync B → IsSync (Root.the_row K V S A B keys values)
  root_sync ks vs ky vy = let inside = fields_sync (node_sync ks ky vs vy) in search sendable

-- of a version and of a view that is so by its fields
module _ (K V S A B : RattleType) (key : PathKey.Ghosts K.Denot) (order : Ord.Ghosts K.Denot) (keq : PartialEq.Ghosts K.Denot) (kord : PartialOrd.Ghosts K.Denot) (keys : KeySlots.Ghosts S.Denot K.Denot A.Denot) (values : ValueSlots.Ghosts S.Denot V.Denot B.Denot) where
  pub version_send : IsSend A → IsSync A → IsSend B → IsSync B → IsSend (Version.the_row K V S A B key order keq kord keys values)
  version_send ks ky vs vy = search (sendable, heap.crosses, root_send) depth 30

  pub version_sync : IsSend A → IsSync A → IsSend B → IsSync B → IsSync (Version.the_row K V S A B key order keq kord keys values)
  version_sync ks ky vs vy = search (sendable, heap.crosses, root_sync) depth 30

  pub view_send : IsSend A → IsSync A → IsSend B → IsSync B → IsSend (View.the_row K V S A B key order keq kord keys values)
  view_send ks ky vs vy = search (sendable, heap.crosses, root_send) depth 30

  pub view_sync : IsSend A → IsSync A → IsSend B → IsSync B → IsSync (View.the_row K V S A B key order keq kord keys values)
  view_sync ks ky vs vy = search (sendable, heap.crosses, root_sync) depth 30
