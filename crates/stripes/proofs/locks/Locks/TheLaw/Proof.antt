-- A `&` to the locks holds what one to their list holds. Assumes `Logic`.
use denote.RattleType.{RattleType}
use denote.Param.Laws.{Laws}
use denote.SharingLaws.{nothing_shr_laws}
use denote.Struct.Lending.{of_Lends, Lends-nothing}
use Rattle.std.proofs.alloc.Global.TheLaws as global
use Rattle.std.proofs.sync.Mutex.TheLaws as mutex
use Rattle.std.proofs.vec.Vec.TheLaws as vec
use Rattle.crossbeam_utils.proofs.cache_padded.CachePadded.TheLaws as padded
use Rattle.stripe.proofs.stripe.Stripe.TheLaws as stripe
use Rattle.std.specs.contracts.alloc.Global as Heap
use Rattle.std.specs.contracts.impls.GlobalAllocator.TheImpl as allocator
use Rattle.std.specs.contracts.sync.Mutex as Mutex
use Rattle.slots.specs.declared.storage.KeySlots as KeySlots
use Rattle.slots.specs.declared.storage.ValueSlots as ValueSlots
use Rattle.std.specs.declared.cmp.Eq as Eq
use Rattle.std.specs.declared.cmp.Ord as Ord
use Rattle.std.specs.declared.cmp.PartialEq as PartialEq
use Rattle.std.specs.declared.cmp.PartialOrd as PartialOrd
use Rattle.hash_path.specs.declared.key.PathKey as PathKey
use Rattle.stripe.specs.declared.keeps.Keeps as Keeps
use Rattle.write_history.specs.declared.book.Naming as Naming
use Rattle.crossbeam_utils.specs.contracts.cache_padded.CachePadded as CachePadded
use Rattle.stripes.specs.contracts.locks.Locks.TheInside as Inside
use Rattle.stripe.specs.contracts.stripe.Stripe as Stripe
use Rattle.stripes.proofs.locks.Locks.TheLaw.Statement.{statement}

module _ (K V P J S A B : RattleType) (key : PathKey.Ghosts K.Denot) (order : Ord.Ghosts K.Denot) (equal : Eq.Ghosts K.Denot) (keq : PartialEq.Ghosts K.Denot) (kord : PartialOrd.Ghosts K.Denot) (keeps : Keeps.Ghosts P.Denot K.Denot V.Denot) (naming : Naming.Ghosts J.Denot) (keys : KeySlots.Ghosts S.Denot K.Denot A.Denot) (values : ValueSlots.Ghosts S.Denot V.Denot B.Denot) (LK : Laws K) (LV : Laws V) (LP : Laws P) (LJ : Laws J) (LS : Laws S) (LA : Laws A) (LB : Laws B) where
  abbrev Lock : RattleType
  Lock = CachePadded.the_row (Mutex.the_row (Stripe.the_row K V P J S A B key order equal keq kord keeps naming keys values))

  lock_laws : Laws Lock
  lock_laws = padded.the_row_laws (Mutex.the_row (Stripe.the_row K V P J S A B key order equal keq kord keeps naming keys values)) (mutex.the_row_laws (Stripe.the_row K V P J S A B key order equal keq kord keeps naming keys values) (stripe.the_row_laws K V P J S A B key order equal keq kord keeps naming keys values LK LV LP LJ LS LA LB))

  pub shares : statement K V P J S A B key order equal keq kord keeps naming keys values LK LV LP LJ LS LA LB
  shares =
      of_Lends (Inside.struct K V P J S A B key order equal keq kord keeps naming keys values) (Inside.the_codes K.Denot V.Denot P.Denot J.Denot S.Denot A.Denot B.Denot K.coded V.coded P.coded J.coded S.coded A.coded B.coded) (Inside.the_heap K V P J S A B key order equal keq kord keeps naming keys values) (Inside.the_lent K V P J S A B key order equal keq kord keeps naming keys values) (λ d p. nothing_shr_laws)
      (vec.the_field_shared Lock Heap.the_row allocator.ghosts lock_laws global.the_row_laws, tt)
      (λ M 𝓤 𝓛 d p. Lends-nothing 𝓛 (Inside.the_heap K V P J S A B key order equal keq kord keeps naming keys values d) (Inside.the_row K V P J S A B key order equal keq kord keeps naming keys values).lives)
