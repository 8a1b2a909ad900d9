-- A `&` to the latest base holds what one to its lock holds. Assumes `Logic`.
use denote.RattleType.{RattleType}
use denote.Param.Laws.{Laws}
use denote.SharingLaws.{nothing_shr_laws}
use denote.Struct.Lending.{of_Lends, Lends-nothing}
use Rattle.std.proofs.alloc.Global.TheLaws as global
use Rattle.std.proofs.option.Option.TheLaws as option
use Rattle.std.proofs.sync.Arc.TheLaws as arc
use Rattle.std.proofs.sync.Mutex.TheLaws as mutex
use Rattle.map_reader.proofs.base.Base.TheLaws as base
use Rattle.std.specs.contracts.alloc.Global as Heap
use Rattle.std.specs.contracts.impls.GlobalAllocator.TheImpl as allocator
use Rattle.std.specs.contracts.option.Option as Option
use Rattle.std.specs.contracts.sync.Arc as Arc
use Rattle.slots.specs.declared.storage.KeySlots as KeySlots
use Rattle.slots.specs.declared.storage.ValueSlots as ValueSlots
use Rattle.std.specs.declared.cmp.Eq as Eq
use Rattle.std.specs.declared.cmp.Ord as Ord
use Rattle.std.specs.declared.cmp.PartialEq as PartialEq
use Rattle.std.specs.declared.cmp.PartialOrd as PartialOrd
use Rattle.hash_path.specs.declared.key.PathKey as PathKey
use Rattle.stripe.specs.declared.keeps.Keeps as Keeps
use Rattle.write_history.specs.declared.book.Naming as Naming
use Rattle.map_reader.specs.declared.since.Since as Since
use Rattle.map_reader.specs.contracts.base.Base as Base
use Rattle.map_reader.specs.contracts.latest.LatestBase.TheInside as Inside
use Rattle.map_reader.proofs.latest.LatestBase.TheLaw.Statement.{statement}

module _ (K V P J W S A B : RattleType) (key : PathKey.Ghosts K.Denot) (order : Ord.Ghosts K.Denot) (equal : Eq.Ghosts K.Denot) (keq : PartialEq.Ghosts K.Denot) (kord : PartialOrd.Ghosts K.Denot) (keeps : Keeps.Ghosts P.Denot K.Denot V.Denot) (naming : Naming.Ghosts J.Denot) (from : Since.Ghosts W.Denot K.Denot V.Denot) (keys : KeySlots.Ghosts S.Denot K.Denot A.Denot) (values : ValueSlots.Ghosts S.Denot V.Denot B.Denot) (LK : Laws K) (LV : Laws V) (LP : Laws P) (LJ : Laws J) (LW : Laws W) (LS : Laws S) (LA : Laws A) (LB : Laws B) where
  abbrev Shared : RattleType
  Shared = Arc.the_row (Base.the_row K V P J W S A B key order equal keq kord keeps naming from keys values) Heap.the_row allocator.ghosts

  shared_laws : Laws Shared
  shared_laws = arc.the_row_laws (Base.the_row K V P J W S A B key order equal keq kord keeps naming from keys values) Heap.the_row allocator.ghosts (base.the_row_laws K V P J W S A B key order equal keq kord keeps naming from keys values LK LV LP LJ LW LS LA LB) global.the_row_laws

  pub shares : statement K V P J W S A B key order equal keq kord keeps naming from keys values LK LV LP LJ LW LS LA LB
  shares =
      of_Lends (Inside.struct K V P J W S A B key order equal keq kord keeps naming from keys values) (Inside.the_codes K.Denot V.Denot P.Denot J.Denot W.Denot S.Denot A.Denot B.Denot K.coded V.coded P.coded J.coded W.coded S.coded A.coded B.coded) (Inside.the_heap K V P J W S A B key order equal keq kord keeps naming from keys values) (Inside.the_lent K V P J W S A B key order equal keq kord keeps naming from keys values) (λ d p. nothing_shr_laws)
      (mutex.the_field_shared (Option.the_row Shared) (option.the_row_laws Shared shared_laws), tt)
      (λ M 𝓤 𝓛 d p. Lends-nothing 𝓛 (Inside.the_heap K V P J W S A B key order equal keq kord keeps naming from keys values d) (Inside.the_row K V P J W S A B key order equal keq kord keeps naming from keys values).lives)
