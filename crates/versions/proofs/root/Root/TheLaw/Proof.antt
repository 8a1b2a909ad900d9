-- A `&` to the root holds what one to its node holds. Assumes `Logic`.
use denote.RattleType.{RattleType}
use denote.Param.Laws.{Laws}
use denote.SharingLaws.{nothing_shr_laws}
use denote.Struct.Lending.{of_Lends, Lends-nothing}
use Rattle.slots.specs.declared.storage.KeySlots as KeySlots
use Rattle.slots.specs.declared.storage.ValueSlots as ValueSlots
use Rattle.trie_shape.proofs.node.Node.TheLaws as node
use Rattle.versions.specs.contracts.root.Root.TheInside as Inside
use Rattle.versions.proofs.root.Root.TheLaw.Statement.{statement}

module _ (K V S A B : RattleType) (keys : KeySlots.Ghosts S.Denot K.Denot A.Denot) (values : ValueSlots.Ghosts S.Denot V.Denot B.Denot) (LK : Laws K) (LV : Laws V) (LS : Laws S) (LA : Laws A) (LB : Laws B) where
  pub shares : statement K V S A B keys values LK LV LS LA LB
  shares =
      of_Lends (Inside.struct K V S A B keys values) (Inside.the_codes K.Denot V.Denot S.Denot A.Denot B.Denot K.coded V.coded S.coded A.coded B.coded) (Inside.the_heap K V S A B keys values) (Inside.the_lent K V S A B keys values) (λ d p. nothing_shr_laws)
      (node.the_field_shared K V S A B keys values LK LV LS LA LB, tt)
      (λ M 𝓤 𝓛 d p. Lends-nothing 𝓛 (Inside.the_heap K V S A B keys values d) (Inside.the_row K V S A B keys values).lives)
