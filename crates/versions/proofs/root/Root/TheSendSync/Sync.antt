use denote.RattleType.{RattleType}
use denote.Param.Send.{IsSend, IsSync}
use Rattle.slots.specs.declared.storage.KeySlots as KeySlots
use Rattle.slots.specs.declared.storage.ValueSlots as ValueSlots
use Rattle.versions.specs.contracts.root.Root.{the_row}
use Rattle.versions.proofs.Crossing.{root_sync}

pub sync : (K V S A B : RattleType) (keys : KeySlots.Ghosts S.Denot K.Denot A.Denot) (values : ValueSlots.Ghosts S.Denot V.Denot B.Denot) → IsSend A → IsSend B → IsSync A → IsSync B → IsSync (the_row K V S A B keys values)
sync = root_sync
