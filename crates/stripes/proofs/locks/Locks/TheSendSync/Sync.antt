use denote.RattleType.{RattleType}
use denote.Param.Send.{IsSend, IsSync}
use Rattle.slots.specs.declared.storage.KeySlots as KeySlots
use Rattle.slots.specs.declared.storage.ValueSlots as ValueSlots
use Rattle.std.specs.declared.cmp.Eq as Eq
use Rattle.std.specs.declared.cmp.Ord as Ord
use Rattle.std.specs.declared.cmp.PartialEq as PartialEq
use Rattle.std.specs.declared.cmp.PartialOrd as PartialOrd
use Rattle.hash_path.specs.declared.key.PathKey as PathKey
use Rattle.stripe.specs.declared.keeps.Keeps as Keeps
use Rattle.write_history.specs.declared.book.Naming as Naming
use Rattle.stripes.specs.contracts.locks.Locks.{the_row}
use Rattle.stripes.proofs.Crossing.{locks_sync}

pub sync : (K V P J S A B : RattleType) (key : PathKey.Ghosts K.Denot) (order : Ord.Ghosts K.Denot) (equal : Eq.Ghosts K.Denot) (keq : PartialEq.Ghosts K.Denot) (kord : PartialOrd.Ghosts K.Denot) (keeps : Keeps.Ghosts P.Denot K.Denot V.Denot) (naming : Naming.Ghosts J.Denot) (keys : KeySlots.Ghosts S.Denot K.Denot A.Denot) (values : ValueSlots.Ghosts S.Denot V.Denot B.Denot) → IsSend A → IsSend B → IsSync A → IsSync B → IsSync (the_row K V P J S A B key order equal keq kord keeps naming keys values)
sync = locks_sync
