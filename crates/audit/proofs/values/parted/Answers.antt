use Rattle.std.proofs.Common.{◌-◌, length, refl}
use Rattle.audit.proofs.ValueLemmas.{parted_so}
use Rattle.audit.proofs.values.parted.Goals as goal

pub returns : goal.returns
returns c =
    let count = length c.args.bytes.now - length c.from_space-behind.result.now in
    parted_so c.args.bytes.now c.from_space-behind.result.now c.split_at.result.0.now c.split_at.result.1.now count c.from_space-behind.ensures.from refl c.split_at.ensures.front c.split_at.ensures.back
