use Rattle.std.proofs.Common.{◌∙◌, ap}
use Rattle.hash_path.specs.Fnv.{fnv1a}
use Rattle.hash_path.proofs.integers.U128PathKey.path.Goals as goal

pub returns : goal.returns
returns c = c.fnv1a.ensures ∙ ap fnv1a c.to_le_bytes.ensures
