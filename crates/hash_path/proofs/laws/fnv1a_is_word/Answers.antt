use Rattle.hash_path.specs.Fnv.{fnv1a-below}
use Rattle.hash_path.proofs.laws.fnv1a_is_word.Goals as goal

pub returns-clause-small : goal.returns-clause-small
returns-clause-small c = fnv1a-below
