use Rattle.std.proofs.Common.{rules}
use Rattle.std.proofs.lemmas.Int.{wraps}
use Rattle.arguments.proofs.mapping.Mapping.new_value.Goals as goal

pub returns-in-Add : goal.returns-in-Add
returns-in-Add c = search (rules, wraps)
