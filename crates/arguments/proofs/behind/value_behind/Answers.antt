use Rattle.arguments.proofs.BehindLemmas.{value_of_both}
use Rattle.arguments.proofs.behind.value_behind.Goals as goal

pub returns-in-Some : goal.returns-in-Some
returns-in-Some c = value_of_both c.args.front.now c.args.field.now c.in-Some.rest.now c.value_of.result c.in-Some.ensures c.value_of.ensures
