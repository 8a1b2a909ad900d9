use Rattle.arguments.proofs.BehindLemmas.{key_of_both}
use Rattle.arguments.proofs.behind.key_behind.Goals as goal

pub returns-in-Some : goal.returns-in-Some
returns-in-Some c = key_of_both c.args.front.now c.args.field.now c.in-Some.rest.now c.new.result c.in-Some.ensures c.new.ensures
