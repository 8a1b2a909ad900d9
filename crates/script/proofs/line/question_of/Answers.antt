use Rattle.std.proofs.Common.{rules}
use Rattle.script.specs.Lines.{fields_of}
use Rattle.script.proofs.VerbLemmas.{unknown_question}
use Rattle.script.proofs.line.question_of.Goals as goal

pub returns-in_default-clause-err : goal.returns-in_default-clause-err
returns-in_default-clause-err c = unknown_question c.args.verb.now (fields_of c.args.fields.0.now) c.requires (search rules)
