use Rattle.audit.proofs.ValueLemmas.{no_space, no_key, value_stripped}
use Rattle.audit.proofs.values.behind_key.Goals as goal

pub returns-in_default : goal.returns-in_default
returns-in_default c = no_space c.args.key.now c.args.bytes.now c.in_default.ensures.cases

pub returns-in_default-strip_prefix : goal.returns-in_default-strip_prefix
returns-in_default-strip_prefix c = no_key c.args.key.now c.args.bytes.now c.in-Some.pair.now c.in-Some.ensures.cases.1 c.in_default-strip_prefix.ensures.cases

pub returns : goal.returns
returns c = value_stripped (λ r. r.now) c.args.key.now c.args.bytes.now c.in-Some.pair.now c.in-Some-strip_prefix.rest.now c.strip_prefix-3.result c.in-Some.ensures.cases.1 c.in-Some-strip_prefix.ensures.cases.1 c.strip_prefix-3.ensures.cases
