use Rattle.audit.proofs.ValueLemmas.{from_found, from_none, from_within}
use Rattle.audit.proofs.values.from_space.Goals as goal

pub returns-then-first-eq32-clause-from : goal.returns-then-first-eq32-clause-from
returns-then-first-eq32-clause-from c = from_found c.args.bytes.now c.bytes.left.now c.in-Some.rest.now c.in-Some.first.now c.bytes.invariant c.in-Some.ensures.cases.0 c.if-first-eq32.true

pub returns-then-first-eq32-clause-within : goal.returns-then-first-eq32-clause-within
returns-then-first-eq32-clause-within c = from_within c.args.bytes.now c.bytes.left.now (from_found c.args.bytes.now c.bytes.left.now c.in-Some.rest.now c.in-Some.first.now c.bytes.invariant c.in-Some.ensures.cases.0 c.if-first-eq32.true)

pub returns-clause-from : goal.returns-clause-from
returns-clause-from c = from_none c.args.bytes.now c.bytes.left.now c.bytes.invariant c.in_default.ensures.cases

pub returns-clause-within : goal.returns-clause-within
returns-clause-within c = from_within c.args.bytes.now c.bytes.left.now (from_none c.args.bytes.now c.bytes.left.now c.bytes.invariant c.in_default.ensures.cases)
