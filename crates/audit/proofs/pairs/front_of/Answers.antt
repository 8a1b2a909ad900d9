use Rattle.audit.proofs.SpaceLemmas.{front_found, no_front}
use Rattle.audit.proofs.pairs.front_of.Goals as goal

pub returns-then-last-eq32 : goal.returns-then-last-eq32
returns-then-last-eq32 c = front_found c.args.bytes.now c.bytes.left.now c.in-Some.front.now c.in-Some.last.now c.bytes.invariant c.in-Some.ensures.cases.0 c.if-last-eq32.true

pub returns : goal.returns
returns c = no_front c.args.bytes.now c.bytes.left.now c.bytes.invariant c.in_default.ensures.cases
