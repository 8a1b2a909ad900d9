use Rattle.audit.specs.Reading.{HasRead}
use Rattle.audit.proofs.auditing.audit.Given as goal

abbrev pub invariant-loop-line : goal.invariant-loop-line
invariant-loop-line l = HasRead l.text l.over l.table l.line-iterator.0.now
