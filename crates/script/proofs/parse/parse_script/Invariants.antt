use Rattle.script.proofs.ReadLemmas.{HasRead}
use Rattle.script.proofs.parse.parse_script.Given as goal

abbrev pub invariant-loop-line : goal.invariant-loop-line
invariant-loop-line l = HasRead l.text l.number l.lines.items l.line-iterator.0.now
