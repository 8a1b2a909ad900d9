use Rattle.std.proofs.Common.{sym, subst}
use Rattle.std.specs.Str.{IsUtf8}
use Rattle.journal_lines.proofs.ReadLemmas.{line_is_text}
use Rattle.journal_lines.proofs.line.line_in.Goals as goal

pub returns-in_default : goal.returns-in_default
returns-in_default c = λ call reply seat hc hr hs is. c.in_default.ensures.cases.0 (subst IsUtf8 (sym is) (line_is_text c.args.number call reply seat c.ranges.number.fits hs hc hr))
