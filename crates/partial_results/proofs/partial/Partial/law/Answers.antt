use Rattle.std.proofs.Common.{subst}
use Rattle.iter.specs.Intervals.{AreApart}
use Rattle.partial_results.specs.Worked.{Uncut}
use Rattle.partial_results.proofs.partial.Partial.law.Goals as goal

pub returns-clause-apart : goal.returns-clause-apart
returns-clause-apart g c = subst AreApart c.self.view_is c.self.invariant.apart

pub returns-clause-uncut : goal.returns-clause-uncut
returns-clause-uncut g c = subst (Uncut g.K.PathKey.path_of g.C.OfView.map g.C.OfView.grain) c.self.view_is c.self.invariant.uncut
