use Rattle.std.proofs.Common.{◌≡◌, None, ap, sym, ◌∙◌, subst}
use Rattle.write_history.specs.Rules.{Known}
use Rattle.write_history.proofs.Turning.{none_has}
use Rattle.write_history.proofs.part.Part.law.Goals as goal

pub returns : goal.returns
returns g c = λ none. subst (λ (x : Known _ _). x.digit ≡ None) c.self.view_is (none_has g.K.PathKey.path_of g.J.Naming.book c.self.inside.rights.book c.self.inside.rights.cells c.self.inside.seen.log none c.self.invariant.right)
