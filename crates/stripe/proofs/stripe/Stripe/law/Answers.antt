use Rattle.std.proofs.Common.{subst}
use Rattle.stripe.specs.Rules.{AllKeep, Belongs}
use Rattle.stripe.specs.Contents.{Content}
use Rattle.stripe.specs.Told.{Tells}
use Rattle.stripe.proofs.stripe.Stripe.law.Goals as goal

pub returns-clause-pairs : goal.returns-clause-pairs
returns-clause-pairs g c =
    subst (λ (s : Content _ _). AllKeep g.K.Ord.cmp (Belongs g.K.PathKey.path_of g.P.Keeps.holds s.digit) s.entries) c.self.view_is c.self.invariant.belongs

pub returns-clause-tells : goal.returns-clause-tells
returns-clause-tells g c = λ named.
    subst (λ (s : Content _ _). Tells g.K.Ord.cmp g.K.PathKey.path_of s.digit s.entries s.log) c.self.view_is (c.self.invariant.told named).1
