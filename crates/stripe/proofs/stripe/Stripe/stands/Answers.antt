use Rattle.std.proofs.Common.{subst}
use Rattle.stripe.specs.Contents.{Content}
use Rattle.stripe.specs.Told.{Tells}
use Rattle.stripe.proofs.Telling as telling
use Rattle.stripe.proofs.stripe.Stripe.stands.Goals as goal

pub returns-clause-tells : goal.returns-clause-tells
returns-clause-tells g c = λ named.
    let s = c.self.inside in
    let front = c.args.front.now in
    let told = c.self.invariant.told named in
    subst (λ (x : Content _ _). Tells g.K.Ord.cmp g.K.PathKey.path_of x.digit x.entries front) c.self.view_is
    (telling.tells_same g.K.Ord.cmp g.K.PathKey.path_of s.first_digit s.part.digit s.version.entries s.part.log front told.0 told.1 c.stands.ensures.same)
