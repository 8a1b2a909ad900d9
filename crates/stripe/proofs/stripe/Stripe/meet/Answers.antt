use Rattle.std.proofs.Common.{refl}
use Rattle.stripe.proofs.Telling as telling
use Rattle.stripe.proofs.stripe.Stripe.meet.Goals as goal

pub invariant_of-self : goal.invariant_of-self
invariant_of-self g c =
    let s = c.self.inside in
    telling.stripe_stays g.K.Ord.cmp g.K.PathKey.path_of g.P.Keeps.holds g.J.Naming.book s.first_digit s.version s.part c.self.invariant s.version c.meet.new.self refl refl c.meet.ensures.digit c.meet.ensures.same
