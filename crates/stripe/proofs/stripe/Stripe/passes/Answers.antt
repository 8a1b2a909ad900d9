use Rattle.std.proofs.Common.{Option, refl, subst}
use Rattle.stripe.specs.Updates.{MayPass}
use Rattle.stripe.proofs.stripe.Stripe.passes.Goals as goal

pub returns-in-Some : goal.returns-in-Some
returns-in-Some g c =
    subst (λ (o : Option g.row.V.Denot). MayPass g.F.FnOnce c.args.test o c.test.result) c.in-Some.ensures.value (c.in-Some.value, refl, c.test.ensures)
