use Rattle.std.proofs.Common.{Err, refl}
use Rattle.stripe.proofs.stripe.Stripe.try_update.Goals as goal

pub returns-in-Err-clause-made : goal.returns-in-Err-clause-made
returns-in-Err-clause-made g c =
    let read = c.in-Err.ensures in
    (Err c.in-Err.error, (read.0, read.1, read.3), (refl, refl), (λ named. tt), tt)
