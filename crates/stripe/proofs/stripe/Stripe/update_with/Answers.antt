use Rattle.stripe.proofs.stripe.Stripe.update_with.Goals as goal

pub returns-in-Err-clause-made : goal.returns-in-Err-clause-made
returns-in-Err-clause-made g c =
    let made = c.read-made.ensures in
    (c.read-made.result.0, c.read-made.result.1, (made.0, made.1, made.3), (tt, c.in-Err.ensures.sets.1), tt, (λ named. tt), tt)
