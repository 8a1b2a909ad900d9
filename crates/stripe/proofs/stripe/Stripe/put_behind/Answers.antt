use Rattle.std.proofs.Common.{rules, sym, ◌∙◌}
use Rattle.stripe.proofs.stripe.Stripe.put_behind.Goals as goal

pub returns-in_err-change-clause-full : goal.returns-in_err-change-clause-full
returns-in_err-change-clause-full g c = (c.meet.new.self.log, c.meet.new.self.entries, c.meet.ensures.seen, (λ q mine. c.law-2.ensures.tells c.law.ensures q (mine ∙ sym c.meet.ensures.digit)), search rules)

pub returns-clause-full : goal.returns-clause-full
returns-clause-full g c = (c.meet.new.self.log, c.meet.new.self.entries, c.meet.ensures.seen, (λ q mine. c.law-2.ensures.tells c.law.ensures q (mine ∙ sym c.meet.ensures.digit)), c.in_ok-change.ensures.full)
