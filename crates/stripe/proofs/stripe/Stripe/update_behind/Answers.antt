use Rattle.std.proofs.Common.{◌||◌, Option, is_some, option_map, rules, sym, ◌∙◌, subst}
use Rattle.write_history.specs.Signers.{WroteIf}
use Rattle.stripe.specs.Updates.{MayMake, write_of}
use Rattle.stripe.proofs.Seeing.{wrote_behind}
use Rattle.stripe.proofs.stripe.Stripe.update_behind.Goals as goal

pub returns-clause-made : goal.returns-clause-made
returns-clause-made g c =
    let R = g.K.Ord.cmp in
    let path = g.K.PathKey.path_of in
    let k = c.args.key in
    let before = option_map g.S.ValueSlots.value_of c.in_ok-before.before in
    let made = c.in_ok-before.ensures.made in
    let done = is_some made.0 || is_some c.in_ok-before.before in (
      made.0,
      subst (λ (o : Option g.row.V.Denot). MayMake g.F.FnOnce c.args.change o made.0) (sym c.in_ok-before.ensures.before) made.1,
      subst (WroteIf R path done (write_of k made.0) k before c.args.author.now c.args.front.now) (sym c.tell.ensures)
          (wrote_behind R path done (write_of k made.0) k before c.args.author.now c.args.front.now c.meet.new.self.log c.update.new.self.log c.meet.ensures.seen (made.3 c.law.ensures)),
      made.4,
    )

pub returns-clause-full : goal.returns-clause-full
returns-clause-full g c =
    let made = c.in_ok-before.ensures.made in
    (made.0, (c.meet.new.self.log, c.meet.new.self.entries, c.meet.ensures.seen, (λ q mine. c.law-2.ensures.tells c.law.ensures q (mine ∙ sym c.meet.ensures.digit)), (made.1, made.2.1)))

pub returns-in_err-before-clause-full : goal.returns-in_err-before-clause-full
returns-in_err-before-clause-full g c =
    let made = c.in_err-before.ensures.made in
    let full = made.2.1 in
    (made.0, (c.meet.new.self.log, c.meet.new.self.entries, c.meet.ensures.seen, (λ q mine. c.law-2.ensures.tells c.law.ensures q (mine ∙ sym c.meet.ensures.digit)), (made.1, search rules)))
