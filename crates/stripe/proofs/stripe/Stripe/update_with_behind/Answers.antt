use Rattle.std.proofs.Common.{◌||◌, Option, is_some, option_map, rules, sym, ◌∙◌, subst}
use Rattle.write_history.specs.Signers.{WroteIf}
use Rattle.stripe.specs.Updates.{MayMake, write_of}
use Rattle.stripe.proofs.Seeing.{wrote_behind}
use Rattle.stripe.proofs.stripe.Stripe.update_with_behind.Goals as goal

pub returns-clause-made : goal.returns-clause-made
returns-clause-made g c =
    let R = g.K.Ord.cmp in
    let path = g.K.PathKey.path_of in
    let k = c.args.key in
    let both = c.in_ok-both.both in
    let before = option_map g.S.ValueSlots.value_of both.0 in
    let made = c.in_ok-both.ensures.made in
    let done = is_some made.0 || is_some both.0 in
    let at_before = subst (λ (o : Option g.row.V.Denot). MayMake g.F.FnOnce c.args.change o (made.0, made.1)) (sym c.in_ok-both.ensures.before) made.2 in (
      made.0,
      subst (λ (answer : g.row.T.Denot). MayMake g.F.FnOnce c.args.change before (made.0, answer)) (sym made.4) at_before,
      subst (WroteIf R path done (write_of k made.0) k before c.args.author.now c.args.front.now) (sym c.tell.ensures)
          (wrote_behind R path done (write_of k made.0) k before c.args.author.now c.args.front.now c.meet.new.self.log c.update_with.new.self.log c.meet.ensures.seen (made.5 c.law.ensures)),
      made.6,
    )

pub returns-clause-full : goal.returns-clause-full
returns-clause-full g c =
    let made = c.in_ok-both.ensures.made in
    (made.0, made.1, (c.meet.new.self.log, c.meet.new.self.entries, c.meet.ensures.seen, (λ q mine. c.law-2.ensures.tells c.law.ensures q (mine ∙ sym c.meet.ensures.digit)), (made.2, made.3.1)))

pub returns-in_err-both-clause-full : goal.returns-in_err-both-clause-full
returns-in_err-both-clause-full g c =
    let made = c.in_err-both.ensures.made in
    let full = made.3.1 in
    (made.0, made.1, (c.meet.new.self.log, c.meet.new.self.entries, c.meet.ensures.seen, (λ q mine. c.law-2.ensures.tells c.law.ensures q (mine ∙ sym c.meet.ensures.digit)), (made.2, search rules)))
