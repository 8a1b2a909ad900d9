use Rattle.std.proofs.Common.{◌≡◌, ◌||◌, Option, is_some, option_map, rules, ap, sym, ◌∙◌, subst}
use Rattle.versions.specs.Map.{value_at}
use Rattle.write_history.specs.Signers.{Read, WroteIf}
use Rattle.stripe.specs.Contents.{Content}
use Rattle.stripe.specs.Updates.{MayMake, made_of, write_of}
use Rattle.stripe.proofs.Deciding.{if_err_made, if_ok_made, tried_full}
use Rattle.stripe.proofs.Seeing.{wrote_behind}
use Rattle.stripe.proofs.stripe.Stripe.try_update_behind.Goals as goal

pub returns-clause-made : goal.returns-clause-made
returns-clause-made g c =
    let R = g.K.Ord.cmp in
    let path = g.K.PathKey.path_of in
    let k = c.args.key in
    let tried = c.in_ok-done.ensures.made in
    let made = made_of tried.0 in
    if_ok_made R _ _ k tried.0 c.in_ok-done.done _ _ _ _ tried.2 c.in_ok-done.ensures.before (tried.3 c.law.ensures) tried.4
    (λ before is same wrote signed.
    let at_before = subst (λ (o : Option g.row.V.Denot). MayMake g.F.FnOnce c.args.change o tried.0) (sym same) tried.1 in
    let old = option_map g.S.ValueSlots.value_of before in
    let done = is_some made || is_some before in (
      made,
      subst (MayMake g.F.FnOnce c.args.change old) is at_before,
      subst (WroteIf R path done (write_of k made) k old c.args.author.now c.args.front.now) (sym c.tell.ensures)
          (wrote_behind R path done (write_of k made) k old c.args.author.now c.args.front.now c.meet.new.self.log c.try_update.new.self.log c.meet.ensures.seen wrote),
      signed,
    ))

pub returns-clause-failed : goal.returns-clause-failed
returns-clause-failed g c =
    let R = g.K.Ord.cmp in
    let path = g.K.PathKey.path_of in
    let k = c.args.key in
    let tried = c.in_ok-done.ensures.made in
    let found = value_at R c.meet.new.self.entries k in
    if_err_made R _ _ k tried.0 c.in_ok-done.done _ _ tried.2 c.in_ok-done.ensures.failed
    (λ error is same.
    let log : c.tell.new.front ≡ c.meet.new.self.log = c.tell.ensures ∙ ap (λ (s : Content _ _). s.log) same.0 in (
      found,
      subst (Read R path k found c.args.front.now) (sym log) (c.meet.ensures.seen, c.law-2.ensures.tells c.law.ensures k (c.requires.place ∙ sym c.meet.ensures.digit)),
      subst (MayMake g.F.FnOnce c.args.change found) is tried.1,
      same.1,
    ))

pub returns-clause-full : goal.returns-clause-full
returns-clause-full g c =
    let tried = c.in_ok-done.ensures.made in
    (tried.0, (c.meet.new.self.log, c.meet.new.self.entries, c.meet.ensures.seen, (λ q mine. c.law-2.ensures.tells c.law.ensures q (mine ∙ sym c.meet.ensures.digit)), (tried.1, tried_full g.K.Ord.cmp _ _ c.args.key tried.0 _ tried.2)))

pub returns-in_err-done-clause-full : goal.returns-in_err-done-clause-full
returns-in_err-done-clause-full g c =
    let tried = c.in_err-done.ensures.made in
    let full = tried_full g.K.Ord.cmp _ _ c.args.key tried.0 _ tried.2 in
    (tried.0, (c.meet.new.self.log, c.meet.new.self.entries, c.meet.ensures.seen, (λ q mine. c.law-2.ensures.tells c.law.ensures q (mine ∙ sym c.meet.ensures.digit)), (tried.1, search rules)))
