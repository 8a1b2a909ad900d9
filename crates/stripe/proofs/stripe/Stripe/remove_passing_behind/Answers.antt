use Rattle.std.proofs.Common.{is_some, sym, subst}
use Rattle.versions.specs.Map.{value_at}
use Rattle.write_history.specs.declared.entry.Write.TheVariants.{Remove}
use Rattle.write_history.specs.Signers.{WroteIf}
use Rattle.stripe.proofs.Deciding.{removed_was}
use Rattle.stripe.proofs.Seeing.{wrote_behind}
use Rattle.stripe.proofs.stripe.Stripe.remove_passing_behind.Goals as goal

pub returns-clause-tested : goal.returns-clause-tested
returns-clause-tested g c =
    let R = g.K.Ord.cmp in
    let path = g.K.PathKey.path_of in
    let k = g.Q.Sought.key_of c.args.key in
    let removed = c.in_ok-removed.removed in
    let found = value_at R c.meet.new.self.entries k in
    let told = c.in_ok-removed.ensures.removed in (
      found,
      subst (WroteIf R path (is_some removed) (Remove k) k found c.args.author.now c.args.front.now) (sym c.tell.ensures)
          (wrote_behind R path (is_some removed) (Remove k) k found c.args.author.now c.args.front.now c.meet.new.self.log c.remove_passing.new.self.log c.meet.ensures.seen (c.in_ok-removed.ensures.wrote c.law.ensures)),
      c.in_ok-removed.ensures.tested,
      removed_was g.S.ValueSlots.value_of found told.0 removed told.3,
    )
