use Rattle.std.proofs.Common.{Ok, sym, subst}
use Rattle.bulk_ops.specs.Meanings.{MayAnswer}
use Rattle.group_counts.proofs.sums.group_at.Goals as goal

pub returns : goal.returns
returns g c =
    subst (λ group. MayAnswer g.F.Fn c.args.call.now (g.S.KeySlots.key_of c.args.key.now) (g.S.ValueSlots.value_of c.args.value.now) (Ok group)) (sym c.in_ok-shared.ensures.ok) c.in_ok-group.ensures
