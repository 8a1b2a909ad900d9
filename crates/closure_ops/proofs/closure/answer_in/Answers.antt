use Rattle.std.proofs.Common.{subst}
use Rattle.bulk_ops.specs.Meanings.{MayAnswer}
use Rattle.closure_ops.proofs.closure.answer_in.Goals as goal

-- what is lent is the key and the value themselves
pub returns : goal.returns
returns g c =
    let may = MayAnswer g.F.Fn c.args.call.now in
    subst (λ k. may k (g.S.ValueSlots.value_of c.args.value.now) c.answer_at.result) c.lend_key.ensures
    (subst (λ v. may c.lend_key.result.now v c.answer_at.result) c.lend_value.ensures c.answer_at.ensures)
