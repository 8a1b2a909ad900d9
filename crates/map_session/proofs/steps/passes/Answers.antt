use Rattle.std.proofs.Common.{rules, subst}
use Rattle.bulk_ops.specs.Meanings.{MayAnswer}
use Rattle.map_session.proofs.steps.passes.Goals as goal

pub returns-in-Some : goal.returns-in-Some
returns-in-Some g c = record {
  fails = λ is. ((g.S.ValueSlots.value_of c.in-Some.value.now), search rules, subst (MayAnswer g.F.Fn c.args.test.now (g.S.KeySlots.key_of c.args.key.now) (g.S.ValueSlots.value_of c.in-Some.value.now)) is c.answer_in.ensures);
}
