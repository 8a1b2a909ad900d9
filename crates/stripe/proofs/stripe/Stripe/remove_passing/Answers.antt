use Rattle.std.proofs.Common.{Option, is_some, subst}
use Rattle.std.proofs.lemmas.Result.{IfOk-weaker}
use Rattle.versions.specs.Map.{value_at}
use Rattle.write_history.specs.declared.entry.Write.TheVariants.{Remove}
use Rattle.write_history.specs.Signers.{WroteIf}
use Rattle.stripe.specs.Updates.{MayPass}
use Rattle.stripe.proofs.Deciding.{if_ok_both, passed}
use Rattle.stripe.proofs.Seeing.{wrote_none}
use Rattle.stripe.proofs.stripe.Stripe.remove_passing.Goals as goal

pub returns-then-passes-clause-tested : goal.returns-then-passes-clause-tested
returns-then-passes-clause-tested g c =
    let here = value_at g.K.Ord.cmp c.args.self.now.entries (g.Q.Sought.key_of c.args.key) in
    let may = subst (MayPass g.F.FnOnce c.args.test here) c.if-passes.true c.passes.ensures in
    IfOk-weaker c.remove.result _ _ (λ before is. passed g.F.FnOnce c.args.test g.S.ValueSlots.value_of here before may is) c.remove.ensures.before

pub returns-then-passes-clause-wrote : goal.returns-then-passes-clause-wrote
returns-then-passes-clause-wrote g c = λ named.
    let k = g.Q.Sought.key_of c.args.key in
    if_ok_both c.remove.result
    (λ before is wrote. subst (λ (o : Option g.row.V.Denot). WroteIf g.K.Ord.cmp g.K.PathKey.path_of (is_some before) (Remove k) k o c.args.author.now c.args.self.now.log c.remove.new.self.log) is wrote)
    c.remove.ensures.before (c.remove.ensures.wrote named)

pub returns-else-passes-clause-tested : goal.returns-else-passes-clause-tested
returns-else-passes-clause-tested g c =
    let here = value_at g.K.Ord.cmp c.args.self.now.entries (g.Q.Sought.key_of c.args.key) in
    subst (MayPass g.F.FnOnce c.args.test here) c.if-passes.false c.passes.ensures

pub returns-else-passes-clause-wrote : goal.returns-else-passes-clause-wrote
returns-else-passes-clause-wrote g c = λ named.
    let k = g.Q.Sought.key_of c.args.key in
    wrote_none g.K.Ord.cmp g.K.PathKey.path_of (Remove k) k _ c.args.author.now c.args.self.now.log (c.law.ensures.tells named k c.requires.place)
