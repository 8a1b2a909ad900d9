use Rattle.std.proofs.Common.{rules, ◌∷◌, [], ◌++◌, sym, subst, arith}
use Rattle.std.specs.Prelude.{All}
use Rattle.std.proofs.lemmas.List.Elements.{All-push}
use Rattle.std.proofs.lemmas.Result.{IfOk-weaker}
use Rattle.iter.specs.Intervals.{AreApart}
use Rattle.task_pool.proofs.Halving.{Halved, apart_lower, apart_upper, both_halves, halved, one_piece, same, uncut}
use Rattle.task_pool.proofs.sequential.+work_alone.Goals as goal

pub work-requires-clause-apart : goal.work-requires-clause-apart
work-requires-clause-apart g t c =
    let path = g.K.PathKey.path_of in
    let m = g.C.OfView.map in
    let grain = g.C.OfView.grain in
    let task = c.args.task in
    let lower = c.in-Ok.lower in
    subst (λ j. AreApart (c.args.partial ++ j ∷ [])) (sym (same path m grain task lower c.in-Ok.rest c.in-None.is c.in-Ok.ensures)) c.requires.apart

pub work-requires-clause-uncut : goal.work-requires-clause-uncut
work-requires-clause-uncut g t c =
    let path = g.K.PathKey.path_of in
    let m = g.C.OfView.map in
    let grain = g.C.OfView.grain in
    let task = c.args.task in
    let lower = c.in-Ok.lower in
    uncut path m grain task lower c.in-Ok.rest c.in-None.is c.in-Ok.ensures

pub returns-in-None-clause-did : goal.returns-in-None-clause-did
returns-in-None-clause-did g t c =
    let path = g.K.PathKey.path_of in
    let m = g.C.OfView.map in
    let grain = g.C.OfView.grain in
    let task = c.args.task in
    let lower = c.in-Ok.lower in
    IfOk-weaker c.work.result _ _ (λ all is. one_piece c.args.partial all task lower (same path m grain task lower c.in-Ok.rest c.in-None.is c.in-Ok.ensures) is) c.work.ensures

pub work_alone-requires : goal.work_alone-requires
work_alone-requires g t c κs within =
    let path = g.K.PathKey.path_of in
    let m = g.C.OfView.map in
    let grain = g.C.OfView.grain in
    let task = c.args.task in
    let lower = c.in-Ok.lower in
    let h : Halved task lower c.in-Some.upper = halved path c.law_of_cuts.ensures.divide m grain task lower c.in-Some.upper c.in-Ok.rest c.in-Some.is c.in-Ok.ensures in
    let short = h.first in
    (omega (arith, short, c.decreases), (search rules, (search rules, (search rules, (search rules, (search rules, (search rules, (search rules, (search rules, (search rules, (c.requires.grain, apart_lower c.args.partial task lower c.in-Some.upper h c.requires.apart)))))))))))

pub work_alone-requires-in-Ok-work_alone : goal.work_alone-requires-in-Ok-work_alone
work_alone-requires-in-Ok-work_alone g t c κs within =
    let path = g.K.PathKey.path_of in
    let m = g.C.OfView.map in
    let grain = g.C.OfView.grain in
    let task = c.args.task in
    let lower = c.in-Ok.lower in
    let h : Halved task lower c.in-Some.upper = halved path c.law_of_cuts.ensures.divide m grain task lower c.in-Some.upper c.in-Ok.rest c.in-Some.is c.in-Ok.ensures in
    let short = h.second in
    (omega (arith, short, c.decreases), (search rules, (search rules, (search rules, (search rules, (search rules, (search rules, (search rules, (search rules, (search rules, (c.requires.grain, apart_upper c.args.partial c.in-Ok-work_alone.partial task lower c.in-Some.upper h c.requires.apart c.in-Ok-work_alone.ensures.did)))))))))))

pub returns-in-Ok-work_alone-clause-did : goal.returns-in-Ok-work_alone-clause-did
returns-in-Ok-work_alone-clause-did g t c =
    let path = g.K.PathKey.path_of in
    let m = g.C.OfView.map in
    let grain = g.C.OfView.grain in
    let task = c.args.task in
    let lower = c.in-Ok.lower in
    let h : Halved task lower c.in-Some.upper = halved path c.law_of_cuts.ensures.divide m grain task lower c.in-Some.upper c.in-Ok.rest c.in-Some.is c.in-Ok.ensures in
    IfOk-weaker c.work_alone-in-Ok-work_alone.result _ _ (λ all rest. both_halves c.args.partial c.in-Ok-work_alone.partial all task lower c.in-Some.upper h c.in-Ok-work_alone.ensures.did rest) c.work_alone-in-Ok-work_alone.ensures.did

pub returns-in-None-clause-asked : goal.returns-in-None-clause-asked
returns-in-None-clause-asked g t c =
    let Asked = g.G.Gate.asked c.args.shared.now.gate.now c.args.number in
    let lower = c.in-Ok.lower in
    let ask : Asked lower = subst Asked (λ i. record { lo = c.lo.ensures.lo i; hi = c.hi.ensures.hi i }) c.before-in-None.ensures in
    IfOk-weaker c.work.result _ _ (λ all is was. subst (All Asked) (sym is) (All-push Asked c.args.partial lower was ask)) c.work.ensures

pub returns-in-Ok-work_alone-clause-asked : goal.returns-in-Ok-work_alone-clause-asked
returns-in-Ok-work_alone-clause-asked g t c =
    IfOk-weaker c.work_alone-in-Ok-work_alone.result _ _ (λ all is was. is (c.in-Ok-work_alone.ensures.asked was)) c.work_alone-in-Ok-work_alone.ensures.asked
