use Rattle.std.proofs.Common.{◌≡◌, ◌++◌, ◌∷◌, ◌-◌, ◌+◌, [], sym, ap, ◌∙◌, arith}
use Rattle.top_pairs.specs.Merges.{highest}
use Rattle.top_pairs.proofs.Places.{at_end, one_step}
use Rattle.top_pairs.proofs.ranked.merged.Goals as goal

pub returns-in_default : goal.returns-in_default
returns-in_default g c =
    sym (at_end g.N.Ord.cmp (c.args.most - c.loop.counter) c.loop.both.items c.loop.first.now c.loop.second.now c.in_default.ensures.0 c.in_default.ensures.1) ∙ c.loop.invariant.told

pub loop-preserved : goal.loop-preserved
loop-preserved g c =
    let R = g.N.Ord.cmp in
    let left = highest R (c.args.most - (c.loop.counter + 1)) c.in-Some.rest.now c.in-Some.others.now in
    let pushed : c.push.new.self.items ≡ c.loop.both.items ++ c.in-Some.item.now ∷ [] =
    c.in_ok-push.ensures.items ∙ ap (λ x. c.loop.both.items ++ x ∷ []) c.in_ok-try_clone.ensures in
    record {
      within = omega (arith, c.loop-test.true);
      told = ap (λ l. l ++ left) pushed ∙ (one_step R c.args.most c.loop.counter c.loop.both.items c.loop.first.now c.loop.second.now c.in-Some.rest.now c.in-Some.others.now c.in-Some.item.now c.loop-test.true c.in-Some.ensures ∙ c.loop.invariant.told);
    }
