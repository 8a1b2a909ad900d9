use Rattle.std.proofs.Common.{ap}
use Rattle.std.specs.Cmp.Lexicographic.{pointwise}
use Rattle.map_view.specs.Questions.{same_pair}
use Rattle.map_view.proofs.Equality.{alike, apart, ended, longer}
use Rattle.map_view.proofs.view.equality.same_pairs.Goals as goal

pub loop-pair-init : goal.loop-pair-init
loop-pair-init g c = record { next = tt; finite = tt; left = ap (λ xs. pointwise (same_pair g.K.PartialEq.eq g.V.PartialEq.eq) xs c.args.theirs) c.into_iter-pair-iterator.ensures.into_iter_gives }

pub returns-then-not-are_same : goal.returns-then-not-are_same
returns-then-not-are_same g c = apart (same_pair g.K.PartialEq.eq g.V.PartialEq.eq) c.are_same.result c.in-Some.ensures.steps c.in-Some-next.ensures.steps c.loop-pair.invariant.left c.are_same.ensures c.if-not-are_same.true

pub loop-pair-preserved : goal.loop-pair-preserved
loop-pair-preserved g c = record { next = tt; finite = tt; left = alike (same_pair g.K.PartialEq.eq g.V.PartialEq.eq) c.are_same.result c.in-Some.ensures.steps c.in-Some-next.ensures.steps c.loop-pair.invariant.left c.are_same.ensures c.if-not-are_same.false }

pub returns-in-None-next : goal.returns-in-None-next
returns-in-None-next g c = longer (same_pair g.K.PartialEq.eq g.V.PartialEq.eq) c.in-Some.ensures.steps c.in-None-next.ensures.steps.0 c.loop-pair.invariant.left

pub returns : goal.returns
returns g c = ended (same_pair g.K.PartialEq.eq g.V.PartialEq.eq) _ _ _ c.is_none.result c.next-2.result c.in-None.ensures.steps.0 c.next-2.ensures.steps c.loop-pair.invariant.left c.is_none.ensures
