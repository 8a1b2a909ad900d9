use Rattle.std.proofs.Common.{◌≡◌}
use Rattle.std.specs.Cmp.Lexicographic.{pointwise}
use Rattle.map_view.specs.Questions.{same_pair}
use Rattle.map_view.proofs.view.equality.same_pairs.Given as goal

-- what is left of both is equal where the whole is
abbrev pub invariant-loop-pair : goal.invariant-loop-pair
invariant-loop-pair g l = record {
  next : (goal.iterator-loop-pair g).can_next l.pair-iterator;
  finite : (goal.iterator-loop-pair g).is_finite l.pair-iterator;
  left : pointwise (same_pair g.K.PartialEq.eq g.V.PartialEq.eq) l.pair-iterator l.theirs ≡ pointwise (same_pair g.K.PartialEq.eq g.V.PartialEq.eq) l.fn.ours l.fn.theirs;
}
