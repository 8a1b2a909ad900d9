use Rattle.std.proofs.Common.{◌+◌, ◌≤◌, length}
use Rattle.bulk_ops.specs.Meanings.{MayAnswer}
use Rattle.map_session.proofs.Turns.{Replaced}
use Rattle.map_session.proofs.session.Session.replace_each.Given as goal

-- those so far were given values one behind another, and with those to come they are no more than those of the view
abbrev pub invariant-loop-key : goal.invariant-loop-key
invariant-loop-key g l = record {
  next : (goal.iterator-loop-key g).can_next l.key-iterator;
  finite : (goal.iterator-loop-key g).is_finite l.key-iterator;
  few : l.given + length l.key-iterator ≤ length l.view;
  told : Replaced g.K.Ord.cmp g.K.PathKey.path_of (λ (k : g.row.K.Denot) (old made : g.row.V.Denot). MayAnswer g.F.Fn l.change k old made) l.given l.fn.self l.self;
}
