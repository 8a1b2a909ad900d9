use Rattle.std.proofs.Common.{List}
use Rattle.std.specs.Iterator.{Yields}
use Rattle.map_session.specs.Iterables.{KeepsFrom}
use Rattle.map_session.specs.Sessions.{InTurn, Puts}
use Rattle.map_session.proofs.session.Session.extend_from.Given as goal

-- the pairs that came so far were put, and each that is still to come keeps the rule
abbrev pub invariant-loop-key : goal.invariant-loop-key
invariant-loop-key g l = record {
  next : (goal.iterator-loop-key g).can_next l.key-iterator;
  finite : (goal.iterator-loop-key g).is_finite l.key-iterator;
  kept : KeepsFrom g.P.Keeps.holds (goal.iterator-loop-key g).next_gives l.key-iterator;
  put : (done : List (g.row.K.Denot × g.row.V.Denot)) × ((s : _) × g.I.IntoIterator.into_iter_gives l.fn.pairs s × Yields (goal.iterator-loop-key g).next_gives s done l.key-iterator) × InTurn (Puts g.K.Ord.cmp g.K.PathKey.path_of) done l.fn.self l.self;
}
