use Rattle.std.proofs.Common.{◌≡◌, ◌+◌, ◌≤◌, false, length}
use Rattle.std.specs.Prelude.{All}
use Rattle.bulk_ops.specs.Meanings.{MayAnswer}
use Rattle.versions.specs.Map.{Map}
use Rattle.map_session.specs.Sessions.{InTurn, Removes}
use Rattle.map_session.proofs.session.Session.remove_all_failing.Given as goal

-- those so far were removed one behind another, and with those to come they are no more than those of the view
abbrev pub invariant-loop-key : goal.invariant-loop-key
invariant-loop-key g l = record {
  next : (goal.iterator-loop-key g).can_next l.key-iterator;
  finite : (goal.iterator-loop-key g).is_finite l.key-iterator;
  callable : goal.F-IsAlwaysCallable g l.test;
  few : l.removed + length l.key-iterator ≤ length l.view;
  told : (gone : Map g.row.K.Denot g.row.V.Denot) × InTurn (Removes g.K.Ord.cmp g.K.PathKey.path_of) gone l.fn.self l.self × All (λ pair. g.P.Keeps.holds pair.0 pair.1 × MayAnswer g.F.Fn l.test pair.0 pair.1 false) gone × (l.removed ≡ length gone);
}
