use Rattle.std.proofs.Common.{◌≡◌, List, ◌++◌}
use Rattle.std.specs.Prelude.{All}
use Rattle.map_session.specs.Sessions.{InTurn, Puts}
use Rattle.map_session.proofs.session.Session.extend.Given as goal

-- the pairs so far were put, and those to come keep the rule
abbrev pub invariant-loop-key : goal.invariant-loop-key
invariant-loop-key g l = record {
  kept : All (λ pair. g.P.Keeps.holds pair.0 pair.1) l.key-iterator.rest.items;
  put : (done : List (g.row.K.Denot × g.row.V.Denot)) × (l.fn.pairs.items ≡ done ++ l.key-iterator.rest.items) × InTurn (Puts g.K.Ord.cmp g.K.PathKey.path_of) done l.fn.self l.self;
}
