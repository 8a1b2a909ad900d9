use Rattle.std.proofs.Common.{rules}
use Rattle.map_reader.proofs.Sights.{sees_more, sees_same}
use Rattle.map_reader.proofs.sight.Sight.whole.Goals.{in-Some, in-None}
use Rattle.map_reader.proofs.sight.Sight.whole.Goals as goal

pub invariant_of-self : goal.invariant_of-self
invariant_of-self g c =
    elim c.match-self.branch [
      | in-Some w ↦ sees_more g.W.Since.since _ _ c.self.inside.front _ c.self.invariant (search rules) w.moment.ensures.seen (search rules)
      | in-None w ↦ sees_same g.W.Since.since c.self.inside.front _ c.self.invariant (search rules)
    ]
