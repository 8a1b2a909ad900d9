use Rattle.std.proofs.Common.{rules}
use Rattle.map_reader.proofs.Sights.{sees_more, sees_same}
use Rattle.map_reader.proofs.sight.Sight.see.Goals.{in-Some, in_default}
use Rattle.map_reader.proofs.sight.Sight.see.Goals as goal

pub invariant_of-self : goal.invariant_of-self
invariant_of-self g c =
    elim c.match-self.branch [
      | in-Some w ↦ sees_more g.W.Since.since _ _ c.self.inside.front _ c.self.invariant (search rules) w.see.ensures.seen (search rules)
      | in_default w ↦ sees_same g.W.Since.since c.self.inside.front _ c.self.invariant (search rules)
    ]
