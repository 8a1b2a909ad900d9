use Rattle.group_counts.proofs.Places.{count_read}
use Rattle.group_counts.proofs.groups.Groups.get.Goals as goal

pub returns-in-Ok : goal.returns-in-Ok
returns-in-Ok g c = count_read g.G.Ord.cmp g.met.G.Ord.total c.self.inside.rows.items c.args.self.now c.self.view_is c.args.group.now c.in-Ok.at c.index.result.now c.in-Ok.ensures.found c.index.ensures
