use Rattle.std.proofs.Common.{◌∙◌, ap, arith, length}
use Rattle.map_view.proofs.view.View.map_values.Goals as goal

pub returns-clause-few : goal.returns-clause-few
returns-clause-few g c = omega (arith, ap length c.from_root.ensures.entries, c.in_ok-root.ensures.count, ap length (c.root.ensures.entries ∙ c.self.view_is))
