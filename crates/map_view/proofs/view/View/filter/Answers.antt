use Rattle.std.proofs.Common.{◌∙◌, ap, arith, length}
use Rattle.bulk_work.specs.Answers.{passing}
use Rattle.map_view.proofs.view.View.filter.Goals as goal

pub returns-clause-entries : goal.returns-clause-entries
returns-clause-entries g c = λ p means. c.from_root.ensures.entries ∙ c.in_ok-root.ensures.map p means ∙ ap (passing p) (c.root.ensures.entries ∙ c.self.view_is)

pub returns-clause-few : goal.returns-clause-few
returns-clause-few g c = omega (arith, ap length c.from_root.ensures.entries, c.in_ok-root.ensures.count, ap length (c.root.ensures.entries ∙ c.self.view_is))
