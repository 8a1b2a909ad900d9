use Rattle.std.proofs.Common.{◌∙◌, ap, filter}
use Rattle.view_sets.proofs.sets.passed.Goals as goal

pub returns-clause-entries : goal.returns-clause-entries
returns-clause-entries g c p means =
    c.from_root.ensures.entries ∙ c.in_ok-root.ensures.map p means ∙ ap (filter (λ x. p x.0 x.1)) c.root.ensures.entries
