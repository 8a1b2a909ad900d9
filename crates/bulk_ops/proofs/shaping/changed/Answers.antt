use Rattle.std.proofs.Common.{◌∙◌}
use Rattle.bulk_ops.proofs.shaping.changed.Goals as goal

-- what the stored closure means, the closure that calls it means too
pub returns-clause-entries : goal.returns-clause-entries
returns-clause-entries g c f means =
    c.from_root.ensures.entries ∙ c.in_ok-made.ensures.map f (λ k v w called. called.4 f means ∙ (λ i. f (called.2 i) (called.3 i)))
