use Rattle.std.proofs.Common.{◌∙◌}
use Rattle.bulk_ops.proofs.shaping.passed.Goals as goal

-- what the stored test means, the closure that calls it means too
pub returns-clause-entries : goal.returns-clause-entries
returns-clause-entries g c p means =
    c.from_root.ensures.entries ∙ c.in_ok-made.ensures.map p (λ k v b called. called.4 p means ∙ (λ i. p (called.2 i) (called.3 i)))
