use Rattle.std.proofs.Common.{◌∙◌, is_some, not}
use Rattle.versions.specs.Map.{value_at}
use Rattle.view_sets.proofs.sets.difference.Goals as goal

-- the closure means that the right view has not the key
pub returns-clause-entries : goal.returns-clause-entries
returns-clause-entries g c =
    c.in_ok-made.ensures.entries
    (λ k v. not (is_some (value_at g.K.Ord.cmp c.args.right.now k)))
    (λ k v b called. called.4 ∙ (λ i. not (is_some (value_at g.K.Ord.cmp c.args.right.now (called.2 i)))))
