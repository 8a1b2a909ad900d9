use Rattle.std.proofs.Common.{◌∙◌, is_some}
use Rattle.versions.specs.Map.{value_at}
use Rattle.view_sets.proofs.sets.intersection.Goals as goal

-- the closure means that the right view has the key
pub returns-clause-entries : goal.returns-clause-entries
returns-clause-entries g c =
    c.in_ok-made.ensures.entries
    (λ k v. is_some (value_at g.K.Ord.cmp c.args.right.now k))
    (λ k v b called. called.4 ∙ (λ i. is_some (value_at g.K.Ord.cmp c.args.right.now (called.2 i))))
