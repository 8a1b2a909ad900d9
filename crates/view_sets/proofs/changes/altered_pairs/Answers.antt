use Rattle.std.proofs.Common.{◌∙◌, not, false}
use Rattle.std.specs.Option.{option_map_or}
use Rattle.versions.specs.Map.{value_at}
use Rattle.view_sets.proofs.changes.altered_pairs.Goals as goal

-- the closure means that the older view has the key with an unequal value
pub returns : goal.returns
returns g c =
    c.in_ok-made.ensures.entries
    (λ k v. option_map_or (λ before. not (g.V.PartialEq.eq before v)) (value_at g.K.Ord.cmp c.args.older.now k) false)
    (λ k v b called. called.4 ∙ (λ i. option_map_or (λ before. not (g.V.PartialEq.eq before (called.3 i))) (value_at g.K.Ord.cmp c.args.older.now (called.2 i)) false))
