use Rattle.std.proofs.Common.{◌≡◌, ◌++◌, map}
use Rattle.std.specs.Vec.Iter.{into_iter_items}
use Rattle.partial_results.specs.Worked.{all_of}
use Rattle.partial_results.proofs.gathered.merge_all.Given as goal

abbrev pub invariant-loop-partial : goal.invariant-loop-partial
invariant-loop-partial g l =
    (l.all ≡ all_of (map (λ x. x.items) l.lists.items))
    × (map (λ x. x.items) l.lists.items ++ into_iter_items l.partial-iterator ≡ l.fn.partials.items)
