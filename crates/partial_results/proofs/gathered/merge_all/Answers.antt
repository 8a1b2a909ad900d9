use Rattle.std.proofs.Common.{rules, ◌≡◌, ◌∷◌, ◌++◌, map, sym, ap, ◌∙◌}
use Rattle.std.specs.Vec.Iter.{into_iter_items}
use Rattle.partial_results.proofs.Covering.{apart_list}
use Rattle.partial_results.proofs.gathered.merge_all.Goals as goal

pub merge_one-requires : goal.merge_one-requires
merge_one-requires g c =
    let it : into_iter_items c.loop-partial.partial-iterator ≡ c.in-Some.partial ∷ into_iter_items c.next.new.self = search rules in
    let ls = map (λ x. x.items) c.loop-partial.lists.items in
    apart_list ls c.args.partials.items (into_iter_items c.next.new.self) c.in-Some.partial c.loop-partial.all (sym c.loop-partial.invariant.1 ∙ ap (λ x. ls ++ x) it) c.loop-partial.invariant.0 c.requires.apart
