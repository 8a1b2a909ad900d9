use Rattle.std.proofs.Common.{ℕ, ◌==◌, Bool, List, length, ap, ◌∙◌, subst}
use Rattle.std.specs.FinMap.Entries.{where_key}
use Rattle.std.specs.List.{starts_with}
use Rattle.hash_path.specs.Fnv.{fnv1a}
use Rattle.keys.specs.Order.{bytes_cmp}
use Rattle.trie_shape.specs.Map.{IsMap}
use Rattle.trie_shape.specs.Order.{walked}
use Rattle.trie_shape.specs.View.{tree}
use Rattle.c_map.proofs.Prefixes.{count_passing}
use Rattle.c_map.proofs.prefix.count_prefix.Goals as goal

-- the walk has the map's pairs, in another order
pub returns-in-Some : goal.returns-in-Some
returns-in-Some g c =
    let has_prefix : List ℕ → Bool = λ key. starts_with ◌==◌ key c.args.prefix.now in
    let pairs = c.in-Some.ensures.1 in
    let sorted = subst (IsMap bytes_cmp) pairs (c.root_is_map.ensures.sorted (tree c.in-Some.root.now)) in
    c.count_in.ensures
    ∙ ap (λ es. length (where_key bytes_cmp has_prefix es)) (c.bunches_of_root.ensures ∙ ap (walked bytes_cmp fnv1a) pairs)
    ∙ count_passing has_prefix c.args.map.now.entries (walked bytes_cmp fnv1a) sorted c.walk_lists_map.ensures.count (c.walk_lists_map.ensures.passing has_prefix c.args.map.now.entries)
