use Rattle.std.proofs.Common.{◌≡◌, ◌+◌, ◌≤◌, List, [], ◌∷◌, length, sym, ap, ◌∙◌, subst, arith}
use Rattle.trie_shape.specs.Listings.{IsListing}
use Rattle.trie_shape.specs.Order.{walked}
use Rattle.versions.specs.Map.{Map, value_at}
use Rattle.group_counts.specs.Sums.{combined, with_item}
use Rattle.group_counts.proofs.Folds.{combined_step, length_put}
use Rattle.std.specs.Option.{unwrap_or}
use Rattle.group_counts.proofs.sums.joined_sums.Goals as goal

pub loop-group-init : goal.loop-group-init
loop-group-init g c =
    let R = g.G.Ord.cmp in
    let path = g.G.PathKey.path_of in
    let first = c.args.first.now.entries in
    let op = g.M.Monoid.combine c.args.monoid.now in
    let unit = g.M.Monoid.unit_of c.args.monoid.now in
    let laws = c.walk_lists_map.ensures in
    let walk : c.into_iter-group-iterator.result ≡ walked R path first = c.into_iter-group-iterator.ensures.into_iter_gives ∙ c.bunches_of_root-group-items.ensures ∙ ap (walked R path) c.root.ensures.entries in
    let count : length c.into_iter-group-iterator.result ≡ length first = ap length walk ∙ laws.count first c.len.ensures.sorted in
    let same : length c.in_ok-both.both.entries ≡ length c.args.second.now.entries = ap length c.in_ok-both.ensures.entries in
    record {
      next = tt;
      finite = tt;
      limit = c.in_ok-both.ensures.limit ∙ c.requires.limit;
      listing = subst (IsListing R) (sym walk) (laws.once first);
      few = omega (arith, count, same);
      each = λ q. (λ j. combined op unit (value_at R (walk j) q) (value_at R (c.in_ok-both.ensures.entries j) q));
    }

pub add_shared-requires : goal.add_shared-requires
add_shared-requires g c =
    let pair : g.row.G.Denot × g.row.M-Item.Denot = (c.in-Some.group.now.value, c.in-Some.item.now.value) in
    let more : length c.loop-group.group-iterator ≡ length (pair ∷ c.next.new.self) = ap length c.in-Some.ensures.steps in
    omega (arith, more, c.loop-group.invariant.few, c.loop-group.invariant.limit, c.requires.room)

pub loop-group-preserved : goal.loop-group-preserved
loop-group-preserved g c =
    let R = g.G.Ord.cmp in
    let op = g.M.Monoid.combine c.args.monoid.now in
    let unit = g.M.Monoid.unit_of c.args.monoid.now in
    let pair : g.row.G.Denot × g.row.M-Item.Denot = (c.in-Some.group.now.value, c.in-Some.item.now.value) in
    let before = c.loop-group.both.entries in
    let rest : List (g.row.G.Denot × g.row.M-Item.Denot) = c.next.new.self in
    let once : IsListing R (pair ∷ rest) = subst (IsListing R) c.in-Some.ensures.steps c.loop-group.invariant.listing in
    let more : length c.loop-group.group-iterator ≡ length (pair ∷ rest) = ap length c.in-Some.ensures.steps in
    let put : length c.add_shared.new.sums.entries ≤ length before + 1 =
    subst (λ es. length es ≤ length before + 1) (sym c.in-Ok.ensures.entries) (length_put R pair.0 (op pair.1 (unwrap_or (value_at R before pair.0) unit)) before) in
    record {
      next = tt;
      finite = tt;
      limit = c.add_shared.ensures.limit ∙ c.loop-group.invariant.limit;
      listing = once.1;
      few = omega (arith, more, put, c.loop-group.invariant.few);
      each = λ q.
          ap (λ es. combined op unit (value_at R rest q) (value_at R es q)) c.in-Ok.ensures.entries
          ∙ combined_step op unit R g.met.G.Ord.total pair rest before once.0 q
          ∙ ap (λ es. combined op unit (value_at R es q) (value_at R before q)) (sym c.in-Some.ensures.steps)
          ∙ c.loop-group.invariant.each q;
    }

pub returns-clause-each : goal.returns-clause-each
returns-clause-each g c = λ q.
    let R = g.G.Ord.cmp in
    let op = g.M.Monoid.combine c.args.monoid.now in
    let unit = g.M.Monoid.unit_of c.args.monoid.now in
    let none = c.in-None.ensures.steps.0 in
    ap (λ es. combined op unit (value_at R es q) (value_at R c.loop-group.both.entries q)) (sym none)
    ∙ c.loop-group.invariant.each q
    ∙ ap (λ r. combined op unit r (value_at R c.args.second.now.entries q)) (c.walk_lists_map.ensures.finds c.args.first.now.entries q)

pub returns-clause-limit : goal.returns-clause-limit
returns-clause-limit g c = c.loop-group.invariant.limit

pub returns-clause-few : goal.returns-clause-few
returns-clause-few g c = omega (arith, c.loop-group.invariant.few)
