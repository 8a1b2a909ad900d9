use Rattle.std.proofs.Common.{◌≡◌, ◌+◌, ◌<◌, ◌∷◌, List, drop, get_or, length, map, arith, sym, ap, ◌∙◌, subst}
use Rattle.std.proofs.lemmas.List.{drop_more, drop_all}
use Rattle.std.specs.Sync.Mutex.{mutex_guard_value}
use Rattle.versions.specs.Map.{Map, union}
use Rattle.stripe.specs.Contents.{Content}
use Rattle.stripes.specs.Stripes.{maps_of, unions}
use Rattle.stripes.proofs.Placing.{Joins, joined_unions, joins_more, unions_map}
use Rattle.stripes.proofs.joining.children.Goals as goal

pub loop-guard-preserved : goal.loop-guard-preserved
loop-guard-preserved g c =
    let R = g.K.Ord.cmp in
    let path = g.K.PathKey.path_of in
    let H = g.P.Keeps.holds in
    let i = c.loop-guard.guard-index in
    let guards = c.args.held.now.items in
    let all = map mutex_guard_value guards in
    let rest = map mutex_guard_value (drop (i + 1) guards) in
    let s = c.deref-stripe.result.now in
    let row = c.loop-guard.row.entries in
    let new = c.in_ok-row.row.entries in
    let is : new ≡ union R s.entries row = c.in_ok-row.ensures in
    let lt : i < length guards = omega (arith, c.loop-guard-test.true, c.deref-guard-items.ensures.len) in
    let next = ap (map mutex_guard_value) (drop_more guards i c.guard-item.result lt ∙ ap (λ x. x ∷ drop (i + 1) guards) (sym (c.guard-item.is ∙ ap (λ gs. get_or gs i c.guard-item.result) c.deref-guard-items.ensures.value))) ∙ ap (λ x. x ∷ rest) (sym c.deref-stripe.ensures) in
    let joins = subst (λ (ss : List (Content _ _)). Joins R path H row ss all) next c.loop-guard.invariant.joins in
    record {
      joins = joins_more R path H row s rest all joins c.law.ensures.pairs c.union_of_maps.ensures.value new is;
      few = omega (arith, c.loop-guard.invariant.few, c.len.ensures.few, ap (λ (m : Map _ _). length m) is, c.union_of_maps.ensures.size s.entries row c.len-in-loop-guard.ensures.sorted);
    }

pub returns-clause-entries : goal.returns-clause-entries
returns-clause-entries g c =
    let R = g.K.Ord.cmp in
    let path = g.K.PathKey.path_of in
    let H = g.P.Keeps.holds in
    let guards = c.args.held.now.items in
    let all = map mutex_guard_value guards in
    let row = c.loop-guard.row.entries in
    let ended = ap (map mutex_guard_value) (drop_all c.loop-guard.guard-index guards (omega (arith, c.loop-guard-test.false, c.deref-guard-items.ensures.len))) in
    let done = subst (λ (ss : List (Content _ _)). Joins R path H row ss all) ended c.loop-guard.invariant.joins in
    c.law_of_equal_maps.ensures g.met.K.PathKey.exact row (unions R (maps_of all)) c.len-2.ensures.sorted (unions_map R c.union_of_maps.ensures.map (maps_of all)) (joined_unions R path H row all done)
