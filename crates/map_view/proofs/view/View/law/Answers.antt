use Rattle.std.proofs.Common.{sym, ◌∙◌, subst}
use Rattle.std.specs.List.Sorted.{IsPermutation}
use Rattle.std.proofs.lemmas.List.Sorted.{IsPermutation-sym}
use Rattle.trie_shape.specs.Order.{walked}
use Rattle.versions.specs.Map.{IsMap}
use Rattle.stripe.specs.Rules.{AllKeep}
use Rattle.map_view.proofs.Keeping.{kept_listing}
use Rattle.map_view.proofs.Walks.{listing_permutes}
use Rattle.map_view.proofs.view.View.law.Goals as goal

pub returns-clause-walked : goal.returns-clause-walked
returns-clause-walked g c =
    let here : AllKeep g.K.Ord.cmp g.P.Keeps.holds c.args.self.now = subst (AllKeep g.K.Ord.cmp g.P.Keeps.holds) c.self.view_is c.self.invariant.0 in
    kept_listing g.K.Ord.cmp g.P.Keeps.holds g.met.K.Ord.total g.met.K.PathKey.exact (walked g.K.Ord.cmp g.K.PathKey.path_of c.args.self.now) (c.walk_lists_map.ensures.once c.args.self.now)
    (λ k v found. here k v (sym (c.walk_lists_map.ensures.finds c.args.self.now k) ∙ found))

pub returns-clause-once : goal.returns-clause-once
returns-clause-once g c =
    let walk = walked g.K.Ord.cmp g.K.PathKey.path_of c.args.self.now in
    let sorted : IsMap g.K.Ord.cmp c.args.self.now = subst (IsMap g.K.Ord.cmp) c.self.view_is c.len.ensures.sorted in
    IsPermutation-sym walk c.args.self.now (subst (IsPermutation walk) (c.walk_lists_map.ensures.gathered c.args.self.now sorted) (listing_permutes g.K.Ord.cmp g.met.K.Ord.total walk (c.walk_lists_map.ensures.once c.args.self.now)))
