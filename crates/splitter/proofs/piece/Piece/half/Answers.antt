use Rattle.std.proofs.Common.{◌≡◌, [], ◌∷◌, length, sym, ap, ◌∙◌, subst}
use Rattle.trie_shape.specs.Map.{Map, IsMap}
use Rattle.trie_shape.specs.View.{tree}
use Rattle.iter.specs.Intervals.{part}
use Rattle.splitter.specs.Places.{IsPlace}
use Rattle.splitter.specs.Portion.{Portion}
use Rattle.splitter.proofs.Divisions.{same_place}
use Rattle.splitter.proofs.piece.Piece.half.Goals as goal

pub count_between-count-requires-clause-fits : goal.count_between-count-requires-clause-fits
count_between-count-requires-clause-fits g c = c.trie_follows_digits.ensures.fits (tree c.args.spot.now.branch.now) c.args.spot.now.level c.requires.place.trie

pub count_between-count-requires-clause-all : goal.count_between-count-requires-clause-all
count_between-count-requires-clause-all g c = ap length (sym (c.branch_is_its_children.ensures.pairs (tree c.args.spot.now.branch.now) c.args.spot.now.bitmap c.requires.place.shown))

pub invariant_of-half : goal.invariant_of-half
invariant_of-half g c =
    let R = g.K.Ord.cmp in
    let path = g.K.PathKey.path_of in
    let s = c.args.spot.now in
    let t = tree s.branch.now in
    let m = c.self.inside.view in
    let i = c.args.interval in
    let place : IsPlace R path m i t s.bitmap s.level s.base c.args.from c.args.to = subst (λ (p : Portion _ _). IsPlace R path p.map i t s.bitmap s.level s.base c.args.from c.args.to) (sym c.self.view_is) c.requires.place in
    let sorted = c.self.invariant.2 in
    let map : IsMap R (part path m i) = subst (IsMap R) (sym (c.parts_follow_intervals.ensures.one m i)) (c.parts_follow_intervals.ensures.map m (i ∷ []) sorted) in
    let p = c.in_ok-place.place in
    let e = c.in_ok-place.ensures in
    let named = same_place R path m i t (tree p.branch) s.bitmap p.bitmap s.level p.level s.base p.base c.args.from p.from c.args.to p.to (sym e.branch) (sym e.bitmap) (sym e.level) (sym e.base) (sym e.from) (sym e.to) place in
    let long = c.count_between-count.ensures ∙ sym (ap length place.walk) ∙ c.walk_lists_map.ensures.count (part path m i) map in
    let Stored = λ (n : Map g.row.K.Denot g.row.V.Denot). IsMap R n × (c.count_between-count.result ≡ length (part path n i)) × IsPlace R path n i (tree p.branch) p.bitmap p.level p.base p.from p.to in
    let moved = subst Stored (sym c.in-Ok.ensures) (sorted, long, named) in
    (c.requires.order, c.requires.within, moved.0, moved.1, moved.2)
