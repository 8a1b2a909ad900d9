use Rattle.std.proofs.Common.{◌≡◌, ◌+◌, ◌*◌, ◌<◌, [], ◌∷◌, length, get_or, take, drop, sym, ap, ◌∙◌, subst, arith}
use Rattle.std.specs.Int.RustNames.{count_ones}
use Rattle.hash_path.specs.Digits.{word_bits, breadth}
use Rattle.trie_shape.specs.Map.{IsMap}
use Rattle.trie_shape.specs.Outline.{children}
use Rattle.trie_shape.specs.Tree.{digits_of, entries}
use Rattle.trie_shape.specs.View.{tree}
use Rattle.iter.specs.Intervals.{part}
use Rattle.iter.specs.Subtries.{pairs_of_all}
use Rattle.splitter.specs.Places.{IsPlace}
use Rattle.splitter.proofs.Divisions.{only_walk, place_below, none_between, stretch_within}
use Rattle.splitter.proofs.Places.{one_word_agrees}
use Rattle.splitter.proofs.Rows.{children_long}
use Rattle.splitter.proofs.Stretches.{no_middle_found}
use Rattle.splitter.proofs.piece.Piece.cut_spot.Goals as goal

pub returns-in_default : goal.returns-in_default
returns-in_default g c =
    let R = g.K.Ord.cmp in
    let path = g.K.PathKey.path_of in
    let m = c.args.self.now.map in
    let i = c.args.self.now.interval in
    let s = c.loop-spot.spot in
    let t = tree s.branch.now in
    let place = c.loop-spot.invariant in
    let u = tree c.child-only.result.now in
    let there : s.from < length (children t) = omega (arith, c.loop-spot-test.true, place.order, place.within) in
    let only : s.to ≡ s.from + 1 = omega (arith, c.loop-spot-test.true, place.order) in
    let map : IsMap R (part path m i) = subst (IsMap R) (sym (c.parts_follow_intervals.ensures.one m i)) (c.parts_follow_intervals.ensures.map m (i ∷ []) c.spot-spot.ensures.sorted) in
    let trie = (c.trie_follows_digits.ensures.below t u s.level s.from place.trie there c.child-only.ensures).0 in
    let walk = only_walk R path c.walk_lists_map.ensures.count c.walk_lists_map.ensures.passing c.shared_digits_are_interval.ensures.interval c.digits_determine_word.ensures.shared c.shared_digits_are_interval.ensures.step c.position_is_bijection.ensures.below g.met.K.PathKey.small c.trie_follows_digits.ensures.fits c.trie_follows_digits.ensures.branch c.trie_follows_digits.ensures.below c.trie_follows_digits.ensures.digits c.branch_is_its_children.ensures.pairs m i t s.bitmap s.level s.base s.from s.to place u only there c.child-only.ensures in
    let one = c.trie_follows_digits.ensures.word u c.in_default.field-0 (s.level + 1) trie c.in_default.ensures in
    no_middle_found path c.shared_digits_are_interval.ensures.interval c.digits_determine_word.ensures.shared c.shared_digits_are_interval.ensures.step g.met.K.PathKey.small m i
    (λ k lt. one_word_agrees R path c.walk_lists_map.ensures.count c.walk_lists_map.ensures.passing (part path m i) map (entries u) walk one k)

pub nth_digit-digit-requires : goal.nth_digit-digit-requires
nth_digit-digit-requires g c =
    let s = c.loop-spot.spot in
    let t = tree s.branch.now in
    let place = c.loop-spot.invariant in
    omega (arith, c.loop-spot-test.true, place.order, place.within, children_long t s.bitmap (c.trie_follows_digits.ensures.fits t s.level place.trie) place.shown)

pub overflow_mul-spot : goal.overflow_mul-spot
overflow_mul-spot g c =
    let R = g.K.Ord.cmp in
    let path = g.K.PathKey.path_of in
    let m = c.args.self.now.map in
    let i = c.args.self.now.interval in
    let s = c.loop-spot.spot in
    let t = tree s.branch.now in
    let place = c.loop-spot.invariant in
    let there : s.from < length (children t) = omega (arith, c.loop-spot-test.true, place.order, place.within) in
    let digit = c.from.ensures ∙ c.nth_digit-digit.ensures in
    let value : c.from.result * c.weight_at.result ≡ get_or (digits_of s.bitmap) s.from 0 * breadth word_bits (s.level + 1) = λ n. digit n * c.weight_at.ensures n in
    omega (arith, value, stretch_within R path c.walk_lists_map.ensures.count c.walk_lists_map.ensures.passing c.shared_digits_are_interval.ensures.interval c.digits_determine_word.ensures.shared c.shared_digits_are_interval.ensures.step c.position_is_bijection.ensures.below g.met.K.PathKey.small c.trie_follows_digits.ensures.fits c.trie_follows_digits.ensures.branch c.trie_follows_digits.ensures.below c.trie_follows_digits.ensures.digits c.branch_is_its_children.ensures.pairs m i t s.bitmap s.level s.base s.from s.to place s.from there)

pub overflow_add-spot-in-loop-spot : goal.overflow_add-spot-in-loop-spot
overflow_add-spot-in-loop-spot g c =
    let R = g.K.Ord.cmp in
    let path = g.K.PathKey.path_of in
    let m = c.args.self.now.map in
    let i = c.args.self.now.interval in
    let s = c.loop-spot.spot in
    let t = tree s.branch.now in
    let place = c.loop-spot.invariant in
    let there : s.from < length (children t) = omega (arith, c.loop-spot-test.true, place.order, place.within) in
    let digit = c.from.ensures ∙ c.nth_digit-digit.ensures in
    let value : c.from.result * c.weight_at.result ≡ get_or (digits_of s.bitmap) s.from 0 * breadth word_bits (s.level + 1) = λ n. digit n * c.weight_at.ensures n in
    omega (arith, value, stretch_within R path c.walk_lists_map.ensures.count c.walk_lists_map.ensures.passing c.shared_digits_are_interval.ensures.interval c.digits_determine_word.ensures.shared c.shared_digits_are_interval.ensures.step c.position_is_bijection.ensures.below g.met.K.PathKey.small c.trie_follows_digits.ensures.fits c.trie_follows_digits.ensures.branch c.trie_follows_digits.ensures.below c.trie_follows_digits.ensures.digits c.branch_is_its_children.ensures.pairs m i t s.bitmap s.level s.base s.from s.to place s.from there)

pub loop-spot-preserved : goal.loop-spot-preserved
loop-spot-preserved g c =
    let R = g.K.Ord.cmp in
    let path = g.K.PathKey.path_of in
    let m = c.args.self.now.map in
    let i = c.args.self.now.interval in
    let s = c.loop-spot.spot in
    let t = tree s.branch.now in
    let place = c.loop-spot.invariant in
    let u = tree c.child-only.result.now in
    let there : s.from < length (children t) = omega (arith, c.loop-spot-test.true, place.order, place.within) in
    let only : s.to ≡ s.from + 1 = omega (arith, c.loop-spot-test.true, place.order) in
    let digit = c.from.ensures ∙ c.nth_digit-digit.ensures in
    let value : c.from.result * c.weight_at.result ≡ get_or (digits_of s.bitmap) s.from 0 * breadth word_bits (s.level + 1) = λ n. digit n * c.weight_at.ensures n in
    let trie = (c.trie_follows_digits.ensures.below t u s.level s.from place.trie there c.child-only.ensures).0 in
    let few = c.bitmap_counts_children.ensures.count u c.in-Branch.bitmap (c.trie_follows_digits.ensures.fits u (s.level + 1) trie) c.in-Branch.ensures in
    let below = place_below R path c.walk_lists_map.ensures.count c.walk_lists_map.ensures.passing c.shared_digits_are_interval.ensures.interval c.digits_determine_word.ensures.shared c.shared_digits_are_interval.ensures.step c.position_is_bijection.ensures.below g.met.K.PathKey.small c.trie_follows_digits.ensures.fits c.trie_follows_digits.ensures.branch c.trie_follows_digits.ensures.below c.trie_follows_digits.ensures.digits c.branch_is_its_children.ensures.pairs m i t s.bitmap s.level s.base s.from s.to place u only there c.child-only.ensures c.in-Branch.bitmap (count_ones c.in-Branch.bitmap) c.in-Branch.ensures few in
    subst (λ x. IsPlace R path m i u c.in-Branch.bitmap (s.level + 1) x 0 (count_ones c.in-Branch.bitmap)) (ap (λ n. s.base + n) (sym value)) below

pub returns-then-spot : goal.returns-then-spot
returns-then-spot g c =
    let R = g.K.Ord.cmp in
    let path = g.K.PathKey.path_of in
    let m = c.args.self.now.map in
    let i = c.args.self.now.interval in
    let s = c.loop-spot.spot in
    let t = tree s.branch.now in
    let place = c.loop-spot.invariant in
    let map : IsMap R (part path m i) = subst (IsMap R) (sym (c.parts_follow_intervals.ensures.one m i)) (c.parts_follow_intervals.ensures.map m (i ∷ []) c.spot-spot.ensures.sorted) in
    let none = place.walk ∙ ap (λ n. pairs_of_all (drop s.from (take n (children t)))) (sym c.if-spot.true) ∙ ap pairs_of_all (none_between (children t) s.from) in
    no_middle_found path c.shared_digits_are_interval.ensures.interval c.digits_determine_word.ensures.shared c.shared_digits_are_interval.ensures.step g.met.K.PathKey.small m i
    (λ k lt. one_word_agrees R path c.walk_lists_map.ensures.count c.walk_lists_map.ensures.passing (part path m i) map [] none (λ x y a b. absurd (omega (arith, a.1))) k)
