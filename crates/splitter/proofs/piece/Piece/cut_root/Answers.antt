use Rattle.std.proofs.Common.{◌≡◌, All, [], ◌∷◌, sym, ap, ◌∙◌, subst}
use Rattle.std.proofs.lemmas.Result.{IfOk-weaker}
use Rattle.hash_path.specs.Digits.{digits_after, lowest}
use Rattle.iter.specs.Intervals.{part}
use Rattle.trie_shape.specs.Map.{IsMap}
use Rattle.trie_shape.specs.Roots.{IsRoot, map_of}
use Rattle.trie_shape.specs.Tree.{IsTrie, entries}
use Rattle.trie_shape.specs.View.{tree}
use Rattle.splitter.proofs.PieceRoots.{place_shares, root_above, root_of_place}
use Rattle.splitter.proofs.piece.Piece.cut_root.Goals as goal

pub returns-in-Some-clause-root : goal.returns-in-Some-clause-root
returns-in-Some-clause-root g c =
    let R = g.K.Ord.cmp in
    let path = g.K.PathKey.path_of in
    let m = c.args.self.now.map in
    let i = c.args.self.now.interval in
    let s = c.spot-spot.result in
    let t = tree s.branch.now in
    let place = c.spot-spot.ensures.place in
    let map : IsMap R (part path m i) = subst (IsMap R) (sym (c.parts_follow_intervals.ensures.one m i)) (c.parts_follow_intervals.ensures.map m (i ∷ []) c.spot-spot.ensures.sorted) in
    let v = tree c.in_ok-try_clone.field-0 in
    let same = c.in_ok-try_clone.ensures in
    let high = c.trie_follows_digits.ensures.branch t s.level s.bitmap place.trie place.shown in
    IfOk-weaker c.branch_above.result _ (λ n. IsRoot R path (tree n))
    (λ n is. (root_above R path c.branch_is_its_children.ensures.pairs m i t s.bitmap s.level s.base s.from s.to place c.walk_lists_map.ensures.gathered map g.met.K.Ord.total g.met.K.PathKey.exact g.met.K.PathKey.small c.root_walks_in_order.ensures c.shared_digit.result v (tree n) c.in-Some.ensures.0 high c.shared_digit.ensures.small c.shared_digit.ensures.digit
    (subst (IsTrie R path 1) (sym same) c.in-Some.ensures.1) (ap entries same ∙ c.in-Some.ensures.2) is).0) c.branch_above.ensures

pub returns-in-Some-clause-pairs : goal.returns-in-Some-clause-pairs
returns-in-Some-clause-pairs g c =
    let R = g.K.Ord.cmp in
    let path = g.K.PathKey.path_of in
    let m = c.args.self.now.map in
    let i = c.args.self.now.interval in
    let s = c.spot-spot.result in
    let t = tree s.branch.now in
    let place = c.spot-spot.ensures.place in
    let map : IsMap R (part path m i) = subst (IsMap R) (sym (c.parts_follow_intervals.ensures.one m i)) (c.parts_follow_intervals.ensures.map m (i ∷ []) c.spot-spot.ensures.sorted) in
    let v = tree c.in_ok-try_clone.field-0 in
    let same = c.in_ok-try_clone.ensures in
    let high = c.trie_follows_digits.ensures.branch t s.level s.bitmap place.trie place.shown in
    IfOk-weaker c.branch_above.result _ (λ n. map_of R (tree n) ≡ part path m i)
    (λ n is. (root_above R path c.branch_is_its_children.ensures.pairs m i t s.bitmap s.level s.base s.from s.to place c.walk_lists_map.ensures.gathered map g.met.K.Ord.total g.met.K.PathKey.exact g.met.K.PathKey.small c.root_walks_in_order.ensures c.shared_digit.result v (tree n) c.in-Some.ensures.0 high c.shared_digit.ensures.small c.shared_digit.ensures.digit
    (subst (IsTrie R path 1) (sym same) c.in-Some.ensures.1) (ap entries same ∙ c.in-Some.ensures.2) is).1) c.branch_above.ensures

pub root_of_subtrie-requires-clause-shared : goal.root_of_subtrie-requires-clause-shared
root_of_subtrie-requires-clause-shared g c =
    let R = g.K.Ord.cmp in
    let path = g.K.PathKey.path_of in
    let m = c.args.self.now.map in
    let i = c.args.self.now.interval in
    let s = c.spot-spot.result in
    let t = tree s.branch.now in
    let place = c.spot-spot.ensures.place in
    subst (All (λ e. lowest (digits_after 0 s.level (path e.0)) ≡ s.base)) (sym c.in_ok-branch.ensures.entries) (place_shares R path c.branch_is_its_children.ensures.pairs m i t s.bitmap s.level s.base s.from s.to place)

pub returns-clause-root : goal.returns-clause-root
returns-clause-root g c =
    let R = g.K.Ord.cmp in
    let path = g.K.PathKey.path_of in
    let m = c.args.self.now.map in
    let i = c.args.self.now.interval in
    let s = c.spot-spot.result in
    let t = tree s.branch.now in
    let place = c.spot-spot.ensures.place in
    let map : IsMap R (part path m i) = subst (IsMap R) (sym (c.parts_follow_intervals.ensures.one m i)) (c.parts_follow_intervals.ensures.map m (i ∷ []) c.spot-spot.ensures.sorted) in
    let all = c.in_ok-branch.ensures.entries in
    IfOk-weaker c.root_of_subtrie.result _ (λ n. IsRoot R path (tree n))
    (λ n is. (root_of_place R path c.branch_is_its_children.ensures.pairs m i t s.bitmap s.level s.base s.from s.to place c.walk_lists_map.ensures.gathered map g.met.K.Ord.total g.met.K.PathKey.exact g.met.K.PathKey.small c.root_walks_in_order.ensures (tree n) is.0 (is.1 ∙ all)).0) c.root_of_subtrie.ensures

pub returns-clause-pairs : goal.returns-clause-pairs
returns-clause-pairs g c =
    let R = g.K.Ord.cmp in
    let path = g.K.PathKey.path_of in
    let m = c.args.self.now.map in
    let i = c.args.self.now.interval in
    let s = c.spot-spot.result in
    let t = tree s.branch.now in
    let place = c.spot-spot.ensures.place in
    let map : IsMap R (part path m i) = subst (IsMap R) (sym (c.parts_follow_intervals.ensures.one m i)) (c.parts_follow_intervals.ensures.map m (i ∷ []) c.spot-spot.ensures.sorted) in
    let all = c.in_ok-branch.ensures.entries in
    IfOk-weaker c.root_of_subtrie.result _ (λ n. map_of R (tree n) ≡ part path m i)
    (λ n is. (root_of_place R path c.branch_is_its_children.ensures.pairs m i t s.bitmap s.level s.base s.from s.to place c.walk_lists_map.ensures.gathered map g.met.K.Ord.total g.met.K.PathKey.exact g.met.K.PathKey.small c.root_walks_in_order.ensures (tree n) is.0 (is.1 ∙ all)).1) c.root_of_subtrie.ensures
