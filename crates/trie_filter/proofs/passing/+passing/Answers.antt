use Rattle.std.proofs.Common.{rules, ◌+◌, ◌*◌, ◌%◌, ◌^◌, ◌<◌, ◌≤◌, bit_and, length, map, get_or, option_map, sym, ap, subst, arith}
use Rattle.std.proofs.lemmas.List.{get_or_default}
use Rattle.std.specs.Int.{bit_not, w32}
use Rattle.trie_shape.specs.Outline.{children}
use Rattle.trie_shape.specs.View.{tree}
use Rattle.trie_shape.proofs.Divides.{trie_fits}
use Rattle.trie_filter.specs.Few.{IsFew, items_of}
use Rattle.trie_filter.specs.Passing.{IsLeft}
use Rattle.trie_values.specs.Values.{MayAnswer}
use Rattle.trie_filter.proofs.Left.{branch_depth, drawn_left, pairs_left, row_counted}
use Rattle.trie_filter.proofs.Underway.{IsUnderway, next_trie, rest_more, room, underway_done, underway_gone, underway_kept, underway_start}
use Rattle.trie_filter.proofs.passing.+passing.Goals as goal
use Rattle.trie_filter.proofs.passing.+passing.Goals.{pass_children-in-Some+in_ok-row, pass_children-in_default-left}

pub pass_children-loop-n-init : goal.pass_children-loop-n-init
pass_children-loop-n-init g t c = record {
  underway = underway_start g.K.Ord.cmp g.K.PathKey.path_of (MayAnswer g.F.Fn c.args.test.now) c.args.level c.args.stamp.0 (tree c.args.node.now) c.args.bitmap c.requires.branch c.requires.trie;
  few = tt;
}

pub pass_children-lowest_digit-digit-requires : goal.pass_children-lowest_digit-digit-requires
pass_children-lowest_digit-digit-requires g t c =
    let R = g.K.Ord.cmp in
    let path = g.K.PathKey.path_of in
    let a = c.args in
    let l = c.loop-n in
    let whole = tree a.node.now in
    let fits = trie_fits R path a.level whole c.requires.trie in
    let long = c.bitmap_counts_children.ensures.count whole a.bitmap fits c.requires.branch in
    let within : l.n < length (children whole) = omega (arith, long, c.loop-n-test.true) in
    let u = get_or (children whole) l.n whole in
    rest_more R path (MayAnswer g.F.Fn a.test.now) a.level a.stamp.0 whole u l.n l.rest l.row.bitmap l.row.size (map tree (items_of l.row.children)) l.invariant.underway within (get_or_default (children whole) l.n whole u within)

pub pass_children-pass_subtrie-requires : goal.pass_children-pass_subtrie-requires
pass_children-pass_subtrie-requires g t c κs inside =
    let R = g.K.Ord.cmp in
    let path = g.K.PathKey.path_of in
    let a = c.args in
    let l = c.loop-n in
    let whole = tree a.node.now in
    let fits = trie_fits R path a.level whole c.requires.trie in
    let long = c.bitmap_counts_children.ensures.count whole a.bitmap fits c.requires.branch in
    let within : l.n < length (children whole) = omega (arith, long, c.loop-n-test.true) in
    let depth = branch_depth R path g.met.K.Ord.total g.met.K.PathKey.exact a.level whole a.bitmap c.requires.branch c.requires.trie in
    let trie = next_trie R path (MayAnswer g.F.Fn a.test.now) a.level a.stamp.0 whole (tree c.child.result.now) l.n l.rest l.row.bitmap l.row.size (map tree (items_of l.row.children)) l.invariant.underway within c.child.ensures in
    (omega (arith, depth), (search rules, (search rules, (search rules, (search rules, (search rules, (search rules, (trie, (omega arith, c.requires.callable)))))))))

pub pass_children-with-requires-clause-fits : goal.pass_children-with-requires-clause-fits
pass_children-with-requires-clause-fits g t c =
    let R = g.K.Ord.cmp in
    let path = g.K.PathKey.path_of in
    let a = c.args in
    let left = subst (IsLeft R path (MayAnswer g.F.Fn a.test.now) (a.level + 1) a.stamp.0 (tree c.child.result.now)) (ap (option_map tree) c.in-Some.is) c.in-Ok.ensures in
    trie_fits R path (a.level + 1) (tree c.in-Some.left) left.1.0

pub pass_children-with-requires-clause-size : goal.pass_children-with-requires-clause-size
pass_children-with-requires-clause-size g t c =
    let R = g.K.Ord.cmp in
    let path = g.K.PathKey.path_of in
    let a = c.args in
    let l = c.loop-n in
    let gives = MayAnswer g.F.Fn a.test.now in
    let whole = tree a.node.now in
    let child = tree c.child.result.now in
    let fits = trie_fits R path a.level whole c.requires.trie in
    let long = c.bitmap_counts_children.ensures.count whole a.bitmap fits c.requires.branch in
    let within : l.n < length (children whole) = omega (arith, long, c.loop-n-test.true) in
    let left = subst (IsLeft R path gives (a.level + 1) a.stamp.0 child) (ap (option_map tree) c.in-Some.is) c.in-Ok.ensures in
    let sized = c.size-few.ensures fits in
    let enough = room R path gives a.level a.stamp.0 whole child l.n l.rest l.row.bitmap l.row.size (map tree (items_of l.row.children)) l.invariant.underway within c.child.ensures a.bitmap c.requires.branch (tree c.in-Some.left) left.0 in
    omega (arith, sized, enough)

pub pass_children-loop-n-preserved : goal.pass_children-loop-n-preserved
pass_children-loop-n-preserved g t c =
    let R = g.K.Ord.cmp in
    let path = g.K.PathKey.path_of in
    let a = c.args in
    let l = c.loop-n in
    let gives = MayAnswer g.F.Fn a.test.now in
    let whole = tree a.node.now in
    let child = tree c.child.result.now in
    let row = map tree (items_of l.row.children) in
    let fits = trie_fits R path a.level whole c.requires.trie in
    let long = c.bitmap_counts_children.ensures.count whole a.bitmap fits c.requires.branch in
    let within : l.n < length (children whole) = omega (arith, long, c.loop-n-test.true) in
    let digit = c.lowest_digit-digit in
    let rest = bit_and l.rest (bit_not w32 (1 * 2 ^ digit.result % 2 ^ 32)) in
    elim c.match-left.branch [
      | pass_children-in-Some+in_ok-row w ↦
          let left = subst (IsLeft R path gives (a.level + 1) a.stamp.0 child) (ap (option_map tree) w.in-Some.is) c.in-Ok.ensures in
          let made = w.in_ok-row.ensures in
          record {
            underway = subst (λ r. IsUnderway R path gives a.level a.stamp.0 whole (l.n + 1) rest r.bitmap r.size (map tree (items_of r.children))) (sym w.row-is)
                (underway_kept R path gives a.level a.stamp.0 whole child l.n l.rest l.row.bitmap l.row.size row l.invariant.underway within c.child.ensures digit.result rest digit.ensures.small digit.ensures.first (tree w.in-Some.left) left _ _ _ made.bitmap made.size made.children);
            few = subst (λ r. IsFew r.children) (sym w.row-is) made.few;
          }
      | pass_children-in_default-left w ↦
          let left = subst (IsLeft R path gives (a.level + 1) a.stamp.0 child) (ap (option_map tree) w.in_default-left.is) c.in-Ok.ensures in
          record {
            underway = subst (λ r. IsUnderway R path gives a.level a.stamp.0 whole (l.n + 1) rest r.bitmap r.size (map tree (items_of r.children))) (sym w.row-is)
                (underway_gone R path gives a.level a.stamp.0 whole child l.n l.rest l.row.bitmap l.row.size row l.invariant.underway within c.child.ensures digit.result rest digit.ensures.small digit.ensures.first left.0);
            few = subst (λ r. IsFew r.children) (sym w.row-is) l.invariant.few;
          }
    ]

pub pass_children-returns-clause-row : goal.pass_children-returns-clause-row
pass_children-returns-clause-row g t c =
    let R = g.K.Ord.cmp in
    let path = g.K.PathKey.path_of in
    let a = c.args in
    let l = c.loop-n in
    let whole = tree a.node.now in
    let fits = trie_fits R path a.level whole c.requires.trie in
    let long = c.bitmap_counts_children.ensures.count whole a.bitmap fits c.requires.branch in
    let most : length (children whole) ≤ l.n = omega (arith, long, c.loop-n-test.false) in
    underway_done R path (MayAnswer g.F.Fn a.test.now) a.level a.stamp.0 whole l.n l.rest l.row.bitmap l.row.size a.bitmap (map tree (items_of l.row.children)) c.requires.branch most l.invariant.underway

pub pass_subtrie-returns-in_ok-left-in-Pairs : goal.pass_subtrie-returns-in_ok-left-in-Pairs
pass_subtrie-returns-in_ok-left-in-Pairs g t c =
    let a = c.args in
    pairs_left g.K.Ord.cmp g.K.PathKey.path_of g.met.K.Ord.total g.met.K.PathKey.exact (MayAnswer g.F.Fn a.test.now) a.level a.stamp.0 c.in-Pairs.pairs (tree a.node.now)
    (option_map tree c.in_ok-left-in-Pairs.left) c.in-Pairs.ensures c.requires.trie c.in_ok-left-in-Pairs.ensures

pub pass_subtrie-drawn_up-requires-clause-count : goal.pass_subtrie-drawn_up-requires-clause-count
pass_subtrie-drawn_up-requires-clause-count g t c =
    let a = c.args in
    let row = c.in_ok-row-in-Branch.row in
    row_counted g.K.Ord.cmp g.K.PathKey.path_of g.met.K.Ord.total g.met.K.PathKey.exact (MayAnswer g.F.Fn a.test.now) a.level a.stamp.0 _ row.bitmap row.size (items_of row.children) c.in_ok-row-in-Branch.ensures.row

pub pass_subtrie-returns-in_ok-left-in-Branch : goal.pass_subtrie-returns-in_ok-left-in-Branch
pass_subtrie-returns-in_ok-left-in-Branch g t c =
    let R = g.K.Ord.cmp in
    let path = g.K.PathKey.path_of in
    let total = g.met.K.Ord.total in
    let exact = g.met.K.PathKey.exact in
    let a = c.args in
    let row = c.in_ok-row-in-Branch.row in
    let whole = tree a.node.now in
    let depth = branch_depth R path total exact a.level whole c.in-Branch.bitmap c.in-Branch.ensures c.requires.trie in
    let gives = MayAnswer g.F.Fn a.test.now in
    drawn_left R path total exact gives a.level a.stamp.0 c.requires.below depth whole row.bitmap row.size (map tree (items_of row.children)) c.in_ok-row-in-Branch.ensures.row
    (option_map tree c.in_ok-left-in-Branch.left) c.in_ok-left-in-Branch.ensures
