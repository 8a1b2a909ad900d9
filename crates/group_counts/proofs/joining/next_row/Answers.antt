use Rattle.std.proofs.Common.{map, ap, sym, ◌∙◌, arith}
use Rattle.std.proofs.lemmas.List.{nil_from_length}
use Rattle.group_counts.specs.Counts.{row_pair}
use Rattle.group_counts.proofs.Joins.{after_turned, below_nothing, below_head, next_left, next_right, next_both}
use Rattle.group_counts.proofs.joining.next_row.Goals as goal

-- the left list is empty
pub returns-in_default : goal.returns-in_default
returns-in_default g c =
    let R = g.G.Ord.cmp in
    let left = map row_pair c.args.left.now in
    let right = map row_pair c.args.right.now in
    let rest = map row_pair c.in-Some-split_first.right_rest.now in
    let split = c.in-Some-split_first.ensures.cases in
    let y = row_pair c.in-Some-split_first.y.now in
    let none = ap (map row_pair) (nil_from_length c.args.left.now c.in_default.ensures.cases) in (
      next_right R g.met.G.Ord.total left right rest y (row_pair c.in_ok-row_of.field-0) (ap (map row_pair) split.0) c.in_ok-row_of.ensures (below_nothing R g.met.G.Ord.total y.0 left none),
      omega (arith, split.1),
    )

-- the right one is
pub returns-in_default-split_first-2 : goal.returns-in_default-split_first-2
returns-in_default-split_first-2 g c =
    let R = g.G.Ord.cmp in
    let left = map row_pair c.args.left.now in
    let right = map row_pair c.args.right.now in
    let rest = map row_pair c.in-Some.left_rest.now in
    let split = c.in-Some.ensures.cases in
    let x = row_pair c.in-Some.x.now in
    let none = ap (map row_pair) (nil_from_length c.args.right.now c.in_default-split_first-2.ensures.cases) in (
      next_left R g.met.G.Ord.total left right rest x (row_pair c.in_ok-row_of-2.field-0) (ap (map row_pair) split.0) c.in_ok-row_of-2.ensures (below_nothing R g.met.G.Ord.total x.0 right none),
      omega (arith, split.1),
    )

pub returns-in_ok-row_of-in-Less : goal.returns-in_ok-row_of-in-Less
returns-in_ok-row_of-in-Less g c =
    let R = g.G.Ord.cmp in
    let left = map row_pair c.args.left.now in
    let right = map row_pair c.args.right.now in
    let left_rest = map row_pair c.in-Some.left_rest.now in
    let right_rest = map row_pair c.in-Some-split_first-2.right_rest.now in
    let first = c.in-Some.ensures.cases in
    let second = c.in-Some-split_first-2.ensures.cases in
    let x = row_pair c.in-Some.x.now in
    let y = row_pair c.in-Some-split_first-2.y.now in
    let order = (λ i. R (sym c.deref-group.ensures i) (sym c.deref.ensures i)) ∙ sym c.cmp.ensures ∙ c.in-Less.is in (
      next_left R g.met.G.Ord.total left right left_rest x (row_pair c.in_ok-row_of-in-Less.field-0) (ap (map row_pair) first.0) c.in_ok-row_of-in-Less.ensures (below_head R g.met.G.Ord.total x.0 right y right_rest (ap (map row_pair) second.0) order),
      omega (arith, first.1, second.1),
    )

pub returns-in_ok-row_of-in-Equal : goal.returns-in_ok-row_of-in-Equal
returns-in_ok-row_of-in-Equal g c =
    let R = g.G.Ord.cmp in
    let left = map row_pair c.args.left.now in
    let right = map row_pair c.args.right.now in
    let left_rest = map row_pair c.in-Some.left_rest.now in
    let right_rest = map row_pair c.in-Some-split_first-2.right_rest.now in
    let first = c.in-Some.ensures.cases in
    let second = c.in-Some-split_first-2.ensures.cases in
    let x = row_pair c.in-Some.x.now in
    let y = row_pair c.in-Some-split_first-2.y.now in
    let order = (λ i. R (sym c.deref-group.ensures i) (sym c.deref.ensures i)) ∙ sym c.cmp.ensures ∙ c.in-Equal.is in (
      next_both R g.met.G.Ord.total g.met.G.PathKey.exact left right left_rest right_rest x y (row_pair c.in_ok-row_of-in-Equal.field-0) (ap (map row_pair) first.0) (ap (map row_pair) second.0) order c.in_ok-row_of-in-Equal.ensures,
      omega (arith, first.1, second.1),
    )

pub returns-in_ok-row_of-in-Greater : goal.returns-in_ok-row_of-in-Greater
returns-in_ok-row_of-in-Greater g c =
    let R = g.G.Ord.cmp in
    let left = map row_pair c.args.left.now in
    let right = map row_pair c.args.right.now in
    let left_rest = map row_pair c.in-Some.left_rest.now in
    let right_rest = map row_pair c.in-Some-split_first-2.right_rest.now in
    let first = c.in-Some.ensures.cases in
    let second = c.in-Some-split_first-2.ensures.cases in
    let x = row_pair c.in-Some.x.now in
    let y = row_pair c.in-Some-split_first-2.y.now in
    let order = (λ i. R (sym c.deref-group.ensures i) (sym c.deref.ensures i)) ∙ sym c.cmp.ensures ∙ c.in-Greater.is in (
      next_right R g.met.G.Ord.total left right right_rest y (row_pair c.in_ok-row_of-in-Greater.field-0) (ap (map row_pair) second.0) c.in_ok-row_of-in-Greater.ensures (below_head R g.met.G.Ord.total y.0 left x left_rest (ap (map row_pair) first.0) (after_turned R g.met.G.Ord.total x.0 y.0 order)),
      omega (arith, first.1, second.1),
    )
