use Rattle.std.proofs.Common.{map, ap, sym, subst, ◌∙◌, [], arith}
use Rattle.std.proofs.lemmas.List.{map_push}
use Rattle.group_counts.specs.Counts.{row_pair}
use Rattle.group_counts.specs.Joining.{Joining}
use Rattle.group_counts.proofs.Joins.{starts, ends}
use Rattle.group_counts.proofs.joining.joined_rows.Goals as goal

pub loop-rows-init : goal.loop-rows-init
loop-rows-init g c =
    let R = g.G.Ord.cmp in
    let first = map row_pair c.args.first.now in
    let second = map row_pair c.args.second.now in
    subst (λ done. Joining R first second done first second) (sym (ap (map row_pair) c.new-rows.ensures.items)) (starts R first second c.requires.first_rises c.requires.second_rises)

pub next_row-requires : goal.next_row-requires
next_row-requires g c = omega (arith, c.loop-rows.invariant.all, c.requires.few)

pub loop-rows-smaller : goal.loop-rows-smaller
loop-rows-smaller g c =
    let next = rw c.in-Some.is at c.in_ok-row.ensures in
    next.1

pub loop-rows-preserved : goal.loop-rows-preserved
loop-rows-preserved g c =
    let R = g.G.Ord.cmp in
    let first = map row_pair c.args.first.now in
    let second = map row_pair c.args.second.now in
    let done = map row_pair c.loop-rows.rows.items in
    let left = map row_pair c.in-Some.left_rest.now in
    let right = map row_pair c.in-Some.right_rest.now in
    let next = rw c.in-Some.is at c.in_ok-row.ensures in
    let pushed = ap (map row_pair) c.in_ok-push.ensures.items ∙ map_push row_pair c.loop-rows.rows.items c.in-Some.row in
    subst (λ rows. Joining R first second rows left right) (sym pushed) (next.0 first second done c.loop-rows.invariant)

pub returns : goal.returns
returns g c =
    let R = g.G.Ord.cmp in
    let first = map row_pair c.args.first.now in
    let second = map row_pair c.args.second.now in
    let done = map row_pair c.loop-rows.rows.items in
    let over = rw c.in_default.is at c.in_ok-row.ensures in
    let none = subst (λ left. Joining R first second done left (map row_pair c.loop-rows.right.now)) (ap (map row_pair) over.0) c.loop-rows.invariant in
    ends R first second done (subst (Joining R first second done []) (ap (map row_pair) over.1) none)
