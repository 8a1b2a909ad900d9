use Rattle.std.proofs.Common.{subst, sym, ap, arith, map, ◌∙◌}
use Rattle.versions.specs.Map.{IsMap}
use Rattle.group_counts.specs.Counts.{row_pair, total}
use Rattle.group_counts.proofs.Places.{count_read, raised, entered, put_rises, written}
use Rattle.group_counts.proofs.Totals.{count_within, total_with_one}
use Rattle.group_counts.proofs.groups.Groups.count_one.Goals as goal

pub overflow_add-index_mut : goal.overflow_add-index_mut
overflow_add-index_mut g c =
    let is = count_read g.G.Ord.cmp g.met.G.Ord.total c.self.inside.rows.items c.args.self.now c.self.view_is c.args.group c.in-Ok.at c.index_mut.result.now c.in-Ok.ensures.found c.index_mut.ensures.value in
    omega (arith, c.requires, is, count_within g.G.Ord.cmp g.met.G.Ord.total c.args.group c.args.self.now)

pub invariant_of-self : goal.invariant_of-self
invariant_of-self g c =
    let R = g.G.Ord.cmp in
    let was = subst (IsMap R) c.self.view_is c.self.invariant in
    subst (IsMap R) (sym (written R g.met.G.Ord.total c.self.inside.rows.items c.args.self.now c.self.view_is c.args.group c.in-Ok.at c.index_mut.result.now _ c.in-Ok.ensures.found c.index_mut.ensures.value))
    (put_rises R g.met.G.Ord.total c.args.self.now c.args.group _ was)

pub invariant_of-self-in-Continue-branch-2 : goal.invariant_of-self-in-Continue-branch-2
invariant_of-self-in-Continue-branch-2 g c =
    let R = g.G.Ord.cmp in
    let was = subst (IsMap R) c.self.view_is c.self.invariant in
    let made = ap (map row_pair) c.in_ok-insert-in-Err.ensures.items ∙ entered R g.met.G.Ord.total c.self.inside.rows.items c.args.self.now c.self.view_is c.args.group c.in-Err.at c.in_ok-group-in-Err.group c.in-Err.ensures.absent c.in_ok-group-in-Err.ensures.ok in
    subst (IsMap R) (sym made) (put_rises R g.met.G.Ord.total c.args.self.now c.args.group _ was)

pub returns-in-Ok-clause-ok : goal.returns-in-Ok-clause-ok
returns-in-Ok-clause-ok g c =
    raised g.G.Ord.cmp g.met.G.Ord.total c.self.inside.rows.items c.args.self.now c.self.view_is c.args.group c.in-Ok.at c.index_mut.result.now c.in-Ok.ensures.found c.index_mut.ensures.value

pub returns-in_ok-insert-in-Err-clause-ok : goal.returns-in_ok-insert-in-Err-clause-ok
returns-in_ok-insert-in-Err-clause-ok g c =
    ap (map row_pair) c.in_ok-insert-in-Err.ensures.items ∙ entered g.G.Ord.cmp g.met.G.Ord.total c.self.inside.rows.items c.args.self.now c.self.view_is c.args.group c.in-Err.at c.in_ok-group-in-Err.group c.in-Err.ensures.absent c.in_ok-group-in-Err.ensures.ok

pub returns-in-Ok-clause-all : goal.returns-in-Ok-clause-all
returns-in-Ok-clause-all g c =
    let R = g.G.Ord.cmp in
    let was = subst (IsMap R) c.self.view_is c.self.invariant in
    ap total (raised R g.met.G.Ord.total c.self.inside.rows.items c.args.self.now c.self.view_is c.args.group c.in-Ok.at c.index_mut.result.now c.in-Ok.ensures.found c.index_mut.ensures.value)
    ∙ total_with_one R g.met.G.Ord.total c.args.group c.args.self.now was

pub returns-in_ok-insert-in-Err-clause-all : goal.returns-in_ok-insert-in-Err-clause-all
returns-in_ok-insert-in-Err-clause-all g c =
    let R = g.G.Ord.cmp in
    let was = subst (IsMap R) c.self.view_is c.self.invariant in
    let made = ap (map row_pair) c.in_ok-insert-in-Err.ensures.items ∙ entered R g.met.G.Ord.total c.self.inside.rows.items c.args.self.now c.self.view_is c.args.group c.in-Err.at c.in_ok-group-in-Err.group c.in-Err.ensures.absent c.in_ok-group-in-Err.ensures.ok in
    ap total made ∙ total_with_one R g.met.G.Ord.total c.args.group c.args.self.now was
