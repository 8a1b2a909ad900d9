use Rattle.std.proofs.Common.{rules}
use Rattle.std.proofs.lemmas.Fn.{always_returns_same}
use Rattle.group_counts.specs.Counts.{row_pair}
use Rattle.group_counts.proofs.Places.{searched}
use Rattle.group_counts.proofs.groups.Groups.place_of.Goals as goal

pub returns-clause-found : goal.returns-clause-found
returns-clause-found g c =
    let R = g.G.Ord.cmp in
    let facts = c.binary_search_by.ensures in
    let by = facts.position (λ row. R row.0.value c.args.group.now) (always_returns_same _ _ _ (λ a r f called. search rules)) in
    rw (← c.self.view_is) (searched R g.met.G.Ord.total row_pair c.args.group.now c.self.inside.rows.items c.self.invariant c.binary_search_by.result (rw c.deref.ensures.value at facts.bound) (rw c.deref.ensures.value at by)).found

pub returns-clause-absent : goal.returns-clause-absent
returns-clause-absent g c =
    let R = g.G.Ord.cmp in
    let facts = c.binary_search_by.ensures in
    let by = facts.position (λ row. R row.0.value c.args.group.now) (always_returns_same _ _ _ (λ a r f called. search rules)) in
    rw (← c.self.view_is) (searched R g.met.G.Ord.total row_pair c.args.group.now c.self.inside.rows.items c.self.invariant c.binary_search_by.result (rw c.deref.ensures.value at facts.bound) (rw c.deref.ensures.value at by)).absent
