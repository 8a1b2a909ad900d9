use Rattle.std.proofs.Common.{sym, subst}
use mathlib.Core.List.{IsPrefix}
use Rattle.write_history.specs.Histories.{IsSame}
use Rattle.write_history.specs.Rules.{Known}
use Rattle.write_history.proofs.Turning.{same_stands}
use Rattle.write_history.proofs.part.Part.stands.Goals as goal

pub returns-clause-same : goal.returns-clause-same
returns-clause-same g c =
    let path = g.K.PathKey.path_of in
    let s = c.self.inside in
    let h = c.again-later.result.log in
    let pre : IsPrefix s.seen.log h = rw (c.again-later.ensures) (subst (λ (x : Known _ _). IsPrefix x.log c.front.inside.seen.log) (sym c.self.view_is) (rw c.front.view_is c.requires)) in
    let same : IsSame g.K.Ord.cmp path (Rattle.write_history.specs.Rules.first_key s.rights.cells) s.seen.log h = same_stands path c.law_of_cells.ensures.cells c.law_of_cells.ensures.count g.J.Naming.book s.rights.book s.rights.cells s.seen.log h c.turn.new.seen.log c.turn.ensures.4 g.K.Ord.cmp g.met.K.PathKey.exact pre c.self.invariant.right in
    rw (← c.front.view_is, ← c.self.view_is, ← c.again-later.ensures) same
