use Rattle.std.proofs.Common.{[], sym, ◌∙◌, subst}
use mathlib.Core.List.{IsPrefix}
use Rattle.write_history.specs.Histories.{IsSame}
use Rattle.write_history.specs.Rules.{Known}
use Rattle.write_history.proofs.Prefixes.{prefix_trans}
use Rattle.write_history.proofs.Turning.{may_look, named_is, same_looked, seen_begins}
use Rattle.write_history.proofs.part.Part.meet.Goals as goal

pub learn-requires : goal.learn-requires
learn-requires g c = sym (named_is g.J.Naming.book c.self.inside.seen.book c.self.inside.rights.book c.front.inside.seen.book c.self.invariant.named c.front.invariant).0

pub turn-requires : goal.turn-requires
turn-requires g c =
    let s = c.self.inside in
    may_look g.K.PathKey.path_of c.law_of_cells.ensures.cells c.law_of_cells.ensures.count g.J.Naming.book s.rights.book s.rights.cells s.seen.log c.learn.new.self.log c.learn.new.self.book (λ b is. c.learn.ensures.0 ∙ (named_is g.J.Naming.book s.seen.book s.rights.book b c.self.invariant.named is).0) c.self.invariant.right

pub returns-clause-mine : goal.returns-clause-mine
returns-clause-mine g c =
    let s = c.self.inside in
    let begins : IsPrefix c.learn.new.self.log c.turn.new.seen.log = seen_begins g.K.PathKey.path_of s.rights.cells c.learn.new.self.log [] c.turn.new.seen.log c.turn.ensures.4 in
    subst (λ (x : Known _ _). IsPrefix x.log c.turn.new.seen.log) c.self.view_is (prefix_trans s.seen.log c.learn.new.self.log c.turn.new.seen.log c.learn.ensures.2 begins)

pub returns-clause-same : goal.returns-clause-same
returns-clause-same g c =
    let path = g.K.PathKey.path_of in
    let s = c.self.inside in
    let new = c.turn.new.seen.log in
    subst (λ (x : Known _ _). IsSame g.K.Ord.cmp path x.digit x.log new) c.self.view_is
    (same_looked path c.law_of_cells.ensures.cells c.law_of_cells.ensures.count g.J.Naming.book s.rights.book s.rights.cells s.seen.log c.learn.new.self.log new c.turn.ensures.4 g.K.Ord.cmp g.met.K.PathKey.exact c.learn.ensures.2 c.self.invariant.right)
