use Rattle.std.proofs.Common.{rules, ◌≡◌, sym, subst}
use Rattle.std.specs.Prelude.{Contains}
use Rattle.boxcar.specs.Table.{Shows}
use Rattle.journal.specs.Kept.{WasOpenedBy}
use Rattle.journal.specs.Tokens.{entry_at}
use Rattle.journal.proofs.Beside.{found_open, shown_open, opened_as}
use Rattle.journal.proofs.journaled_table.JournaledTable.was_opened_by.Goals as goal

pub agrees-requires : goal.agrees-requires
agrees-requires g c =
    let f = c.in-Some.frozen.now in
    let beside = found_open g.J.JournalName.table c.self.inside.table c.self.inside.freezes.items f c.self.invariant.beside (subst (λ fs. Contains fs f) c.deref.ensures.value c.in-Some.ensures.there) in
    let same : f.token.index ≡ c.args.opener.now.index = search rules in (
      shown_open g.J.JournalName.table c.args.entries.now c.self.inside.table f c.requires.table beside,
      subst (λ t. Shows t c.args.opener.now) (sym c.requires.table) c.requires.shown,
      same,
    )

pub returns-clause-opened : goal.returns-clause-opened
returns-clause-opened g c holds =
    let f = c.in-Some.frozen.now in
    let beside = found_open g.J.JournalName.table c.self.inside.table c.self.inside.freezes.items f c.self.invariant.beside (subst (λ fs. Contains fs f) c.deref.ensures.value c.in-Some.ensures.there) in
    subst (λ s. WasOpenedBy s.state c.args.job c.args.opener.now.value) c.self.view_is (opened_as c.self.inside.table f.number c.args.job (entry_at f.token) c.args.opener.now.value c.in-Some.ensures.number c.agrees.ensures beside.opener)
