use Rattle.std.proofs.Common.{◌≡◌, ◌++◌, ◌⊎◌, [], ◌∷◌, List, take, drop, inl, append-nil, ap, sym, ◌∙◌, subst}
use mathlib.Core.List.{IsPrefix}
use Rattle.hash_path.specs.Digits.{fan_out}
use Rattle.logbook.specs.Pages.{Book}
use Rattle.ghost_log.specs.Cells.{Count, counted}
use Rattle.ghost_log.specs.Turns.{MayTurn, Turned}
use Rattle.write_history.specs.declared.entry.Entry.{Entry}
use Rattle.write_history.specs.declared.entry.Write.TheVariants.{Clear}
use Rattle.write_history.specs.Rules.{AllCounted, HasHistory, IsKept, Lent, keys_of, up_to}
use Rattle.write_history.specs.Signers.{Made, Signer, signed_once, signer_of}
use Rattle.write_history.proofs.AllDigits.{all_counted, cleared, hers_back, keys_back, may_back, may_clear, ours_back, take_and_drop, told_after}
use Rattle.write_history.proofs.Turning.{author_after}
use Rattle.write_history.proofs.clearing.Gathered.clear.Goals as goal

pub turn-requires : goal.turn-requires
turn-requires g c =
    let path = g.K.PathKey.path_of in
    let name = g.J.Naming.book in
    let s = c.self.inside in
    let mine = c.author.inside.rights in
    let e = c.plain.result.ask in
    let by : e.by ≡ (signer_of mine.cells).by = ap (λ (x : Entry _ _). x.by) c.plain.ensures.1 ∙ sym (ap (λ (x : Signer). x.by) c.author.view_is) in
    let all : e.write ≡ Clear = ap (λ (x : Entry _ _). x.write) c.plain.ensures.1 in
    let whole : HasHistory name → keys_of s.rights.cells ≡ up_to fan_out = subst (λ (x : Lent _ _). HasHistory name → x.digits ≡ up_to fan_out) (sym c.self.view_is) c.requires in
    subst (λ (b : Book). MayTurn (λ cells log. IsKept path cells log) (λ log. []) b s.seen.book c.deal.new.other.cells s.seen.log (e ∷ [])) (sym c.deal.ensures.2)
    (subst (λ (cs : List Count). MayTurn (λ cells log. IsKept path cells log) (λ log. []) s.rights.book s.seen.book cs s.seen.log (e ∷ [])) (sym c.deal.ensures.3) (may_clear path c.law_of_cells.ensures.cells c.law_of_cells.ensures.count name s.rights.book s.rights.cells s.seen.book s.seen.log c.self.invariant mine.book mine.cells c.author.invariant e by all whole c.self.invariant.told))

pub deal-requires-2-clause-books : goal.deal-requires-2-clause-books
deal-requires-2-clause-books g c =
    let path = g.K.PathKey.path_of in
    let name = g.J.Naming.book in
    let s = c.self.inside in
    let mine = c.author.inside.rights in
    let e = c.plain.result.ask in
    let by : e.by ≡ (signer_of mine.cells).by = ap (λ (x : Entry _ _). x.by) c.plain.ensures.1 ∙ sym (ap (λ (x : Signer). x.by) c.author.view_is) in
    let all : e.write ≡ Clear = ap (λ (x : Entry _ _). x.write) c.plain.ensures.1 in
    let whole : HasHistory name → keys_of s.rights.cells ≡ up_to fan_out = subst (λ (x : Lent _ _). HasHistory name → x.digits ≡ up_to fan_out) (sym c.self.view_is) c.requires in
    let cells : c.turn.new.rights.cells ≡ counted 1 (s.rights.cells ++ mine.cells) = c.turn.ensures.3 ∙ ap (counted 1) c.deal.ensures.3 in
    let books : (◌≡◌ {A = List Count} [] [] × (drop fan_out (counted 1 (s.rights.cells ++ mine.cells)) ≡ [])) ⊎ (mine.book ≡ s.rights.book) = may_back path c.law_of_cells.ensures.cells c.law_of_cells.ensures.count name s.rights.book s.rights.cells s.seen.book s.seen.log c.self.invariant mine.book mine.cells c.author.invariant e by all whole c.self.invariant.told in
    rw (c.deal.ensures.1, cells, c.deal.ensures.0, c.turn.ensures.2 ∙ c.deal.ensures.2) books

pub deal-requires-2-clause-all : goal.deal-requires-2-clause-all
deal-requires-2-clause-all g c = inl (take_and_drop fan_out c.turn.new.rights.cells ∙ sym (ap (λ (cs : List Count). c.turn.new.rights.cells ++ cs) c.deal.ensures.1 ∙ append-nil c.turn.new.rights.cells))

pub invariant_of-author : goal.invariant_of-author
invariant_of-author g c =
    let path = g.K.PathKey.path_of in
    let name = g.J.Naming.book in
    let s = c.self.inside in
    let mine = c.author.inside.rights in
    let e = c.plain.result.ask in
    let by : e.by ≡ (signer_of mine.cells).by = ap (λ (x : Entry _ _). x.by) c.plain.ensures.1 ∙ sym (ap (λ (x : Signer). x.by) c.author.view_is) in
    let all : e.write ≡ Clear = ap (λ (x : Entry _ _). x.write) c.plain.ensures.1 in
    let whole : HasHistory name → keys_of s.rights.cells ≡ up_to fan_out = subst (λ (x : Lent _ _). HasHistory name → x.digits ≡ up_to fan_out) (sym c.self.view_is) c.requires in
    let cells : c.turn.new.rights.cells ≡ counted 1 (s.rights.cells ++ mine.cells) = c.turn.ensures.3 ∙ ap (counted 1) c.deal.ensures.3 in
    rw (c.deal-2.ensures.0 ∙ c.deal.ensures.0, c.deal-2.ensures.1 ∙ (ap (drop fan_out) cells ∙ hers_back path c.law_of_cells.ensures.cells c.law_of_cells.ensures.count name s.rights.book s.rights.cells s.seen.book s.seen.log c.self.invariant mine.book mine.cells c.author.invariant e by all whole c.self.invariant.told)) (author_after name mine.book mine.cells c.author.invariant).0

pub invariant_of-result : goal.invariant_of-result
invariant_of-result g c =
    let path = g.K.PathKey.path_of in
    let name = g.J.Naming.book in
    let s = c.self.inside in
    let mine = c.author.inside.rights in
    let e = c.plain.result.ask in
    let by : e.by ≡ (signer_of mine.cells).by = ap (λ (x : Entry _ _). x.by) c.plain.ensures.1 ∙ sym (ap (λ (x : Signer). x.by) c.author.view_is) in
    let all : e.write ≡ Clear = ap (λ (x : Entry _ _). x.write) c.plain.ensures.1 in
    let whole : HasHistory name → keys_of s.rights.cells ≡ up_to fan_out = subst (λ (x : Lent _ _). HasHistory name → x.digits ≡ up_to fan_out) (sym c.self.view_is) c.requires in
    let cells : c.turn.new.rights.cells ≡ counted 1 (s.rights.cells ++ mine.cells) = c.turn.ensures.3 ∙ ap (counted 1) c.deal.ensures.3 in
    let t : Turned (λ cells log. IsKept path cells log) (s.rights.cells ++ mine.cells) s.seen.log (e ∷ []) c.turn.new.seen.log = subst (λ (cs : List Count). Turned (λ cells log. IsKept path cells log) cs s.seen.log (e ∷ []) c.turn.new.seen.log) c.deal.ensures.3 c.turn.ensures.4 in
    let book : c.deal-2.new.other.book ≡ s.rights.book = c.deal-2.ensures.2 ∙ (c.turn.ensures.2 ∙ c.deal.ensures.2) in
    let left : c.deal-2.new.other.cells ≡ take fan_out (counted 1 (s.rights.cells ++ mine.cells)) = c.deal-2.ensures.3 ∙ ap (take fan_out) cells in (
      record {
        named = rw (c.turn.ensures.0, book) c.self.invariant.named;
        told = rw (book, left ∙ ours_back path c.law_of_cells.ensures.cells c.law_of_cells.ensures.count name s.rights.book s.rights.cells s.seen.book s.seen.log c.self.invariant mine.book mine.cells c.author.invariant e by all whole c.self.invariant.told) (told_after c.self.invariant.told);
      },
      subst (AllCounted path c.turn.new.seen.log) (sym left) (all_counted path c.law_of_cells.ensures.cells c.law_of_cells.ensures.count name s.rights.book s.rights.cells s.seen.book s.seen.log c.self.invariant mine.book mine.cells c.author.invariant e by all whole c.turn.new.seen.log t c.self.invariant.told),
    )

pub returns-clause-wrote : goal.returns-clause-wrote
returns-clause-wrote g c = λ named.
    let path = g.K.PathKey.path_of in
    let name = g.J.Naming.book in
    let s = c.self.inside in
    let mine = c.author.inside.rights in
    let e = c.plain.result.ask in
    let by : e.by ≡ (signer_of mine.cells).by = ap (λ (x : Entry _ _). x.by) c.plain.ensures.1 ∙ sym (ap (λ (x : Signer). x.by) c.author.view_is) in
    let all : e.write ≡ Clear = ap (λ (x : Entry _ _). x.write) c.plain.ensures.1 in
    let whole : HasHistory name → keys_of s.rights.cells ≡ up_to fan_out = subst (λ (x : Lent _ _). HasHistory name → x.digits ≡ up_to fan_out) (sym c.self.view_is) c.requires in
    let t : Turned (λ cells log. IsKept path cells log) (s.rights.cells ++ mine.cells) s.seen.log (e ∷ []) c.turn.new.seen.log = subst (λ (cs : List Count). Turned (λ cells log. IsKept path cells log) cs s.seen.log (e ∷ []) c.turn.new.seen.log) c.deal.ensures.3 c.turn.ensures.4 in
    let told = cleared path c.law_of_cells.ensures.cells c.law_of_cells.ensures.count name s.rights.book s.rights.cells s.seen.book s.seen.log c.self.invariant mine.book mine.cells c.author.invariant e by all whole c.turn.new.seen.log t named c.self.invariant.told in
    let is = c.plain.ensures.1 in
    let new = c.turn.new.seen.log in
    subst (λ (x : Lent _ _). (h : List (Entry _ _)) × IsPrefix x.log h × Made path c.args.author.now h × (new ≡ h ++ record { by = c.args.author.now.by; write = Clear } ∷ [])) c.self.view_is
    (subst (λ (a : Signer). (h : List (Entry _ _)) × IsPrefix s.seen.log h × Made path a h × (new ≡ h ++ record { by = c.args.author.now.by; write = Clear } ∷ [])) c.author.view_is
    (subst (λ (x : Entry _ _). (h : List (Entry _ _)) × IsPrefix s.seen.log h × Made path (signer_of mine.cells) h × (new ≡ h ++ x ∷ [])) is told))

pub returns-clause-digits : goal.returns-clause-digits
returns-clause-digits g c =
    let path = g.K.PathKey.path_of in
    let name = g.J.Naming.book in
    let s = c.self.inside in
    let mine = c.author.inside.rights in
    let e = c.plain.result.ask in
    let by : e.by ≡ (signer_of mine.cells).by = ap (λ (x : Entry _ _). x.by) c.plain.ensures.1 ∙ sym (ap (λ (x : Signer). x.by) c.author.view_is) in
    let all : e.write ≡ Clear = ap (λ (x : Entry _ _). x.write) c.plain.ensures.1 in
    let whole : HasHistory name → keys_of s.rights.cells ≡ up_to fan_out = subst (λ (x : Lent _ _). HasHistory name → x.digits ≡ up_to fan_out) (sym c.self.view_is) c.requires in
    let cells : c.turn.new.rights.cells ≡ counted 1 (s.rights.cells ++ mine.cells) = c.turn.ensures.3 ∙ ap (counted 1) c.deal.ensures.3 in
    ap keys_of (c.deal-2.ensures.3 ∙ ap (take fan_out) cells) ∙ (keys_back path c.law_of_cells.ensures.cells c.law_of_cells.ensures.count name s.rights.book s.rights.cells s.seen.book s.seen.log c.self.invariant mine.book mine.cells c.author.invariant e by all whole c.self.invariant.told ∙ ap (λ (x : Lent _ _). x.digits) c.self.view_is)

pub returns-clause-author : goal.returns-clause-author
returns-clause-author g c =
    let path = g.K.PathKey.path_of in
    let name = g.J.Naming.book in
    let s = c.self.inside in
    let mine = c.author.inside.rights in
    let e = c.plain.result.ask in
    let by : e.by ≡ (signer_of mine.cells).by = ap (λ (x : Entry _ _). x.by) c.plain.ensures.1 ∙ sym (ap (λ (x : Signer). x.by) c.author.view_is) in
    let all : e.write ≡ Clear = ap (λ (x : Entry _ _). x.write) c.plain.ensures.1 in
    let whole : HasHistory name → keys_of s.rights.cells ≡ up_to fan_out = subst (λ (x : Lent _ _). HasHistory name → x.digits ≡ up_to fan_out) (sym c.self.view_is) c.requires in
    let cells : c.turn.new.rights.cells ≡ counted 1 (s.rights.cells ++ mine.cells) = c.turn.ensures.3 ∙ ap (counted 1) c.deal.ensures.3 in
    ap signer_of (c.deal-2.ensures.1 ∙ (ap (drop fan_out) cells ∙ hers_back path c.law_of_cells.ensures.cells c.law_of_cells.ensures.count name s.rights.book s.rights.cells s.seen.book s.seen.log c.self.invariant mine.book mine.cells c.author.invariant e by all whole c.self.invariant.told))
    ∙ ((author_after name mine.book mine.cells c.author.invariant).1 ∙ ap signed_once c.author.view_is)
