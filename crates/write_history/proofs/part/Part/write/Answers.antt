use Rattle.std.proofs.Common.{◌≡◌, ℕ, ◌++◌, [], ◌∷◌, List, Some, take, ap, sym, ◌∙◌, subst}
use mathlib.Core.List.{IsPrefix}
use Rattle.logbook.specs.Pages.{Book}
use Rattle.ghost_log.specs.Cells.{Count, counted}
use Rattle.ghost_log.specs.Turns.{MayTurn, Turned}
use Rattle.write_history.specs.declared.entry.Entry.{Entry}
use Rattle.write_history.specs.Histories.{IsOf, IsSame}
use Rattle.write_history.specs.Rules.{HasHistory, IsKept, Known, first_key}
use Rattle.write_history.specs.Signers.{Made, Signer, signer_of}
use Rattle.write_history.proofs.Prefixes.{prefix_self}
use Rattle.write_history.proofs.Turning.{may_write, named_is, right_wrote, wrote}
use Rattle.write_history.proofs.part.Part.write.Goals as goal

pub turn-requires : goal.turn-requires
turn-requires g c =
    let path = g.K.PathKey.path_of in
    let name = g.J.Naming.book in
    let s = c.self.inside in
    let mine = c.author.inside.rights in
    let e = c.args.intent.now in
    let by : e.by ≡ (signer_of mine.cells).by = c.requires.signed ∙ sym (ap (λ (x : Signer). x.by) c.author.view_is) in
    let digit : HasHistory name → (d : ℕ) × (first_key s.rights.cells ≡ Some d) × IsOf path d e.write = subst (λ (x : Known _ _). HasHistory name → (d : ℕ) × (x.digit ≡ Some d) × IsOf path d e.write) (sym c.self.view_is) c.requires.digit in
    let may = may_write path c.law_of_cells.ensures.cells c.law_of_cells.ensures.count name s.rights.book s.rights.cells s.seen.log mine.book mine.cells c.author.invariant e by digit s.seen.log s.seen.book (λ b is. (named_is name s.seen.book s.rights.book b c.self.invariant.named is).0) c.self.invariant.right in
    subst (λ (b : Book). MayTurn (λ cells log. IsKept path cells log) (λ log. []) b s.seen.book c.deal.new.other.cells s.seen.log (e ∷ [])) (sym c.deal.ensures.2)
    (subst (λ (cs : List Count). MayTurn (λ cells log. IsKept path cells log) (λ log. []) s.rights.book s.seen.book cs s.seen.log (e ∷ [])) (sym c.deal.ensures.3) may)

pub invariant_of-self : goal.invariant_of-self
invariant_of-self g c =
    let path = g.K.PathKey.path_of in
    let name = g.J.Naming.book in
    let s = c.self.inside in
    let mine = c.author.inside.rights in
    let e = c.args.intent.now in
    let new = c.turn.new.seen.log in
    let by : e.by ≡ (signer_of mine.cells).by = c.requires.signed ∙ sym (ap (λ (x : Signer). x.by) c.author.view_is) in
    let digit : HasHistory name → (d : ℕ) × (first_key s.rights.cells ≡ Some d) × IsOf path d e.write = subst (λ (x : Known _ _). HasHistory name → (d : ℕ) × (x.digit ≡ Some d) × IsOf path d e.write) (sym c.self.view_is) c.requires.digit in
    let t : Turned (λ cells log. IsKept path cells log) (s.rights.cells ++ mine.cells) s.seen.log (e ∷ []) new = subst (λ (cs : List Count). Turned (λ cells log. IsKept path cells log) cs s.seen.log (e ∷ []) new) c.deal.ensures.3 c.turn.ensures.4 in
    let right = (right_wrote path c.law_of_cells.ensures.cells c.law_of_cells.ensures.count name s.rights.book s.rights.cells s.seen.log mine.book mine.cells c.author.invariant e by digit s.seen.log new t c.self.invariant.right).1 in
    let cells : c.deal-2.new.other.cells ≡ take 1 (counted 1 (s.rights.cells ++ mine.cells)) = c.deal-2.ensures.3 ∙ ap (take 1) (c.turn.ensures.3 ∙ ap (counted 1) c.deal.ensures.3) in
    let book : c.deal-2.new.other.book ≡ s.rights.book = c.deal-2.ensures.2 ∙ (c.turn.ensures.2 ∙ c.deal.ensures.2) in
    record {
      named = rw (c.turn.ensures.0, book) c.self.invariant.named;
      right = rw (cells, book) right;
    }

pub returns-clause-wrote : goal.returns-clause-wrote
returns-clause-wrote g c = λ named.
    let path = g.K.PathKey.path_of in
    let name = g.J.Naming.book in
    let s = c.self.inside in
    let mine = c.author.inside.rights in
    let e = c.args.intent.now in
    let new = c.turn.new.seen.log in
    let by : e.by ≡ (signer_of mine.cells).by = c.requires.signed ∙ sym (ap (λ (x : Signer). x.by) c.author.view_is) in
    let digit : HasHistory name → (d : ℕ) × (first_key s.rights.cells ≡ Some d) × IsOf path d e.write = subst (λ (x : Known _ _). HasHistory name → (d : ℕ) × (x.digit ≡ Some d) × IsOf path d e.write) (sym c.self.view_is) c.requires.digit in
    let t : Turned (λ cells log. IsKept path cells log) (s.rights.cells ++ mine.cells) s.seen.log (e ∷ []) new = subst (λ (cs : List Count). Turned (λ cells log. IsKept path cells log) cs s.seen.log (e ∷ []) new) c.deal.ensures.3 c.turn.ensures.4 in
    let told = wrote path c.law_of_cells.ensures.cells c.law_of_cells.ensures.count name s.rights.book s.rights.cells s.seen.log mine.book mine.cells c.author.invariant e by digit s.seen.log new t g.K.Ord.cmp g.met.K.PathKey.exact (prefix_self s.seen.log) c.self.invariant.right named in
    subst (λ (a : Signer). (h : List (Entry _ _)) × IsPrefix c.args.self.now.log h × IsSame g.K.Ord.cmp path c.args.self.now.digit c.args.self.now.log h × Made path a h × (new ≡ h ++ e ∷ [])) c.author.view_is
    (subst (λ (x : Known _ _). (h : List (Entry _ _)) × IsPrefix x.log h × IsSame g.K.Ord.cmp path x.digit x.log h × Made path (signer_of mine.cells) h × (new ≡ h ++ e ∷ [])) c.self.view_is told)
