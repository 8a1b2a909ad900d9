-- Runs of lawful entries from any state.
use Rattle.std.proofs.Common.{◌≡◌, Bool, true, false, List, [], ◌∷◌, ◌++◌, refl, sym, subst}
use Rattle.std.specs.Prelude.{◌&&◌}
use Rattle.std.specs.List.{list_all}
use Rattle.handles.specs.Machine.{Run, Step, nothing}
use Rattle.journal.specs.Journals.{is_filed, is_filed_in, outcomes_in, requests_in}
use Rattle.questions.specs.Program.{program, ProgramState, largest}
use Rattle.journal_text.specs.Entries.{ProgramEntry, IsLawfulEntry}
use Rattle.audit.specs.Verdicts.{AreLawful, IsLegalJournal}

-- the entries are lawful, filed, and a run from the one state to the other
pub record Goes (s : ProgramState) (es : List ProgramEntry) (t : ProgramState) : Type 0 where
  pub lawful : AreLawful es
  pub run : Run program s (requests_in es) (outcomes_in es) t
  pub filed : list_all is_filed_in es ≡ true

pub from_journal : (es : List ProgramEntry) (t : ProgramState) → IsLegalJournal es t → Goes (nothing largest) es t
from_journal es t j = record { lawful = j.lawful; run = j.legal.run; filed = j.legal.filed }

pub to_journal : (es : List ProgramEntry) (t : ProgramState) → Goes (nothing largest) es t → IsLegalJournal es t
to_journal es t g = record { lawful = g.lawful; legal = record { run = g.run; filed = g.filed } }

both : (a b : Bool) → (a && b) ≡ true → (a ≡ true) × (b ≡ true)
both true b e = (refl, e)
both false b e = cc

lawful_more : (es : List ProgramEntry) (e : ProgramEntry) → AreLawful es → IsLawfulEntry e → AreLawful (es ++ e ∷ [])
lawful_more [] e ls l = (l, tt)
lawful_more (x ∷ es) e ls l = (ls.0, lawful_more es e ls.1 l)

filed_more : (es : List ProgramEntry) (e : ProgramEntry) → list_all is_filed_in es ≡ true → is_filed e.outcome ≡ true → list_all is_filed_in (es ++ e ∷ []) ≡ true
filed_more [] e fs f = rw f refl
filed_more (x ∷ es) e fs f = let p = both (is_filed x.outcome) (list_all is_filed_in es) fs in rw (p.0) (filed_more es e p.1 f)

run_more : (es : List ProgramEntry) (e : ProgramEntry) (s t u : ProgramState) → Run program s (requests_in es) (outcomes_in es) t → Step program t e.request e.outcome u
    → Run program s (requests_in (es ++ e ∷ [])) (outcomes_in (es ++ e ∷ [])) u
run_more [] e s t u run step = (u, subst (λ (x : ProgramState). Step program x e.request e.outcome u) (sym run) step, refl)
run_more (x ∷ es) e s t u run step = (run.0, run.1, run_more es e run.0 t u run.2 step)

-- one entry more
pub goes_more : (es : List ProgramEntry) (e : ProgramEntry) (s t u : ProgramState) → Goes s es t → IsLawfulEntry e → is_filed e.outcome ≡ true → Step program t e.request e.outcome u → Goes s (es ++ e ∷ []) u
goes_more es e s t u g l f step = record { lawful = lawful_more es e g.lawful l; run = run_more es e s t u g.run step; filed = filed_more es e g.filed f }

-- the first entry, and those behind it
pub goes_first : (s : ProgramState) (e : ProgramEntry) (es : List ProgramEntry) (t : ProgramState) → Goes s (e ∷ es) t
    → (m : ProgramState) × IsLawfulEntry e × (is_filed e.outcome ≡ true) × Step program s e.request e.outcome m × Goes m es t
goes_first s e es t g =
    let p = both (is_filed e.outcome) (list_all is_filed_in es) g.filed in
    (g.run.0, g.lawful.0, p.0, g.run.1, record { lawful = g.lawful.1; run = g.run.2; filed = p.1 })
