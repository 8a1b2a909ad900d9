-- A text has one verdict.
use Prim.Native.Nat.{zero, suc}
use Rattle.std.proofs.Common.{◌≡◌, ℕ, ◌+◌, ◌-◌, ◌<◌, ◌≤◌, ◌∙◌, ◌⊎◌, inl, inr, List, [], ◌∷◌, length, take, refl, sym, ap, subst, arith}
use Rattle.std.specs.List.{flat_map}
use Rattle.std.proofs.lemmas.Bool.{cases_lt}
use Rattle.handles.specs.Machine.{nothing}
use Rattle.questions.specs.Program.{ProgramState, largest}
use Rattle.journal_lines.specs.Lines.{ended, end_line, lines_in}
use Rattle.journal_lines.proofs.NewlineLemmas.{first_line, line_one, end_one}
use Rattle.journal_text.specs.Calls.{call_text, outcome_text}
use Rattle.journal_text.specs.Entries.{ProgramEntry, entry_line, lines_behind, text_of_journal}
use Rattle.audit.specs.Verdicts.{AreLawful, IsLegalJournal, IsLegalText, BeginsLegally, IsBad}
use Rattle.audit.specs.Runs.{HasOneVerdict}
use Rattle.audit.specs.declared.verdict.Verdict.TheVariants.{Legal, Bad}
use Rattle.audit.proofs.OneState.{step_counts}
use Rattle.audit.proofs.OneText.{may_be_asked}
use Rattle.audit.proofs.Runs.{Goes, goes_first, from_journal}
use Rattle.audit.proofs.Room.{HasRoom, step_has_room}

-- ---- a legal journal has no more entries than it may

-- at first there is room
pub room_at_first : HasRoom (nothing largest)
room_at_first = record { limits = refl; places = omega arith; numbers = tt; next = omega arith }

counted : (es : List ProgramEntry) (s t : ProgramState) → Goes s es t → HasRoom s → HasRoom t × (t.entries ≡ s.entries + length es)
counted [] s t g k = (subst HasRoom g.run k, let same : t.entries ≡ s.entries = ap (λ (x : ProgramState). x.entries) (sym g.run) in omega (arith, same))
counted (e ∷ es) s t g k =
    let first = goes_first s e es t g in
    let more = counted es first.0 t first.4 (step_has_room s e.request e.outcome first.0 (may_be_asked e.request first.1.request) first.2 k first.3) in
    (more.0, omega (arith, more.1, step_counts e.request s first.0 e.outcome first.1.request first.2 first.3))

few_entries : (es : List ProgramEntry) (t : ProgramState) → IsLegalJournal es t → length es ≤ 1048576
few_entries es t j = let all = counted es (nothing largest) t (from_journal es t j) room_at_first in omega (arith, all.0.places, all.1)

-- ---- the lines of a legal text are the lines of its journal

lines_of_text : (n : ℕ) (es : List ProgramEntry) → n + length es ≤ 1048576 → AreLawful es
    → lines_in (flat_map (λ (l : List ℕ). l) (lines_behind n es)) ≡ lines_behind n es
lines_of_text n [] fits l = first_line (end_line n) [] (end_one n (omega arith))
lines_of_text n (e ∷ es) fits l =
    let unbroken = line_one (n + 1) (call_text e.request) (outcome_text e.outcome) e.seat (omega arith) (omega (arith, l.0.seat)) in
    first_line (entry_line (n + 1) e) (flat_map (λ (line : List ℕ). line) (lines_behind (n + 1) es)) unbroken
    ∙ ap (λ (ls : List (List ℕ)). ended (entry_line (n + 1) e) ∷ ls) (lines_of_text (n + 1) es (omega arith) l.1)

legal_lines : (text : List ℕ) (es : List ProgramEntry) (t : ProgramState) → IsLegalJournal es t → text ≡ text_of_journal es → lines_in text ≡ lines_behind 0 es
legal_lines text es t j is = ap lines_in is ∙ lines_of_text 0 es (omega (arith, few_entries es t j)) j.lawful

length_behind : (n : ℕ) (es : List ProgramEntry) → length (lines_behind n es) ≡ length es + 1
length_behind n [] = refl
length_behind n (e ∷ es) = omega (arith, length_behind (n + 1) es)

-- ---- two verdicts

-- what is so of more lines is so of fewer
fewer_lines : (i j : ℕ) (xs ys : List (List ℕ)) → i ≤ j → take j xs ≡ take j ys → take i xs ≡ take i ys
fewer_lines zero j xs ys few e = refl
fewer_lines (suc i) zero xs ys few e = absurd (omega arith)
fewer_lines (suc i) (suc j) [] [] few e = refl
fewer_lines (suc i) (suc j) [] (y ∷ ys) few e = cc
fewer_lines (suc i) (suc j) (x ∷ xs) [] few e = cc
fewer_lines (suc i) (suc j) (x ∷ xs) (y ∷ ys) few e =
    let head : x ≡ y = cc in
    let rest : take j xs ≡ take j ys = cc in
    let more : take i xs ≡ take i ys = fewer_lines i j xs ys (omega arith) rest in
    cc

begins_sooner : (text : List ℕ) (i j : ℕ) → i ≤ j → BeginsLegally text j → BeginsLegally text i
begins_sooner text i j few (es, t, journal, same) = (es, t, journal, fewer_lines i j (lines_in text) (lines_behind 0 es) few same)

-- a legal text begins legally as far as any line
legal_begins : (text : List ℕ) (n i : ℕ) → IsLegalText text n → BeginsLegally text i
legal_begins text n i (es, t, journal, count, is) = (es, t, journal, ap (take i) (legal_lines text es t journal is))

one_count : (text : List ℕ) (n m : ℕ) → IsLegalText text n → IsLegalText text m → n ≡ m
one_count text n m (es, t, journal, count, is) (fs, u, other, counts, too) =
    let same : lines_behind 0 es ≡ lines_behind 0 fs = sym (legal_lines text es t journal is) ∙ legal_lines text fs u other too in
    omega (arith, count, counts, sym (length_behind 0 es) ∙ ap length same ∙ length_behind 0 fs)

-- no line before the one that spoils a text does so
not_sooner : (text : List ℕ) (i j : ℕ) → i < j → IsBad text i → IsBad text j → ⊥
not_sooner text i j less b c = b.1 (begins_sooner text i (j - 1) (omega arith) c.0)

one_line : (text : List ℕ) (i j : ℕ) → IsBad text i → IsBad text j → i ≡ j
one_line text i j b c = by_order (cases_lt i j) (cases_lt j i)
  where
    by_order : (i < j) ⊎ (j ≤ i) → (j < i) ⊎ (i ≤ j) → i ≡ j
    by_order (inl less) _ = absurd (not_sooner text i j less b c)
    by_order (inr some) (inl less) = absurd (not_sooner text j i less c b)
    by_order (inr some) (inr more) = omega arith

pub one_verdict : HasOneVerdict
one_verdict text (Legal n) (Legal m) l k = ap (λ (x : ℕ). Legal x) (one_count text n m l k)
one_verdict text (Legal n) (Bad i) l b = absurd (b.1 (legal_begins text n i l))
one_verdict text (Bad i) (Legal n) b l = absurd (b.1 (legal_begins text n i l))
one_verdict text (Bad i) (Bad j) b c = ap (λ (x : ℕ). Bad x) (one_line text i j b c)
