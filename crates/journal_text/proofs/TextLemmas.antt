-- The lines that are left of a journal.
use Rattle.std.proofs.Common.{◌≡◌, ℕ, suc, zero, ◌+◌, ◌∙◌, List, [], ◌∷◌, ◌++◌, Some, length, drop, ap, sym, subst, append-nil}
use Rattle.std.specs.List.{flat_map, slice_get}
use Rattle.std.proofs.lemmas.List.{append_assoc, drop_more}
use Rattle.std.proofs.lemmas.Option.{slice_get_within, get_or_from_slice_get}
use Rattle.std.proofs.Math.Seq.{drop-length}
use Rattle.journal_lines.specs.Lines.{ended, end_line}
use Rattle.journal_text.specs.Entries.{AreLawful, IsLawfulEntry, ProgramEntry, entry_line, lines_behind}

-- the text of the lines from the entry at this place on
abbrev pub text_from : ℕ → List ProgramEntry → List ℕ
text_from n es = flat_map (λ (line : List ℕ). line) (lines_behind n (drop n es))

-- the line of the entry at a place stands before those of the others
pub next_line : (es : List ProgramEntry) (n : ℕ) (e : ProgramEntry) → slice_get es n ≡ Some e → text_from n es ≡ ended (entry_line (n + 1) e) ++ text_from (n + 1) es
next_line es n e is =
    let here : drop n es ≡ e ∷ drop (n + 1) es = drop_more es n e (slice_get_within es n e is) ∙ ap (λ (x : ProgramEntry). x ∷ drop (n + 1) es) (get_or_from_slice_get es n e e is) in
    ap (λ (rest : List ProgramEntry). flat_map (λ (line : List ℕ). line) (lines_behind n rest)) here

-- one line more
pub more_text : (es : List ProgramEntry) (n : ℕ) (e : ProgramEntry) (old new whole : List ℕ) → slice_get es n ≡ Some e → old ++ text_from n es ≡ whole → new ≡ old ++ ended (entry_line (n + 1) e) → new ++ text_from (n + 1) es ≡ whole
more_text es n e old new whole is so_far pushed =
    ap (λ (t : List ℕ). t ++ text_from (n + 1) es) pushed ∙ append_assoc old (ended (entry_line (n + 1) e)) (text_from (n + 1) es) ∙ ap (λ (t : List ℕ). old ++ t) (sym (next_line es n e is)) ∙ so_far

-- behind the last entry stands the last line
pub whole_text : (es : List ProgramEntry) (n : ℕ) (old whole : List ℕ) → n ≡ length es → old ++ text_from n es ≡ whole → old ++ ended (end_line n) ≡ whole
whole_text es n old whole is so_far =
    let none : drop n es ≡ [] = ap (λ (k : ℕ). drop k es) is ∙ drop-length es in
    let last : text_from n es ≡ ended (end_line n) ++ [] = ap (λ (rest : List ProgramEntry). flat_map (λ (line : List ℕ). line) (lines_behind n rest)) none in
    ap (λ (t : List ℕ). old ++ t) (sym (last ∙ append-nil (ended (end_line n)))) ∙ so_far

-- the same of the bytes that are pushed
pub last_text : (es : List ProgramEntry) (n m : ℕ) (old bytes new whole : List ℕ) → n ≡ length es → m ≡ length es → bytes ≡ end_line m → new ≡ (old ++ bytes) ++ 10 ∷ [] → old ++ text_from n es ≡ whole → new ≡ whole
last_text es n m old bytes new whole is too line pushed so_far =
    pushed ∙ append_assoc old bytes (10 ∷ []) ∙ ap (λ (b : List ℕ). old ++ ended b) (line ∙ ap end_line (too ∙ sym is)) ∙ whole_text es n old whole is so_far

-- the entry at a place is lawful, where all are
pub lawful_at : (es : List ProgramEntry) (n : ℕ) (e : ProgramEntry) → AreLawful es → slice_get es n ≡ Some e → IsLawfulEntry e
lawful_at [] n e all is = absurd (cc)
lawful_at (x ∷ es) zero e all is = let same : x ≡ e = cc in subst IsLawfulEntry same all.0
lawful_at (x ∷ es) (suc n) e all is = lawful_at es n e all.1 is
