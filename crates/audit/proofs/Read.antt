-- Reading a journal's text line by line.
use Prim.Native.Nat.{zero, suc}
use Rattle.std.proofs.Common.{◌≡◌, Bool, true, false, ℕ, ◌+◌, ◌-◌, ◌<◌, ◌≤◌, ◌^◌, ◌∙◌, List, [], ◌∷◌, ◌++◌, length, take, refl, sym, ap, arith}
use Rattle.std.specs.Prelude.{◌==◌, cond}
use Rattle.std.specs.List.{flat_map, onto_first}
use Rattle.handles.specs.Machine.{nothing}
use Rattle.questions.specs.Program.{ProgramState, largest}
use Rattle.journal_lines.specs.Lines.{ended, end_line}
use Rattle.journal_text.specs.Entries.{ProgramEntry, entry_line, entry_lines, lines_behind}
use Rattle.journal_lines.specs.Lines.{lines_in}
use Rattle.audit.specs.Verdicts.{IsLegalJournal, IsLegalText, BeginsLegally, IsBad}
use Rattle.audit.specs.Answers.{IsNext, IsNoneNext}
use Rattle.audit.specs.Reading.{HasRead}
use Rattle.audit.proofs.OneState.{step_counts}
use Rattle.audit.proofs.Runs.{Goes, goes_first, goes_more, from_journal, to_journal}
use Rattle.audit.proofs.Diverging.{Rest, agreed, entry_is_no_end}

-- ---- lists of lines

entry_lines_more : (n m : ℕ) (es : List ProgramEntry) (e : ProgramEntry) (more : List (List ℕ)) → m ≡ n + length es → entry_lines n (es ++ e ∷ []) ++ more ≡ entry_lines n es ++ (ended (entry_line (m + 1) e) ∷ more)
entry_lines_more n m [] e more at = let same : m ≡ n = omega arith in rw same refl
entry_lines_more n m (x ∷ es) e more at = ap (λ (ls : List (List ℕ)). ended (entry_line (n + 1) x) ∷ ls) (entry_lines_more (n + 1) m es e more (omega arith))

behind_is : (n m : ℕ) (es : List ProgramEntry) → m ≡ n + length es → lines_behind n es ≡ entry_lines n es ++ (ended (end_line m) ∷ [])
behind_is n m [] at = let same : m ≡ n = omega arith in rw same refl
behind_is n m (x ∷ es) at = ap (λ (ls : List (List ℕ)). ended (entry_line (n + 1) x) ∷ ls) (behind_is (n + 1) m es (omega arith))

-- the first lines are those of the entries, and of what follows
take_behind : (n i k : ℕ) (es : List ProgramEntry) (more : List (List ℕ)) → i ≡ length es + k → take i (entry_lines n es ++ more) ≡ entry_lines n es ++ take k more
take_behind n i k [] more is = let same : i ≡ k = omega arith in rw same refl
take_behind n zero k (e ∷ es) more is = absurd (omega arith)
take_behind n (suc i) k (e ∷ es) more is = ap (λ (ls : List (List ℕ)). ended (entry_line (n + 1) e) ∷ ls) (take_behind (n + 1) i k es more (omega arith))

joined_first : (b : ℕ) (lines : List (List ℕ)) → flat_map (λ (l : List ℕ). l) (onto_first b lines) ≡ b ∷ flat_map (λ (l : List ℕ). l) lines
joined_first b [] = refl
joined_first b (l ∷ lines) = refl

joined_if : (t : Bool) (b : ℕ) (lines : List (List ℕ)) (bytes : List ℕ) → flat_map (λ (l : List ℕ). l) lines ≡ bytes → flat_map (λ (l : List ℕ). l) (cond t ((b ∷ []) ∷ lines) (onto_first b lines)) ≡ b ∷ bytes
joined_if true b lines bytes e = ap (λ (bs : List ℕ). b ∷ bs) e
joined_if false b lines bytes e = joined_first b lines ∙ ap (λ (bs : List ℕ). b ∷ bs) e

-- the lines of a text, one after another, are the text
pub joined : (text : List ℕ) → flat_map (λ (l : List ℕ). l) (lines_in text) ≡ text
joined [] = refl
joined (b ∷ bytes) = joined_if (b == 10) b (lines_in bytes) bytes (joined bytes)

-- ---- a line more

length_push : (es : List ProgramEntry) (e : ProgramEntry) → length (es ++ e ∷ []) ≡ length es + 1
length_push [] e = refl
length_push (x ∷ es) e = omega (arith, length_push es e)

pub none_read : (text : List ℕ) → HasRead text false (nothing largest) text
none_read text = record {
  entries = [];
  journal = record { lawful = tt; legal = record { run = refl; filed = refl } };
  count = refl;
  lines = refl;
}

pub entry_read : (text : List ℕ) (s t : ProgramState) (rest line after : List ℕ) → HasRead text false s rest → lines_in rest ≡ line ∷ lines_in after → IsNext s line t → HasRead text false t after
entry_read text s t rest line after h next is = record {
  entries = h.entries ++ is.entry ∷ [];
  journal = to_journal _ t (goes_more h.entries is.entry (nothing largest) s t (from_journal h.entries s h.journal) is.lawful is.filed is.step);
  count = step_counts is.entry.request s t is.entry.outcome is.lawful.request is.filed is.step ∙ counted;
  lines = h.lines ∙ ap (λ (ls : List (List ℕ)). entry_lines 0 h.entries ++ ls) (next ∙ ap (λ (l : List ℕ). l ∷ lines_in after) here) ∙ sym (entry_lines_more 0 (length h.entries) h.entries is.entry (lines_in after) (omega arith));
}
  where
    here : line ≡ ended (entry_line (length h.entries + 1) is.entry)
    here = is.text ∙ ap (λ (n : ℕ). ended (entry_line (n + 1) is.entry)) h.count

    counted : s.entries + 1 ≡ length (h.entries ++ is.entry ∷ [])
    counted = omega (arith, h.count, length_push h.entries is.entry)

pub end_read : (text : List ℕ) (s : ProgramState) (rest line after : List ℕ) → HasRead text false s rest → lines_in rest ≡ line ∷ lines_in after → line ≡ ended (end_line s.entries) → HasRead text true s after
end_read text s rest line after h next is = record {
  entries = h.entries;
  journal = h.journal;
  count = h.count;
  lines = h.lines ∙ ap (λ (ls : List (List ℕ)). entry_lines 0 h.entries ++ ls) (next ∙ ap (λ (l : List ℕ). l ∷ lines_in after) (is ∙ ap (λ (n : ℕ). ended (end_line n)) h.count));
}

-- ---- verdicts

-- all was read, and the last line came
pub is_legal : (text : List ℕ) (s : ProgramState) (rest : List ℕ) → HasRead text true s rest → lines_in rest ≡ [] → IsLegalText text s.entries
is_legal text s rest h none =
    let lines : lines_in text ≡ lines_behind 0 h.entries = h.lines ∙ ap (λ (ls : List (List ℕ)). entry_lines 0 h.entries ++ (ended (end_line (length h.entries)) ∷ ls)) none ∙ sym (behind_is 0 (length h.entries) h.entries (omega arith)) in
    (h.entries, s, h.journal, h.count, sym (joined text) ∙ ap (λ (ls : List (List ℕ)). flat_map (λ (l : List ℕ). l) ls) lines)

-- the lines that were read begin a legal journal's text
begins : (text : List ℕ) (s : ProgramState) (i : ℕ) (more : List (List ℕ)) (es : List ProgramEntry) → IsLegalJournal es s → i ≡ length es → lines_in text ≡ entry_lines 0 es ++ more → BeginsLegally text i
begins text s i more es journal is lines = (
  es,
  s,
  journal,
  ap (take i) lines ∙ take_behind 0 i 0 es more (omega arith) ∙ sym (ap (take i) (behind_is 0 (length es) es (omega arith)) ∙ take_behind 0 i 0 es (ended (end_line (length es)) ∷ []) (omega arith)),
)

-- so do they with the last line
begins_over : (text : List ℕ) (s : ProgramState) (i : ℕ) (more : List (List ℕ)) (es : List ProgramEntry) → IsLegalJournal es s → i ≡ length es + 1 → lines_in text ≡ entry_lines 0 es ++ (ended (end_line (length es)) ∷ more) → BeginsLegally text i
begins_over text s i more es journal is lines = (
  es,
  s,
  journal,
  ap (take i) lines ∙ take_behind 0 i 1 es (ended (end_line (length es)) ∷ more) is ∙ sym (ap (take i) (behind_is 0 (length es) es (omega arith)) ∙ take_behind 0 i 1 es (ended (end_line (length es)) ∷ []) is),
)

-- no journal's text goes on from the state by these lines
abbrev NoneGoes : ProgramState → ℕ → ℕ → List (List ℕ) → Type 0
NoneGoes s m k more = (u : ProgramState) → Rest s m k more u → ⊥

spoilt : (text : List ℕ) (s : ProgramState) (i k : ℕ) (more : List (List ℕ)) (es : List ProgramEntry) → IsLegalJournal es s → length es < 2 ^ 32 → i ≡ length es + k → 1 ≤ k → lines_in text ≡ entry_lines 0 es ++ more
    → NoneGoes s (length es) k more → BeginsLegally text i → ⊥
spoilt text s i k more es journal few is some lines none (fs, u, other, same) =
    none u (agreed i k 0 (length es) es fs (nothing largest) s u more is (omega arith) some few (record { live = tt; jobs = tt }) (from_journal es s journal) (from_journal fs u other) (ap (take i) (sym lines) ∙ same))

no_entry : (s : ProgramState) (m : ℕ) (line : List ℕ) (more : List (List ℕ)) → s.entries ≡ m → IsNoneNext s line → (line ≡ ended (end_line m) → ⊥) → (u : ProgramState) (gs : List ProgramEntry) → Goes s gs u → take 1 (line ∷ more) ≡ take 1 (lines_behind m gs) → ⊥
no_entry s m line more count none other u [] g same = let here : line ≡ ended (end_line m) = cc in other here
no_entry s m line more count none other u (e ∷ gs) g same =
    let first = goes_first s e gs u g in
    let here : line ≡ ended (entry_line (m + 1) e) = cc in
    none first.0 (record { entry = e; lawful = first.1; step = first.3; filed = first.2; text = here ∙ ap (λ (n : ℕ). ended (entry_line (n + 1) e)) (sym count) })

-- a line that is neither the next entry's nor the last spoils the text
pub line_spoils : (text : List ℕ) (s : ProgramState) (rest line after : List ℕ) (i : ℕ) → s.entries < 2 ^ 32 → i ≡ s.entries + 1 → HasRead text false s rest → lines_in rest ≡ line ∷ lines_in after
    → IsNoneNext s line → (line ≡ ended (end_line s.entries) → ⊥) → IsBad text i
line_spoils text s rest line after i few is h next none other =
    let lines : lines_in text ≡ entry_lines 0 h.entries ++ (line ∷ lines_in after) = h.lines ∙ ap (λ (ls : List (List ℕ)). entry_lines 0 h.entries ++ ls) next in
    let last : line ≡ ended (end_line (length h.entries)) → ⊥ = λ e. other (e ∙ ap (λ (n : ℕ). ended (end_line n)) (sym h.count)) in (
      begins text s (i - 1) (line ∷ lines_in after) h.entries h.journal (omega (arith, h.count)) lines,
      spoilt text s i 1 (line ∷ lines_in after) h.entries h.journal (omega (arith, h.count)) (omega (arith, h.count)) (omega arith) lines (λ u r. no_entry s (length h.entries) line (lines_in after) h.count none last u r.left r.goes r.agree),
    )

no_lines : (s : ProgramState) (m : ℕ) (u : ProgramState) (gs : List ProgramEntry) → take 1 [] ≡ take 1 (lines_behind m gs) → ⊥
no_lines s m u [] same = cc
no_lines s m u (e ∷ gs) same = cc

-- the last line is wanting
pub end_is_wanting : (text : List ℕ) (s : ProgramState) (rest : List ℕ) (i : ℕ) → s.entries < 2 ^ 32 → i ≡ s.entries + 1 → HasRead text false s rest → lines_in rest ≡ [] → IsBad text i
end_is_wanting text s rest i few is h none =
    let lines : lines_in text ≡ entry_lines 0 h.entries ++ [] = h.lines ∙ ap (λ (ls : List (List ℕ)). entry_lines 0 h.entries ++ ls) none in (
      begins text s (i - 1) [] h.entries h.journal (omega (arith, h.count)) lines,
      spoilt text s i 1 [] h.entries h.journal (omega (arith, h.count)) (omega (arith, h.count)) (omega arith) lines (λ u r. no_lines s (length h.entries) u r.left r.agree),
    )

no_more : (m : ℕ) (line : List ℕ) (more : List (List ℕ)) (gs : List ProgramEntry) → take 2 (ended (end_line m) ∷ line ∷ more) ≡ take 2 (lines_behind m gs) → ⊥
no_more m line more [] same = cc
no_more m line more (e ∷ gs) same = let here : ended (end_line m) ≡ ended (entry_line (m + 1) e) = cc in entry_is_no_end (m + 1) m e (sym here)

-- something stands behind the last line
pub more_spoils : (text : List ℕ) (s : ProgramState) (rest line after : List ℕ) (i : ℕ) → s.entries < 2 ^ 32 → i ≡ s.entries + 2 → HasRead text true s rest → lines_in rest ≡ line ∷ lines_in after → IsBad text i
more_spoils text s rest line after i few is h next =
    let lines : lines_in text ≡ entry_lines 0 h.entries ++ (ended (end_line (length h.entries)) ∷ line ∷ lines_in after) = h.lines ∙ ap (λ (ls : List (List ℕ)). entry_lines 0 h.entries ++ (ended (end_line (length h.entries)) ∷ ls)) next in (
      begins_over text s (i - 1) (line ∷ lines_in after) h.entries h.journal (omega (arith, h.count)) lines,
      spoilt text s i 2 (ended (end_line (length h.entries)) ∷ line ∷ lines_in after) h.entries h.journal (omega (arith, h.count)) (omega (arith, h.count)) (omega arith) lines (λ u r. no_more (length h.entries) line (lines_in after) r.left r.agree),
    )
