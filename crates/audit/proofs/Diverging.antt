-- Journals whose lines agree lead to one state.
use Prim.Native.Nat.{zero, suc}
use Rattle.std.proofs.Common.{◌≡◌, true, ℕ, ◌+◌, ◌<◌, ◌≤◌, ◌^◌, List, [], ◌∷◌, ◌++◌, length, take, refl, sym, subst, arith}
use Rattle.handles.specs.Machine.{Step}
use Rattle.journal.specs.Journals.{is_filed}
use Rattle.questions.specs.Program.{program, ProgramState, ProgramRequest}
use Rattle.journal_text.specs.Calls.{call_text, outcome_text}
use Rattle.journal_lines.specs.Lines.{ended, end_line}
use Rattle.journal_text.specs.Entries.{ProgramEntry, IsLawfulEntry, entry_line, entry_lines, lines_behind}
use Rattle.journal_lines.proofs.LineLemmas.{same_members, no_end}
use Rattle.journal_text.proofs.CallLemmas.{same_request}
use Rattle.audit.proofs.KeyLemmas.{HasPlainMaps, step_keys}
use Rattle.audit.proofs.OneText.{may_be_asked, one_state}
use Rattle.audit.proofs.Runs.{Goes, goes_first}

-- lines that are one with their newlines are one
pub same_ended : (xs ys : List ℕ) → ended xs ≡ ended ys → xs ≡ ys
same_ended [] [] e = refl
same_ended [] (y ∷ []) e = cc
same_ended [] (y ∷ z ∷ ys) e = cc
same_ended (x ∷ []) [] e = cc
same_ended (x ∷ z ∷ xs) [] e = cc
same_ended (x ∷ xs) (y ∷ ys) e =
    let head : x ≡ y = cc in
    let rest : ended xs ≡ ended ys = cc in
    let tail : xs ≡ ys = same_ended xs ys rest in
    cc

-- the line of a lawful entry is no last line
pub entry_is_no_end : (n count : ℕ) (e : ProgramEntry) → ended (entry_line n e) ≡ ended (end_line count) → ⊥
entry_is_no_end n count e is = no_end n (call_text e.request) (outcome_text e.outcome) e.seat count (same_ended (entry_line n e) (end_line count) is)

-- entries of one line, made in one state, leave one state
pub one_line_one_state : (n : ℕ) (e f : ProgramEntry) (s t u : ProgramState) → HasPlainMaps s → n < 2 ^ 64 → IsLawfulEntry e → IsLawfulEntry f → is_filed e.outcome ≡ true → is_filed f.outcome ≡ true
    → Step program s e.request e.outcome t → Step program s f.request f.outcome u → ended (entry_line n e) ≡ ended (entry_line n f) → t ≡ u
one_line_one_state n e f s t u plains fits le lf filed too step trod same =
    let seat : e.seat < 2 ^ 64 = omega (arith, le.seat) in
    let seats : f.seat < 2 ^ 64 = omega (arith, lf.seat) in
    let members = same_members n n (call_text e.request) (outcome_text e.outcome) (call_text f.request) (outcome_text f.outcome) e.seat f.seat fits fits seat seats (same_ended (entry_line n e) (entry_line n f) same) in
    let request : e.request ≡ f.request = same_request e.request f.request le.request lf.request members.1 in
    let trod_too : Step program s e.request f.outcome u = subst (λ (r : ProgramRequest). Step program s r f.outcome u) (sym request) trod in
    one_state e.request s t u e.outcome f.outcome plains le.request members.2 filed too step trod_too

-- what is left of other entries, whose lines agree as far as all of these and some lines behind them
pub record Rest (t : ProgramState) (m k : ℕ) (more : List (List ℕ)) (u : ProgramState) : Type 0 where
  pub left : List ProgramEntry
  pub goes : Goes t left u
  pub agree : take k more ≡ take k (lines_behind m left)

-- entries whose lines agree with these and some lines behind them begin with steps to the same state
pub agreed : (i k n m : ℕ) (es fs : List ProgramEntry) (s t u : ProgramState) (more : List (List ℕ)) → i ≡ length es + k → m ≡ n + length es → 1 ≤ k → m < 2 ^ 32
    → HasPlainMaps s → Goes s es t → Goes s fs u → take i (entry_lines n es ++ more) ≡ take i (lines_behind n fs) → Rest t m k more u
agreed i k n m [] fs s t u more is at some fits plains g h same =
    let count : i ≡ k = omega arith in
    let place : m ≡ n = omega arith in
    record {
      left = fs;
      goes = subst (λ (x : ProgramState). Goes x fs u) g.run h;
      agree = rw (place, ← count) same;
    }
agreed zero k n m (e ∷ es) fs s t u more is at some fits plains g h same = absurd (omega arith)
agreed (suc i) k n m (e ∷ es) [] s t u more is at some fits plains g h same =
    let head : ended (entry_line (n + 1) e) ≡ ended (end_line n) = cc in
    absurd (entry_is_no_end (n + 1) n e head)
agreed (suc i) k n m (e ∷ es) (f ∷ fs) s t u more is at some fits plains g h same =
    let head : ended (entry_line (n + 1) e) ≡ ended (entry_line (n + 1) f) = cc in
    let rest : take i (entry_lines (n + 1) es ++ more) ≡ take i (lines_behind (n + 1) fs) = cc in
    let first = goes_first s e es t g in
    let other = goes_first s f fs u h in
    let one : first.0 ≡ other.0 = one_line_one_state (n + 1) e f s first.0 other.0 plains (omega arith) first.1 other.1 first.2 other.2 first.3 other.3 head in
    let kept = step_keys s e.request e.outcome first.0 (may_be_asked e.request first.1.request) first.2 plains first.3 in
    agreed i k (n + 1) m es fs first.0 t u more (omega arith) (omega arith) some fits kept.0 first.4 (subst (λ (x : ProgramState). Goes x fs u) (sym one) other.4) rest
