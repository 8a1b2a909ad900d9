-- A line, and the next entry.
use Rattle.std.proofs.Common.{◌≡◌, ◌≢◌, Bool, true, false, ℕ, ◌+◌, ◌≤◌, ◌<◌, ◌^◌, ◌∙◌, List, Result, Ok, Err, IfOk, sym, ap, subst, arith}
use Rattle.std.specs.Prelude.{IsUtf8, MatchBool, MatchOption, Option, Some, None}
use Rattle.handles.specs.Machine.{Step}
use Rattle.script.specs.declared.limits.TheConstants.{MOST_CLIENTS}
use Rattle.questions.specs.Program.{program, ProgramState, ProgramRequest}
use Rattle.journal_lines.specs.Lines.{ended, line_of}
use Rattle.journal_lines.proofs.LineLemmas.{same_members}
use Rattle.journal_text.specs.Calls.{IsLawfulRequest, call_text, outcome_text}
use Rattle.journal_text.specs.Entries.{entry_line}
use Rattle.journal_text.proofs.CallLemmas.{same_request}
use Rattle.audit.specs.Answers.{Answers, IsNext, IsNoneNext, NoneAnswers}
use Rattle.audit.proofs.Diverging.{same_ended}

-- what is said of what was found, and of nothing found
pub some_said : {A : Type 0} (P : Type 0) (Q : A → Type 0) (found : Option A) (x : A) → found ≡ Some x → MatchOption found P Q → Q x
some_said P Q None x is h = cc
some_said P Q (Some y) x is h = let same : y ≡ x = cc in subst Q same h

pub none_said : {A : Type 0} (P : Type 0) (Q : A → Type 0) (found : Option A) → found ≡ None → MatchOption found P Q → P
none_said P Q None is h = h
none_said P Q (Some y) is h = cc

-- a line that lacks its newline
pub no_newline : (s : ProgramState) (line : List ℕ) → ((bytes : List ℕ) → line ≡ ended bytes → ⊥) → IsNoneNext s line
no_newline s line none t next = none (entry_line (s.entries + 1) next.entry) next.text

same_line : (s t : ProgramState) (line bytes : List ℕ) (m : ℕ) → line ≡ ended bytes → m ≡ s.entries + 1 → (next : IsNext s line t) → bytes ≡ entry_line m next.entry
same_line s t line bytes m l is next = same_ended bytes (entry_line (s.entries + 1) next.entry) (sym l ∙ next.text) ∙ ap (λ (k : ℕ). entry_line k next.entry) (sym is)

-- one that is no entry's
pub no_line : (s : ProgramState) (line bytes : List ℕ) (m : ℕ) → line ≡ ended bytes → m ≡ s.entries + 1 → ((call reply : List ℕ) (seat : ℕ) → IsUtf8 call → IsUtf8 reply → seat < 2 ^ 64 → bytes ≢ line_of m call reply seat) → IsNoneNext s line
no_line s line bytes m l is none t next =
    none (call_text next.entry.request) (outcome_text next.entry.outcome) next.entry.seat next.lawful.call_is_text next.lawful.reply_is_text (omega (arith, next.lawful.seat)) (same_line s t line bytes m l is next)

-- what the line of the next entry says
members : (s t : ProgramState) (line bytes call reply : List ℕ) (m seat : ℕ) → line ≡ ended bytes → m ≡ s.entries + 1 → m < 2 ^ 64 → seat < 2 ^ 64 → bytes ≡ line_of m call reply seat → (next : IsNext s line t)
    → (m ≡ m) × (call ≡ call_text next.entry.request) × (reply ≡ outcome_text next.entry.outcome) × (seat ≡ next.entry.seat)
members s t line bytes call reply m seat l is few fits b next =
    same_members m m call reply (call_text next.entry.request) (outcome_text next.entry.outcome) seat next.entry.seat few few fits (omega (arith, next.lawful.seat)) (sym b ∙ same_line s t line bytes m l is next)

-- an entry of no seat
pub no_seat : (s : ProgramState) (line bytes call reply : List ℕ) (m seat : ℕ) → line ≡ ended bytes → m ≡ s.entries + 1 → m < 2 ^ 64 → seat < 2 ^ 64 → bytes ≡ line_of m call reply seat → MOST_CLIENTS ≤ seat → IsNoneNext s line
no_seat s line bytes call reply m seat l is few fits b far t next =
    let p = members s t line bytes call reply m seat l is few fits b next in
    omega (arith, p.3, next.lawful.seat)

-- one that asks nothing
pub no_call : (s : ProgramState) (line bytes call reply : List ℕ) (m seat : ℕ) → line ≡ ended bytes → m ≡ s.entries + 1 → m < 2 ^ 64 → seat < 2 ^ 64 → bytes ≡ line_of m call reply seat → ((r : ProgramRequest) → IsLawfulRequest r → call ≡ call_text r → ⊥) → IsNoneNext s line
no_call s line bytes call reply m seat l is few fits b none t next =
    let p = members s t line bytes call reply m seat l is few fits b next in
    none next.entry.request next.lawful.request p.1

-- one whose request is judged
pub next_judged : (s t : ProgramState) (line bytes call reply : List ℕ) (m seat : ℕ) (r : ProgramRequest) (yes : Bool) → line ≡ ended bytes → m ≡ s.entries + 1 → m < 2 ^ 64 → seat < 64 → bytes ≡ line_of m call reply seat
    → IsUtf8 call → IsUtf8 reply → IsLawfulRequest r → call ≡ call_text r → MatchBool yes (Answers s r reply t) (NoneAnswers s r reply) → MatchBool yes (IsNext s line t) (IsNoneNext s line)
next_judged s t line bytes call reply m seat r true l is few near b u v lawful asks a = record {
  entry = record { seat = seat; request = r; outcome = a.outcome };
  lawful = record { seat = near; request = lawful; call_is_text = subst IsUtf8 asks u; reply_is_text = subst IsUtf8 a.text v };
  step = a.step;
  filed = a.filed;
  text = l ∙ ap ended (b ∙ (λ i. line_of (is i) (asks i) (a.text i) seat));
}
next_judged s t line bytes call reply m seat r false l is few near b u v lawful asks never = λ w next.
    let p = members s w line bytes call reply m seat l is few (omega arith) b next in
    let same : next.entry.request ≡ r = same_request next.entry.request r next.lawful.request lawful (sym p.1 ∙ asks) in
    never w (record { outcome = next.entry.outcome; step = subst (λ (x : ProgramRequest). Step program s x next.entry.outcome w) same next.step; filed = next.filed; text = p.2 })

-- the same of what is read, if memory was there
pub next_read : {E : Type 0} (s t : ProgramState) (line bytes call reply : List ℕ) (m seat : ℕ) (r : ProgramRequest) (read : Result Bool E) → line ≡ ended bytes → m ≡ s.entries + 1 → m < 2 ^ 64 → seat < 64 → bytes ≡ line_of m call reply seat
    → IsUtf8 call → IsUtf8 reply → IsLawfulRequest r → call ≡ call_text r → IfOk read (λ yes. MatchBool yes (Answers s r reply t) (NoneAnswers s r reply)) → IfOk read (λ yes. MatchBool yes (IsNext s line t) (IsNoneNext s line))
next_read s t line bytes call reply m seat r (Ok answer) l is few near b u v lawful asks h = next_judged s t line bytes call reply m seat r answer l is few near b u v lawful asks h
next_read s t line bytes call reply m seat r (Err e) l is few near b u v lawful asks h = h
