-- A run of a script, from what each client came to.
use Rattle.std.proofs.Common.{Global, Vec, ◌≡◌, ◌==◌, ◌+◌, ◌<◌, ◌≤◌, ◌∙◌, ℕ, Bool, false, arith, cond, length, List, suc, [], ◌∷◌, ◌++◌, inl, inr, Ok, Result, IfOk, map, refl, slice_index_or, sym, ap, subst, take}
use Rattle.std.specs.Prelude.{All}
use Rattle.std.proofs.lemmas.Bool.{cases_lt}
use Rattle.std.proofs.lemmas.Bool.Decides.{nat_tests}
use Rattle.std.proofs.lemmas.List.{get_or-map, length-map}
use Rattle.std.proofs.lemmas.List.Elements.{All-head, All-more, All-tail}
use Rattle.journal.specs.Journals.{IsLegal, own}
use Rattle.locked_map.specs.Closings.{BearsOut}
use Rattle.locked_map.specs.Seats.{pairs}
use Rattle.script.specs.declared.statement.CommandLine.{CommandLine}
use Rattle.script.specs.declared.reply.LineReply.{LineReply}
use Rattle.script_runs.specs.Events.{Event}
use Rattle.batch_cli.specs.Filing.{ProgramSeat}
use Rattle.questions.specs.Program.{program, ProgramState}
use Rattle.script_runs.specs.Runs.{AreMerged, AreRepliesTo, EachMakes, IsRunOf, LineAnswer, LinesMake, ProgramEntry, events_in, lines_by, replies_in, text_for}
use Rattle.questions.specs.Program.{largest}
use Rattle.locked_map.proofs.Seating.{listed_more, some_of}
use Rattle.script_runs.proofs.Assembled.{assembled, no_events_of}

-- the clients of one line more are below a greater number
pub known_more : (lines : List CommandLine) (i : ℕ) (count new : ℕ) (line : CommandLine) → i < length lines → line ≡ slice_index_or lines i line → line.client < new → count ≤ new → All (λ l. l.client < count) (take i lines) → All (λ l. l.client < new) (take (i + 1) lines)
known_more lines i count new line lt is below le all = All-more (λ l. l.client < new) lines i line lt (λ k d h. omega (arith, all k d h, le)) (subst (λ x. x.client < new) is below)

-- the clients have their places for numbers, and this to do
abbrev pub AreClients : {C A : Type 0} → (C → ℕ) → (C → A) → A → List C → Type 0
AreClients {C} number asked lines clients = (k : ℕ) (c : C) → k < length clients → (number (slice_index_or clients k c) ≡ k) × (asked (slice_index_or clients k c) ≡ lines)

pub no_clients : {C A : Type 0} (number : C → ℕ) (asked : C → A) (lines : A) (clients : List C) → clients ≡ [] → AreClients number asked lines clients
no_clients number asked lines clients none = rw none (λ k c l. absurd (omega arith))

pub one_client_more : {C A : Type 0} (number : C → ℕ) (asked : C → A) (lines : A) (clients new : List C) (c : C) → new ≡ clients ++ c ∷ [] → number c ≡ length clients → asked c ≡ lines → AreClients number asked lines clients → AreClients number asked lines new
one_client_more number asked lines clients new c is numbered asks h = rw is (listed_more (λ k x. (number x ≡ k) × (asked x ≡ lines)) clients c (numbered, asks) h)

-- what a client gives, said of its number and of all lines
told_of_lines : {E : Type 0} (n k : ℕ) (asked lines : List CommandLine) (events : List Event) (out : Result (Vec LineReply Global) E) → n ≡ k → asked ≡ lines
    → IfOk out (λ replies. LinesMake (lines_by n asked) events replies.items) → IfOk out (λ replies. LinesMake (lines_by k lines) events replies.items)
told_of_lines n k asked lines events out number same h =
    subst (λ x. IfOk out (λ replies. LinesMake (lines_by x lines) events replies.items)) number
    (subst (λ xs. IfOk out (λ replies. LinesMake (lines_by n xs) events replies.items)) same h)

-- what holds of the entries of a seat holds of those that the journal has of it
told_of_own : {E : Type 0} (k : ℕ) (seat : ProgramSeat) (journal : List ProgramEntry) (end : ProgramState) (lines : List CommandLine) (out : Result (Vec LineReply Global) E) → BearsOut k seat journal end
    → IfOk out (λ replies. LinesMake lines (events_in (pairs seat.list)) replies.items) → IfOk out (λ replies. LinesMake lines (events_in (own k 0 journal)) replies.items)
told_of_own k seat journal end lines out borne made = subst (λ (entries : List (ℕ × ProgramEntry)). IfOk out (λ replies. LinesMake lines (events_in entries) replies.items)) (sym borne.entries) made

-- where all clients ended well, each made the events of its lines, and has their replies
pub each_made : {C E : Type 0} (number : C → ℕ) (asked : C → List CommandLine) (lines : List CommandLine) (journal : List ProgramEntry) (end : ProgramState) (n : ℕ) (clients : List C) (all : List (Vec LineReply Global)) (outs : List (Result (Vec LineReply Global) E))
    → length clients ≡ n → length all ≡ n → map (λ replies. Ok replies) all ≡ outs
    → ((k : ℕ) (c : C) → k < n → (number (slice_index_or clients k c) ≡ k) × (asked (slice_index_or clients k c) ≡ lines))
    → ((k : ℕ) (c : C) (o : Result (Vec LineReply Global) E) → k < n → (seat : ProgramSeat) × IfOk (slice_index_or outs k o) (λ replies. LinesMake (lines_by (number (slice_index_or clients k c)) (asked (slice_index_or clients k c))) (events_in (pairs seat.list)) replies.items) × BearsOut k seat journal end)
    → (k : ℕ) → k < length (map (λ replies. replies.items) all) → LinesMake (lines_by k lines) (events_in (own k 0 journal)) (slice_index_or (map (λ replies. replies.items) all) k [])
each_made number asked lines journal end n clients all outs begun ended is each gives k below =
    let there : k < length all = subst (λ m. k < m) (length-map all (λ replies. replies.items)) below in
    let c = some_of clients k (omega (arith, there, begun, ended)) in
    let d = some_of all k there in
    let inside : k < n = omega (arith, there, ended) in
    let whose = each k c inside in
    let left = gives k c (Ok d) inside in
    let one : slice_index_or outs k (Ok d) ≡ Ok (slice_index_or all k d) = ap (λ xs. slice_index_or xs k (Ok d)) (sym is) ∙ get_or-map (λ replies. Ok replies) all k d (Ok d) there in
    let out = told_of_lines (number (slice_index_or clients k c)) k (asked (slice_index_or clients k c)) lines (events_in (own k 0 journal)) (slice_index_or outs k (Ok d)) whose.0 whose.1 (told_of_own k left.0 journal end (lines_by (number (slice_index_or clients k c)) (asked (slice_index_or clients k c))) (slice_index_or outs k (Ok d)) left.2 left.1) in
    subst (LinesMake (lines_by k lines) (events_in (own k 0 journal))) (sym (get_or-map (λ replies. replies.items) all k d [] there))
    (subst (λ r. IfOk r (λ replies. LinesMake (lines_by k lines) (events_in (own k 0 journal)) replies.items)) one out)

-- a seat past all seats of the journal has no entry
own_none : (n k from : ℕ) (es : List ProgramEntry) → All (λ e. e.seat < n) es → n ≤ k → own k from es ≡ []
own_none n k from [] all past = refl
own_none n k from (e ∷ es) all past =
    let below = All-head (λ x. x.seat < n) e es all in
    let other : (e.seat == k) ≡ false = grind (arith, nat_tests) in
    ap (λ (b : Bool). cond b ((from, e) ∷ own k (from + 1) es) (own k (from + 1) es)) other ∙ own_none n k (from + 1) es (All-tail (λ x. x.seat < n) e es all) past

-- as many answers as lines
each_answered : (lines : List CommandLine) (answers : List LineAnswer) → EachMakes lines answers → length (replies_in answers) ≡ length lines
each_answered [] [] made = refl
each_answered [] (a ∷ answers) made = absurd made
each_answered (l ∷ lines) [] made = absurd made
each_answered (l ∷ lines) (a ∷ answers) made = ap (λ (n : ℕ). suc n) (each_answered lines answers made.1)

module _ (lines : List CommandLine) (journal : List ProgramEntry) (clients : List (List LineReply)) (known : All (λ line. line.client < length clients) lines)
    (made : (k : ℕ) → k < length clients → LinesMake (lines_by k lines) (events_in (own k 0 journal)) (slice_index_or clients k [])) where
  -- each client has a reply for each of its lines
  pub replied : AreRepliesTo lines clients
  replied = record { known = known; counts = λ k below. let m = made k below in ap length m.replies_are ∙ each_answered (lines_by k lines) m.answers m.made }

  -- the merged replies and the journal are of one run
  pub run_of : (end : ProgramState) (text : List ℕ) → IsLegal program largest journal end → All (λ e. e.seat < length clients) journal → AreMerged lines clients text → IsRunOf lines journal text
  run_of end text legal seats m =
      let n = length clients in
      let per : ℕ → List Event = λ k. events_in (own k 0 journal) in
      let h = assembled lines m.replies n per m.count known (λ k below. subst (λ rs. LinesMake (lines_by k lines) (per k) rs) (sym (m.each k below)) (made k below)) in
      record {
        end = end;
        legal = legal;
        answers = h.answers;
        made = h.made;
        each = λ k.
            elim (cases_lt k n) [
              | inl below ↦ sym (h.each k below)
              | inr past ↦ ap events_in (own_none n k 0 journal seats past) ∙ sym (no_events_of lines h.answers n k known (λ below. omega arith))
            ];
        written = m.written ∙ ap (text_for lines) h.replies_are;
      }
