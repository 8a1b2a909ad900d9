-- Lines, their events and their replies, one line more at a time.
use Rattle.std.proofs.Common.{◌≡◌, ◌≢◌, ◌+◌, ◌<◌, ◌≤◌, ◌==◌, arith, Bool, true, false, ℕ, ◌∙◌, List, [], ◌∷◌, ◌++◌, cond, length, refl, slice_index_or, subst, sym, take, ap}
use Rattle.std.proofs.lemmas.Bool.{eq-eqb}
use Rattle.std.proofs.lemmas.Bool.Decides.{nat_tests}
use Rattle.std.proofs.lemmas.List.{append-nil, append_assoc, take_all}
use Rattle.std.proofs.lemmas.List.Elements.{filter_more}
use Rattle.std.proofs.lemmas.Simd.{map-map}
use Rattle.locked_map.specs.Seats.{pair, pairs}
use Rattle.script.specs.declared.statement.CommandLine.{CommandLine}
use Rattle.script.specs.declared.reply.LineReply.{LineReply}
use Rattle.script_runs.specs.Events.{Event, Makes}
use Rattle.batch_cli.specs.Filing.{ProgramSeat, FilesAnswer, events_at}
use Rattle.script_runs.specs.Runs.{EachMakes, LineAnswer, LinesMake, events_in, events_of, is_line_of, lines_by, replies_in}

makes_more : (lines : List CommandLine) (answers : List LineAnswer) (line : CommandLine) (answer : LineAnswer) → EachMakes lines answers → Makes line.statement answer.events answer.reply → EachMakes (lines ++ line ∷ []) (answers ++ answer ∷ [])
makes_more [] [] line answer h m = (m, tt)
makes_more [] (a ∷ answers) line answer h m = absurd h
makes_more (l ∷ lines) [] line answer h m = absurd h
makes_more (l ∷ lines) (a ∷ answers) line answer h m = (h.0, makes_more lines answers line answer h.1 m)

events_more : (answers : List LineAnswer) (answer : LineAnswer) → events_of (answers ++ answer ∷ []) ≡ events_of answers ++ answer.events
events_more [] answer = simp append-nil
events_more (a ∷ answers) answer = ap (λ (rest : List Event). a.events ++ rest) (events_more answers answer) ∙ sym (append_assoc a.events (events_of answers) answer.events)

replies_more : (answers : List LineAnswer) (answer : LineAnswer) → replies_in (answers ++ answer ∷ []) ≡ replies_in answers ++ answer.reply ∷ []
replies_more [] answer = refl
replies_more (a ∷ answers) answer = ap (λ (rest : List LineReply). a.reply ∷ rest) (replies_more answers answer)

-- no line makes no event
pub none_make : LinesMake [] [] []
none_make = record { answers = []; made = tt; events_are = refl; replies_are = refl }

-- one line more
pub more_make : (lines : List CommandLine) (events later : List Event) (replies : List LineReply) (line : CommandLine) (reply : LineReply) → LinesMake lines events replies → Makes line.statement later reply → LinesMake (lines ++ line ∷ []) (events ++ later) (replies ++ reply ∷ [])
more_make lines events later replies line reply h m =
    let answer : LineAnswer = record { events = later; reply = reply } in
    record {
      answers = h.answers ++ answer ∷ [];
      made = makes_more lines h.answers line answer h.made m;
      events_are = ap (λ (front : List Event). front ++ later) h.events_are ∙ sym (events_more h.answers answer);
      replies_are = ap (λ (front : List LineReply). front ++ reply ∷ []) h.replies_are ∙ sym (replies_more h.answers answer);
    }

-- of one line more, the client has that line where it is its own
lines_more : (n : ℕ) (lines : List CommandLine) (i : ℕ) (line : CommandLine) (b : Bool) → i < length lines → line ≡ slice_index_or lines i line → (line.client == n) ≡ b → lines_by n (take (i + 1) lines) ≡ lines_by n (take i lines) ++ cond b (line ∷ []) []
lines_more n lines i line b lt is test =
    filter_more (is_line_of n) lines i line lt
    ∙ ap (λ (x : CommandLine). lines_by n (take i lines) ++ cond (is_line_of n x) (x ∷ []) []) (sym is)
    ∙ ap (λ (x : Bool). lines_by n (take i lines) ++ cond x (line ∷ []) []) test

-- the client makes the events of one line more
pub line_made : (n : ℕ) (lines : List CommandLine) (i : ℕ) (line : CommandLine) (s t : ProgramSeat) (replies new : List LineReply) (reply : LineReply) → i < length lines → line ≡ slice_index_or lines i line → line.client ≡ n
    → LinesMake (lines_by n (take i lines)) (events_at s) replies → FilesAnswer s line.statement reply t → new ≡ replies ++ reply ∷ [] → LinesMake (lines_by n (take (i + 1) lines)) (events_at t) new
line_made n lines i line s t replies new reply lt is mine h (events, makes, files) more =
    let taken = lines_more n lines i line true lt is (eq-eqb line.client n mine) in
    rw (taken, files, more) (more_make (lines_by n (take i lines)) (events_at s) events replies line reply h makes)

-- another client's line leaves all as it was
pub line_passed : (n : ℕ) (lines : List CommandLine) (i : ℕ) (line : CommandLine) (s : ProgramSeat) (replies : List LineReply) → i < length lines → line ≡ slice_index_or lines i line → line.client ≢ n
    → LinesMake (lines_by n (take i lines)) (events_at s) replies → LinesMake (lines_by n (take (i + 1) lines)) (events_at s) replies
line_passed n lines i line s replies lt is other h =
    let test : (line.client == n) ≡ false = grind (arith, nat_tests) in
    rw (lines_more n lines i line false lt is test ∙ append-nil (lines_by n (take i lines))) h

-- the events that a seat has filed, by its entries with their places
seat_events : (s : ProgramSeat) → events_in (pairs s.list) ≡ events_at s
seat_events s = map-map _ pair s.list

-- the client made the events of all its lines
pub all_made : (n : ℕ) (lines : List CommandLine) (i : ℕ) (s : ProgramSeat) (replies : List LineReply) → length lines ≤ i → LinesMake (lines_by n (take i lines)) (events_at s) replies → LinesMake (lines_by n lines) (events_in (pairs s.list)) replies
all_made n lines i s replies le h = rw (seat_events s) (subst (λ xs. LinesMake (lines_by n xs) (events_at s) replies) (take_all i lines le) h)
