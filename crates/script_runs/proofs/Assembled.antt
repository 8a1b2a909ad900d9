-- The answers of all lines from those of each client.
use Rattle.std.proofs.Common.{◌≡◌, ◌==◌, ℕ, ◌<◌, Bool, true, false, cond, length, arith, List, [], ◌∷◌, ◌++◌, refl, sym, ap, subst, ◌∙◌}
use Rattle.std.specs.Prelude.{All}
use Rattle.std.proofs.lemmas.Bool.{cond-true, cond-false, eq-eqb, ne_eqb, eqb-true}
use Rattle.std.proofs.lemmas.List.Elements.{All-head, All-tail}
use Rattle.script.specs.declared.statement.CommandLine.{CommandLine}
use Rattle.script.specs.declared.reply.LineReply.{LineReply}
use Rattle.script_runs.specs.Events.{Event, Makes}
use Rattle.script_runs.specs.Runs.{LineAnswer, LinesMake, EachMakes, beside, lines_by, events_of, replies_in}

-- answers of all lines, of which those of each client's lines have its events
pub record Assembled (lines : List CommandLine) (replies : List LineReply) (n : ℕ) (per : ℕ → List Event) : Type 0 where
  pub answers : List LineAnswer
  pub made : EachMakes lines answers
  pub replies_are : replies ≡ replies_in answers
  pub each : (client : ℕ) → client < n → events_of (beside client lines answers) ≡ per client

-- the answer of the first line, and that the others make the events behind its own
record Parted (line : CommandLine) (lines : List CommandLine) (events : List Event) (reply : LineReply) (replies : List LineReply) : Type 0 where
  first : LineAnswer
  later : List Event
  made : Makes line.statement first.events first.reply
  reply_is : reply ≡ first.reply
  events_are : events ≡ first.events ++ later
  others : LinesMake lines later replies

-- lines of which there is one make the events of its answer and then those of the others
parted : (line : CommandLine) (lines : List CommandLine) (events : List Event) (reply : LineReply) (replies : List LineReply) (answers : List LineAnswer)
    → EachMakes (line ∷ lines) answers → events ≡ events_of answers → reply ∷ replies ≡ replies_in answers → Parted line lines events reply replies
parted line lines events reply replies [] made events_are replies_are = absurd made
parted line lines events reply replies (a ∷ answers) made events_are replies_are =
    let reply_is : reply ≡ a.reply = cc in
    let replies_is : replies ≡ replies_in answers = cc in
    record { first = a; later = events_of answers; made = made.0; reply_is = reply_is; events_are = events_are; others = record { answers = answers; made = made.1; events_are = refl; replies_are = replies_is } }

-- no line makes no event
no_events : (events : List Event) (answers : List LineAnswer) → EachMakes [] answers → events ≡ events_of answers → events ≡ []
no_events events [] made events_are = events_are
no_events events (a ∷ answers) made events_are = absurd made

-- what the client's lines make, where the test says whether the first is one of them
others_make : (b : Bool) (line : CommandLine) (lines : List CommandLine) (later events : List Event) (reply : LineReply) (replies : List LineReply) → (b ≡ true → LinesMake lines later replies)
    → LinesMake (cond b (line ∷ lines) lines) events (cond b (reply ∷ replies) replies) → LinesMake lines (cond b later events) replies
others_make true line lines later events reply replies own h = own refl
others_make false line lines later events reply replies own h = h

-- the events of the client's answers, where the test says whether the first is one of them
events_with : (b : Bool) (a : LineAnswer) (answers : List LineAnswer) (later events : List Event) → (b ≡ true → events ≡ a.events ++ later) → events_of answers ≡ cond b later events → events_of (cond b (a ∷ answers) answers) ≡ events
events_with true a answers later events own h = ap (λ es. a.events ++ es) h ∙ sym (own refl)
events_with false a answers later events own h = h

-- with the first line's answer before them, the answers of the others are those of all
assembled_before : (line : CommandLine) (lines : List CommandLine) (reply : LineReply) (replies : List LineReply) (n : ℕ) (per : ℕ → List Event) (p : Parted line (lines_by line.client lines) (per line.client) reply (beside line.client lines replies))
    → Assembled lines replies n (λ k. cond (line.client == k) p.later (per k)) → Assembled (line ∷ lines) (reply ∷ replies) n per
assembled_before line lines reply replies n per p h = record {
  answers = p.first ∷ h.answers;
  made = (p.made, h.made);
  replies_are = cc (p.reply_is, h.replies_are);
  each = λ k below. events_with (line.client == k) p.first (beside k lines h.answers) p.later (per k)
      (λ t. ap per (sym (eqb-true line.client k t)) ∙ p.events_are) (h.each k below);
}

-- where the lines of each client make its events and have its replies, there are answers of all lines
pub assembled : (lines : List CommandLine) (replies : List LineReply) (n : ℕ) (per : ℕ → List Event) → length replies ≡ length lines → All (λ line. line.client < n) lines
    → ((client : ℕ) → client < n → LinesMake (lines_by client lines) (per client) (beside client lines replies)) → Assembled lines replies n per
assembled [] [] n per count known h = record { answers = []; made = tt; replies_are = refl; each = λ k below. let m = h k below in sym (no_events (per k) m.answers m.made m.events_are) }
assembled [] (reply ∷ replies) n per count known h = absurd (omega arith)
assembled (line ∷ lines) [] n per count known h = absurd (omega arith)
assembled (line ∷ lines) (reply ∷ replies) n per count known h =
    let c = line.client in
    let inside : c < n = All-head (λ l. l.client < n) line lines known in
    let own : (c == c) ≡ true = eq-eqb c c refl in
    let m : LinesMake (line ∷ lines_by c lines) (per c) (reply ∷ beside c lines replies) =
    rw (cond-true (c == c) (line ∷ lines_by c lines) (lines_by c lines) own, cond-true (c == c) (reply ∷ beside c lines replies) (beside c lines replies) own) at (h c inside) in
    let p : Parted line (lines_by c lines) (per c) reply (beside c lines replies) = parted line (lines_by c lines) (per c) reply (beside c lines replies) m.answers m.made m.events_are m.replies_are in
    let others : (k : ℕ) → k < n → LinesMake (lines_by k lines) (cond (c == k) p.later (per k)) (beside k lines replies) = λ k below.
    others_make (c == k) line (lines_by k lines) p.later (per k) reply (beside k lines replies)
    (λ t. subst (λ x. LinesMake (lines_by x lines) p.later (beside x lines replies)) (eqb-true c k t) p.others) (h k below) in
    assembled_before line lines reply replies n per p (assembled lines replies n (λ k. cond (c == k) p.later (per k)) (omega arith) (All-tail (λ l. l.client < n) line lines known) others)

-- no line is that of a client past the last
pub beside_none : {A : Type 0} (lines : List CommandLine) (xs : List A) (n client : ℕ) → All (λ line. line.client < n) lines → (client < n → ⊥) → beside client lines xs ≡ []
beside_none [] xs n client known past = refl
beside_none (line ∷ lines) [] n client known past = refl
beside_none (line ∷ lines) (x ∷ xs) n client known past =
    let other : (line.client == client) ≡ false = ne_eqb line.client client (λ e. past (subst (λ k. k < n) e (All-head (λ l. l.client < n) line lines known))) in
    cond-false (line.client == client) (x ∷ beside client lines xs) (beside client lines xs) other ∙ beside_none lines xs n client (All-tail (λ l. l.client < n) line lines known) past

-- and none of the events is such a client's
pub no_events_of : (lines : List CommandLine) (answers : List LineAnswer) (n client : ℕ) → All (λ line. line.client < n) lines → (client < n → ⊥) → events_of (beside client lines answers) ≡ []
no_events_of lines answers n client known past = ap events_of (beside_none lines answers n client known past)
