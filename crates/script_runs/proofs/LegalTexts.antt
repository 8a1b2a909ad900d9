-- The journal of a run is of seats and of requests that may be made.
use Rattle.std.proofs.Common.{◌≡◌, ◌==◌, ◌∙◌, ◌+◌, ◌<◌, ◌≤◌, ℕ, Bool, true, false, cond, arith, List, [], ◌∷◌, ◌++◌, None, inl, inr, refl, sym, subst}
use Rattle.std.specs.Prelude.{All}
use Rattle.std.proofs.lemmas.Bool.{cases_lt, eq-eqb}
use Rattle.std.proofs.lemmas.List.Elements.{All-head, All-tail}
use Rattle.versions.specs.Commands as commands
use Rattle.handles.specs.Machine.{replied}
use Rattle.journal.specs.Journals.{own}
use Rattle.script.specs.Statements.{IsLawful, IsLawfulLine}
use Rattle.script.specs.declared.statement.Statement.{Statement}
use Rattle.script.specs.declared.statement.Statement.TheVariants.{GetOrElse}
use Rattle.script.specs.declared.statement.CommandLine.{CommandLine}
use Rattle.script.specs.declared.reply.LineReply.{LineReply}
use Rattle.audit.specs.Runs.{MayBeAsked, MayBeMade, StatementsMayBeAsked}
use Rattle.script_runs.specs.Events.{Event, Ends, Makes}
use Rattle.script_runs.specs.Runs.{EachMakes, IsRunOf, LineAnswer, ProgramEntry, beside, events_in, events_of}
use Rattle.script_runs.proofs.Assembled.{no_events_of}
use Rattle.script_runs.proofs.Ends.{missing_or_done}
use Rattle.script_runs.proofs.OneClient.{event_in, none_later, own_first, own_skips}

-- each of the events asked what may be asked
abbrev AskLawfully : List Event → Type 0
AskLawfully [] = Unit {0}
AskLawfully (e ∷ es) = MayBeAsked e.0 × AskLawfully es

both_ask : (es fs : List Event) → AskLawfully es → AskLawfully fs → AskLawfully (es ++ fs)
both_ask [] fs one other = other
both_ask (e ∷ es) fs one other = (one.0, both_ask es fs one.1 other)

-- so do those of a lawful statement
statement_asks : StatementsMayBeAsked → (s : Statement) (events : List Event) (reply : LineReply) → IsLawful s → Makes s events reply → AskLawfully events
statement_asks may s events reply lawful (outcome, later, are, ends) =
    subst AskLawfully (sym are) (
      may s lawful,
      elim (missing_or_done s outcome) [
        | inr (inr (from, to)) ↦ subst AskLawfully (sym (from later reply ends).0) tt
        | inr (inl job) ↦ subst AskLawfully (sym (job.from later reply ends).1) (tt, tt)
        | inl missing ↦
            let here : Ends (GetOrElse missing.handle missing.key missing.value) (replied (commands.old None)) later reply = rw (missing.statement_is, missing.nothing) at ends in
            let parts : IsLawful (GetOrElse missing.handle missing.key missing.value) = subst IsLawful missing.statement_is lawful in
            subst AskLawfully (sym here.1) (parts, tt)
      ],
    )

-- those of an answer, where it is the client's, and of others
answers_ask : (mine : Bool) (a : LineAnswer) (answers : List LineAnswer) → AskLawfully a.events → AskLawfully (events_of answers) → AskLawfully (events_of (cond mine (a ∷ answers) answers))
answers_ask true a answers one others = both_ask a.events (events_of answers) one others
answers_ask false a answers one others = others

-- and those of a client's lines
client_asks : StatementsMayBeAsked → (client : ℕ) (lines : List CommandLine) (answers : List LineAnswer) → All IsLawfulLine lines → EachMakes lines answers → AskLawfully (events_of (beside client lines answers))
client_asks may client [] answers lawful made = tt
client_asks may client (line ∷ lines) [] lawful made = absurd made
client_asks may client (line ∷ lines) (a ∷ answers) lawful made =
    answers_ask (line.client == client) a (beside client lines answers)
    (statement_asks may line.statement a.events a.reply (All-head IsLawfulLine line lines lawful).1 made.0)
    (client_asks may client lines answers (All-tail IsLawfulLine line lines lawful) made.1)

-- behind the first entry, where the test says whether it is the seat's
later_ask : (mine : Bool) (k from : ℕ) (e : ProgramEntry) (es : List ProgramEntry) → (e.seat == k) ≡ mine → AskLawfully (events_in (own k from (e ∷ es))) → AskLawfully (events_in (own k (from + 1) es))
later_ask true k from e es is asks = (subst AskLawfully (own_first k from e es is) asks).1
later_ask false k from e es is asks = subst AskLawfully (own_skips k from e es is) asks

-- a seat that has an entry is below the number from which on no seat has one
seat_below : (n from : ℕ) (e : ProgramEntry) (es : List ProgramEntry) → ((k : ℕ) → n ≤ k → events_in (own k from (e ∷ es)) ≡ []) → e.seat < n
seat_below n from e es none =
    elim (cases_lt e.seat n) [
      | inl below ↦ below
      | inr past ↦ (let some : event_in e ∷ events_in (own e.seat (from + 1) es) ≡ [] = sym (own_first e.seat from e es (eq-eqb e.seat e.seat refl)) ∙ none e.seat past in cc)
    ]

-- entries of which those of each seat ask what may be asked, and of which none is of a seat past the last
entries_may : (from : ℕ) (es : List ProgramEntry) → ((k : ℕ) → AskLawfully (events_in (own k from es))) → ((k : ℕ) → 64 ≤ k → events_in (own k from es) ≡ []) → MayBeMade es
entries_may from [] asks none = tt
entries_may from (e ∷ es) asks none = (
  seat_below 64 from e es none,
  (subst AskLawfully (own_first e.seat from e es (eq-eqb e.seat e.seat refl)) (asks e.seat)).0,
  entries_may (from + 1) es (λ k. later_ask (e.seat == k) k from e es refl (asks k)) (λ k past. none_later (e.seat == k) k from e es refl (none k past)),
)

-- the entries of a run of lawful lines
pub run_may : StatementsMayBeAsked → (script : List CommandLine) (journal : List ProgramEntry) (text : List ℕ) → All IsLawfulLine script → IsRunOf script journal text → MayBeMade journal
run_may may script journal text lawful run =
    let known : All (λ line. line.client < 64) script = λ i d below. (lawful i d below).0 in
    entries_may 0 journal
    (λ k. subst AskLawfully (sym (run.each k)) (client_asks may k script run.answers lawful run.made))
    (λ k past. run.each k ∙ no_events_of script run.answers 64 k known (λ below. omega (arith, below, past)))
