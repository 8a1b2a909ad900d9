-- A script of one client: its journal has the events of its lines, in order.
use Rattle.std.proofs.Common.{◌≡◌, ◌≢◌, ◌==◌, ◌∙◌, ◌+◌, ℕ, suc, Bool, true, false, List, [], ◌∷◌, cond, refl, sym, ap, subst, arith}
use Rattle.std.proofs.lemmas.Bool.{eq-eqb, eqb-false}
use Rattle.std.proofs.lemmas.Bool.Decides.{nat_tests}
use Rattle.std.proofs.lemmas.Simd.{map-map}
use Rattle.std.specs.Prelude.{All, map}
use Rattle.handles.specs.Machine.{nothing, Run}
use Rattle.journal.specs.Journals.{own, requests_in, outcomes_in}
use Rattle.script.specs.declared.statement.CommandLine.{CommandLine}
use Rattle.script_runs.specs.Events.{Event, IsRun}
use Rattle.questions.specs.Program.{program, ProgramState}
use Rattle.script_runs.specs.Runs.{LineAnswer, EachMakes, events_of, beside, ProgramEntry, events_in, IsRunOf}
use Rattle.questions.specs.Program.{largest}

-- all lines are this client's
abbrev pub AreOf : ℕ → List CommandLine → Type 0
AreOf c lines = All (λ line. line.client ≡ c) lines

-- no entry is of another seat than this one
abbrev HasNoOther : ℕ → ℕ → List ProgramEntry → Type 0
HasNoOther c from es = (k : ℕ) → k ≢ c → events_in (own k from es) ≡ []

-- what an entry asked, and its response
abbrev pub event_in : ProgramEntry → Event
event_in e = (e.request, e.outcome)

-- where all lines are one client's, so are those behind the first
all_after : (c : ℕ) (l : CommandLine) (lines : List CommandLine) → AreOf c (l ∷ lines) → AreOf c lines
all_after c l lines all = λ k d h. all (suc k) d (omega arith)

-- a number that equals one is not found equal to another
differ : (n k c : ℕ) → n ≡ c → k ≢ c → (n == k) ≡ false
differ n k c is other = grind (arith, nat_tests)

-- where all lines are one client's, all that stands beside them stands beside its lines
beside_own : (c : ℕ) (lines : List CommandLine) (answers : List LineAnswer) → AreOf c lines → EachMakes lines answers → beside c lines answers ≡ answers
beside_own c [] [] all made = refl
beside_own c [] (a ∷ answers) all made = absurd made
beside_own c (l ∷ lines) [] all made = absurd made
beside_own c (l ∷ lines) (a ∷ answers) all made =
    let mine : (l.client == c) ≡ true = eq-eqb l.client c (all 0 l (omega arith)) in
    ap (λ (b : Bool). cond b (a ∷ beside c lines answers) (beside c lines answers)) mine
    ∙ ap (λ (rest : List LineAnswer). a ∷ rest) (beside_own c lines answers (all_after c l lines all) made.1)

-- and nothing stands beside those of another
beside_other : (c k : ℕ) (lines : List CommandLine) (answers : List LineAnswer) → k ≢ c → AreOf c lines → beside k lines answers ≡ []
beside_other c k [] answers other all = refl
beside_other c k (l ∷ lines) [] other all = refl
beside_other c k (l ∷ lines) (a ∷ answers) other all =
    ap (λ (b : Bool). cond b (a ∷ beside k lines answers) (beside k lines answers)) (differ l.client k c (all 0 l (omega arith)) other)
    ∙ beside_other c k lines answers other (all_after c l lines all)

-- an entry of the seat is the first of its entries
pub own_first : (k from : ℕ) (e : ProgramEntry) (es : List ProgramEntry) → (e.seat == k) ≡ true → events_in (own k from (e ∷ es)) ≡ event_in e ∷ events_in (own k (from + 1) es)
own_first k from e es is = ap (λ (b : Bool). events_in (cond b ((from, e) ∷ own k (from + 1) es) (own k (from + 1) es))) is

-- an entry of another seat is none of them
pub own_skips : (k from : ℕ) (e : ProgramEntry) (es : List ProgramEntry) → (e.seat == k) ≡ false → events_in (own k from (e ∷ es)) ≡ events_in (own k (from + 1) es)
own_skips k from e es is = ap (λ (b : Bool). events_in (cond b ((from, e) ∷ own k (from + 1) es) (own k (from + 1) es))) is

-- a seat that has no entry has none behind the first
pub none_later : (b : Bool) (k from : ℕ) (e : ProgramEntry) (es : List ProgramEntry) → (e.seat == k) ≡ b → events_in (own k from (e ∷ es)) ≡ [] → events_in (own k (from + 1) es) ≡ []
none_later true k from e es is none = let some : event_in e ∷ events_in (own k (from + 1) es) ≡ [] = sym (own_first k from e es is) ∙ none in cc
none_later false k from e es is none = sym (own_skips k from e es is) ∙ none

-- where no entry is of another seat, the first one is of this seat
first_is_own : (b : Bool) (c from : ℕ) (e : ProgramEntry) (es : List ProgramEntry) → (e.seat == c) ≡ b → HasNoOther c from (e ∷ es) → (e.seat == c) ≡ true
first_is_own true c from e es is alone = is
first_is_own false c from e es is alone =
    let some : event_in e ∷ events_in (own e.seat (from + 1) es) ≡ [] = sym (own_first e.seat from e es (eq-eqb e.seat e.seat refl)) ∙ alone e.seat (eqb-false e.seat c is) in cc

-- where no entry is of another seat, the seat has the events of all entries
all_own : (c from : ℕ) (es : List ProgramEntry) → HasNoOther c from es → events_in (own c from es) ≡ map event_in es
all_own c from [] alone = refl
all_own c from (e ∷ es) alone =
    own_first c from e es (first_is_own (e.seat == c) c from e es refl alone)
    ∙ ap (λ (rest : List Event). event_in e ∷ rest) (all_own c (from + 1) es (λ k other. none_later (e.seat == k) k from e es refl (alone k other)))

-- the events of a journal are a run where its requests and outcomes are
run_of_events : (s t : ProgramState) (es : List ProgramEntry) → Run program s (requests_in es) (outcomes_in es) t → IsRun s (map event_in es) t
run_of_events s t es run =
    let asked : map (λ (e : Event). e.0) (map event_in es) ≡ requests_in es = map-map (λ (e : Event). e.0) event_in es in
    let told : map (λ (e : Event). e.1) (map event_in es) ≡ outcomes_in es = map-map (λ (e : Event). e.1) event_in es in
    rw (asked, told) run

-- the events of the lines of one client are a run from nothing
pub one_client_run : (c : ℕ) (script : List CommandLine) (journal : List ProgramEntry) (text : List ℕ) (run : IsRunOf script journal text) → AreOf c script → IsRun (nothing largest) (events_of run.answers) run.end
one_client_run c script journal text run all =
    let alone : HasNoOther c 0 journal = λ k other. run.each k ∙ ap events_of (beside_other c k script run.answers other all) in
    let same : map event_in journal ≡ events_of run.answers = sym (all_own c 0 journal alone) ∙ run.each c ∙ ap events_of (beside_own c script run.answers all run.made) in
    subst (λ (es : List Event). IsRun (nothing largest) es run.end) same (run_of_events (nothing largest) run.end journal run.legal.run)
