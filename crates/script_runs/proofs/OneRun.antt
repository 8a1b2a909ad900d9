-- A statement has one answer in a state, and a script one output.
use Rattle.std.proofs.Common.{◌≡◌, ◌≢◌, Bool, true, false, ℕ, ◌∙◌, List, [], ◌∷◌, ◌++◌, Some, None, inl, inr, refl, sym, ap, subst}
use Rattle.std.specs.Prelude.{ℤ}
use Rattle.versions.specs.Map.{Map}
use Rattle.versions.specs.Commands as commands
use Rattle.handles.specs.Laws.{FreezesOpenJobs}
use Rattle.handles.specs.Machine.{Step, Job, job_at, open_handle, on, freeze, finish, replied, frozen, unfinished}
use Rattle.script.specs.Replies.{line_text}
use Rattle.questions.specs.Queries.{ScriptQuestion}
use Rattle.questions.specs.Program.{asks_choice, program, ProgramState, ProgramRequest, ProgramOutcome, request_for, reply_to}
use Rattle.questions.specs.Laws.{is_settled_at_once, FinishesTellOne, HaveOneOutcome}
use Rattle.script_runs.specs.Events.{Event, reply_with, Ends, Makes, IsRun}
use Rattle.script_runs.specs.Runs.{LeavesNoChoice, LineAnswer, EachMakes, events_of, leaves_choice, replies_in, text_for}
use Rattle.script.specs.declared.statement.Statement.{Statement}
use Rattle.script.specs.declared.statement.Statement.TheVariants.{Open, Find, MapPairs, GetOrElse}
use Rattle.script.specs.declared.statement.CommandLine.{CommandLine}
use Rattle.script.specs.declared.reply.LineReply.{LineReply}
use Rattle.script_runs.proofs.Ends.{missing_or_done}

-- an open job of a script
abbrev ScriptJob : Type 0
ScriptJob = Job (List ℕ) ℤ ScriptQuestion

-- what is shown by a reply is a finish that is made
is_made : (o : ProgramOutcome) (reply : LineReply) → reply_to o ≡ Some reply → o ≢ unfinished
is_made o reply shown is = let nothing_shown : Some reply ≡ None = sym shown ∙ ap reply_to is in cc

asks_once : (c : Statement) → is_settled_at_once (request_for c) ≡ true
asks_once (Open h) = refl
asks_once c = refl

-- whether the request opens a job that may have several answers
abbrev freezes_for_choice : ProgramRequest → Bool
freezes_for_choice (freeze h q) = asks_choice q
freezes_for_choice r = false

no_choice : (c : Statement) → leaves_choice c ≡ false → freezes_for_choice (request_for c) ≡ false
no_choice (Find h test) never = never
no_choice (MapPairs h mapping to) never = never
no_choice (Open h) never = refl
no_choice c never = refl

-- the job that is open then, which has one answer
abbrev HasJob : ProgramState → ℕ → Type 0
HasJob t j = (job : ScriptJob) × (job_at t j ≡ Some job) × (asks_choice job.query ≡ false)

opened_job : FreezesOpenJobs program → (r : ProgramRequest) (s t : ProgramState) (j : ℕ) (m : Map (List ℕ) ℤ) → freezes_for_choice r ≡ false → Step program s r (frozen j m) t → HasJob t j
opened_job law (freeze h q) s t j m never step = (record { query = q; frozen = m }, law s t h q j m step, never)
opened_job law (open_handle h) s t j m never step = absurd step.1
opened_job law r s t j m never step = absurd step.1

-- what a statement does after its first event is one
one_end : HaveOneOutcome → FinishesTellOne → (c : Statement) (o : ProgramOutcome) (s t u : ProgramState) (events others : List Event) (a b : LineReply)
    → ((j : ℕ) (m : Map (List ℕ) ℤ) → o ≡ frozen j m → HasJob s j) → Ends c o events a → Ends c o others b → IsRun s events t → IsRun s others u → (a ≡ b) × (t ≡ u)
one_end once told c o s t u events others a b opened ends too run ran =
    elim (missing_or_done c o) [
      | inr (inr (from, to)) ↦
          let here = from events a ends in
          let there = from others b too in
          let shown : Some a ≡ Some b = sym here.1 ∙ there.1 in
          let stays : s ≡ t = rw here.0 at run in
          let same : s ≡ u = rw there.0 at ran in
          (cc, sym stays ∙ same)
      | inr (inl job) ↦
          let is_open = opened job.job job.shown job.opened in
          let here = job.from events a ends in
          let there = job.from others b too in
          let step : IsRun s ((finish job.job, here.0) ∷ []) t = rw here.1 at run in
          let trod : IsRun s ((finish job.job, there.0) ∷ []) u = rw there.1 at ran in
          let same = told job.job is_open.0 s step.0 trod.0 here.0 there.0 is_open.1 is_open.2 (is_made here.0 a here.2) (is_made there.0 b there.2) step.1 trod.1 in
          let shown : Some a ≡ Some b = sym here.2 ∙ ap reply_to same.0 ∙ there.2 in
          (cc, sym step.2 ∙ same.1 ∙ trod.2)
      | inl missing ↦
          let here : Ends (GetOrElse missing.handle missing.key missing.value) (replied (commands.old None)) events a = rw (missing.statement_is, missing.nothing) at ends in
          let there : Ends (GetOrElse missing.handle missing.key missing.value) (replied (commands.old None)) others b = rw (missing.statement_is, missing.nothing) at too in
          let request = on missing.handle (commands.put_if_absent missing.key missing.value) in
          let step : IsRun s ((request, here.0) ∷ []) t = rw here.1 at run in
          let trod : IsRun s ((request, there.0) ∷ []) u = rw there.1 at ran in
          let same = once request s step.0 trod.0 here.0 there.0 refl step.1 trod.1 in
          let shown : Some a ≡ Some b = sym here.2 ∙ ap (reply_with missing.value) same.0 ∙ there.2 in
          (cc, sym step.2 ∙ same.1 ∙ trod.2)
    ]

-- the machine may answer the statement so, and is in the second state then
abbrev MayAnswer : ProgramState → Statement → LineReply → ProgramState → Type 0
MayAnswer s statement reply t = (events : List Event) × Makes statement events reply × IsRun s events t

-- a statement has one answer in a state, and leaves one state
one_answer : FreezesOpenJobs program → HaveOneOutcome → FinishesTellOne → (c : Statement) (s t u : ProgramState) (a b : LineReply) → leaves_choice c ≡ false → MayAnswer s c a t → MayAnswer s c b u → (a ≡ b) × (t ≡ u)
one_answer law once told c s t u a b never (events, (o, later, are, ends), run) (others, (p, further, were, too), ran) =
    let step : IsRun s ((request_for c, o) ∷ later) t = rw are at run in
    let trod : IsRun s ((request_for c, p) ∷ further) u = rw were at ran in
    let same = once (request_for c) s step.0 trod.0 o p (asks_once c) step.1 trod.1 in
    let ends_alike : Ends c o further b = (let P : ProgramOutcome → Type 0 = λ x. Ends c x further b in subst P (sym same.0) too) in
    let run_alike : IsRun step.0 further u = (let P : ProgramState → Type 0 = λ x. IsRun x further u in subst P (sym same.1) trod.2) in
    let opened : (j : ℕ) (m : Map (List ℕ) ℤ) → o ≡ frozen j m → HasJob step.0 j =
    λ j m is. opened_job law (request_for c) s step.0 j m (no_choice c never) (let P : ProgramOutcome → Type 0 = λ x. Step program s (request_for c) x step.0 in subst P is step.1) in
    one_end once told c o step.0 t u later further a b opened ends ends_alike step.2 run_alike

-- a run of events and further ones goes by a state between
run_split : (s t : ProgramState) (es fs : List Event) → IsRun s (es ++ fs) t → (m : ProgramState) × IsRun s es m × IsRun m fs t
run_split s t [] fs run = (s, refl, run)
run_split s t (e ∷ es) fs run = let more = run_split run.0 t es fs run.2 in (more.0, (run.0, run.1, more.1), more.2)

-- runs from one state print one text
pub one_text : FreezesOpenJobs program → HaveOneOutcome → FinishesTellOne → (lines : List CommandLine) (xs ys : List LineAnswer) (s t u : ProgramState) → LeavesNoChoice lines → EachMakes lines xs → EachMakes lines ys → IsRun s (events_of xs) t → IsRun s (events_of ys) u → text_for lines (replies_in xs) ≡ text_for lines (replies_in ys)
one_text law once told [] xs ys s t u never ma mb run ran = refl
one_text law once told (line ∷ lines) [] ys s t u never ma mb run ran = absurd ma
one_text law once told (line ∷ lines) (a ∷ xs) [] s t u never ma mb run ran = absurd mb
one_text law once told (line ∷ lines) (a ∷ xs) (b ∷ ys) s t u never ma mb run ran =
    let here = run_split s t a.events (events_of xs) run in
    let there = run_split s u b.events (events_of ys) ran in
    let same = one_answer law once told line.statement s here.0 there.0 a.reply b.reply never.0 (a.events, ma.0, here.1) (b.events, mb.0, there.1) in
    let from : IsRun here.0 (events_of ys) u = (let P : ProgramState → Type 0 = λ x. IsRun x (events_of ys) u in subst P (sym same.1) there.2) in
    let rest : text_for lines (replies_in xs) ≡ text_for lines (replies_in ys) = one_text law once told lines xs ys here.0 t u never.1 ma.1 mb.1 here.2 from in
    ap (λ (r : LineReply). line_text line.number r ++ text_for lines (replies_in xs)) same.0 ∙ ap (λ (more : List ℕ). line_text line.number b.reply ++ more) rest
