-- What the core's steps tell a client.
use Rattle.std.proofs.Common.{◌≡◌, ℕ, Bool, cond, List, [], Option, Some, None, length, sym, ap, ◌∙◌, subst}
use Rattle.std.specs.Prelude.{unwrap_or, IfSome}
use Rattle.std.specs.declared.cmp.Ordering.{Ordering}
use Rattle.std.specs.Ordering.{nat_cmp}
use Rattle.std.specs.Cmp.{nat_cmp_total, eq_by_cmp_equiv}
use Rattle.std.specs.FinMap.Entries.{find-put}
use Rattle.versions.specs.Map.{Map}
use Rattle.versions.specs.Commands as commands
use Rattle.bulk_work.specs.Answers as plain
use Rattle.bulk_work.specs.Summaries.{summary_of}
use Rattle.bulk_work.specs.declared.asks.Answer.{Answer}
use Rattle.handles.specs.Machine.{State, Job, on, freeze, finish, replied, frozen, finished, held_by, map_at}
use Rattle.held_maps.specs.declared.reply.Reply.TheVariants as replies
use Rattle.handles.specs.declared.call_reply.CallReply.TheVariants as call_replies
use Rattle.core_steps.specs.Cores.{CoreState, Asked, of_client, CoreOutcome, to_client, Division, CoreStep}
use Rattle.core_steps.specs.Parts.{CoreValue}
use Rattle.core_steps.specs.Queries.{asked}
use Rattle.core_steps.specs.Steps.{StepsTo, Ran}
use Rattle.core_steps.specs.Traces.{client_requests, client_outcomes}
use Rattle.core_steps.specs.declared.outcome.Outcome.{Outcome}
use Rattle.core_steps.specs.declared.outcome.Outcome.TheVariants as outcomes
use Rattle.tests_core_steps_memory.specs.Clients.{IsOnlyJob, NumbersStay, IsAnswerTo}
use Rattle.tests_core_steps_memory.proofs.Numbers.{run_keeps, freeze_gives}

module _ {K V Q I : Type 0} (R : K → K → Ordering) (E : V → V → Bool) (target : Q → Option ℕ) (answered : Q → Map K V → plain.Answer K V I → Type 0) (division : Division K V Q) where
  -- a step that returns so
  returned_step : (s t : CoreState K V Q) (x : Asked K V Q) (y z : CoreOutcome K V (plain.Summary K V I)) → y ≡ z → CoreStep (asked R E target answered) division s x y t → CoreStep (asked R E target answered) division s x z t
  returned_step s t x y z e step = subst (λ (w : CoreOutcome K V (plain.Summary K V I)). CoreStep (asked R E target answered) division s x w t) e step

-- the number of a reply that counts
abbrev count_in : {V : Type 0} → commands.Reply V → ℕ
count_in (commands.count n) = n
count_in (commands.old o) = 0
count_in (commands.done b) = 0
count_in commands.cleared = 0

module _ {K V Q P I : Type 0} (R : K → K → Ordering) (E : V → V → Bool) (target : Q → Option ℕ) (answered : Q → Map K V → plain.Answer K V I → Type 0) (division : Division K V Q) where
  -- a run leaves each number to its job
  pub run_leaves : (s t : CoreValue K V Q P) (xs : List (Asked K V Q)) (os : List (Outcome K V I)) → Ran (asked R E target answered) division s xs os t → NumbersStay s.state.machine t.state.machine
  run_leaves s t xs os ran j job is = run_keeps (asked R E target answered) s.state.machine t.state.machine (client_requests xs) (client_outcomes ran.steps.told) j job ran.machine is

  -- the number that a freeze returns is its job's
  pub freeze_returns : (s t : CoreValue K V Q P) (h : ℕ) (q : Q) (j : ℕ) (o : Outcome K V I) → o ≡ outcomes.Frozen j → StepsTo (asked R E target answered) division s (of_client (freeze h q)) o t
      → IsOnlyJob t.state.machine j (record { query = q; frozen = held_by s.state.machine h })
  freeze_returns s t h q j o e is =
      let so = subst (λ (p : Outcome K V I). StepsTo (asked R E target answered) division s (of_client (freeze h q)) p t) e is in
      let step = returned_step R E target answered division s.state t.state (of_client (freeze h q)) so.told (to_client (frozen j so.shown.0)) so.shown.1 so.step in
      subst (λ (u : State K V Q). IsOnlyJob u j (record { query = q; frozen = held_by s.state.machine h })) (sym (ap (λ (c : CoreState K V Q). c.machine) step.3))
      (freeze_gives (asked R E target answered) s.state.machine step.0 h q j so.shown.0 step.1)

  -- what the finish of a job returns has the summary of an answer of its query for its map
  pub finish_returns : (s t : CoreValue K V Q P) (j : ℕ) (a : Answer K V I) (o : Outcome K V I) → o ≡ outcomes.Answer a → StepsTo (asked R E target answered) division s (of_client (finish j)) o t
      → (q : Q) (m : Map K V) → IsOnlyJob s.state.machine j (record { query = q; frozen = m }) → IsAnswerTo answered q m a
  finish_returns s t j a o e is q m job =
      let so = subst (λ (p : Outcome K V I). StepsTo (asked R E target answered) division s (of_client (finish j)) p t) e is in
      let step = returned_step R E target answered division s.state t.state (of_client (finish j)) so.told (to_client (finished (summary_of a))) so.shown so.step in
      let ends = step.1.1 in
      let same = job.only ends.job ends.named in
      record {
        answer = ends.answer;
        is_answer = subst (λ (x : Job K V Q). answered x.query x.frozen ends.answer) same ends.is_answer;
        returns_so = ends.told;
      }

  -- the size that is returned is that of the handle's map, which stays
  pub size_returned : (s t : CoreValue K V Q P) (h n : ℕ) (o : Outcome K V I) → o ≡ outcomes.Reply (call_replies.Reply (replies.Size n)) → StepsTo (asked R E target answered) division s (of_client (on h commands.size)) o t
      → (n ≡ length (held_by s.state.machine h)) × (held_by t.state.machine h ≡ held_by s.state.machine h)
  size_returned s t h n o e is =
      let so = subst (λ (p : Outcome K V I). StepsTo (asked R E target answered) division s (of_client (on h commands.size)) p t) e is in
      let step = returned_step R E target answered division s.state t.state (of_client (on h commands.size)) so.told (to_client (replied (commands.count n))) so.shown so.step in
      let m : Map K V = held_by s.state.machine h in
      let left : t.state.machine ≡ step.0 = ap (λ (c : CoreState K V Q). c.machine) step.3 in
      let there : map_at step.0 h ≡ Some m =
      ap (λ (x : State K V Q). map_at x h) step.1.1.1
      ∙ find-put nat_cmp nat_cmp_total h h m s.state.machine.live
      ∙ ap (λ (b : Bool). cond b (Some m) (map_at s.state.machine h)) ((eq_by_cmp_equiv nat_cmp_total).refl h) in
      (ap (λ (y : commands.Reply V). count_in y) step.1.1.0, ap (λ (x : State K V Q). held_by x h) left ∙ ap (λ (o : Option (Map K V)). unwrap_or o []) there)

  -- the same where a size is returned
  pub size_returned_if : (s t : CoreValue K V Q P) (h : ℕ) (o : Outcome K V I) (size : Option ℕ) → StepsTo (asked R E target answered) division s (of_client (on h commands.size)) o t
      → IfSome size (λ n. o ≡ outcomes.Reply (call_replies.Reply (replies.Size n)))
      → IfSome size (λ n. n ≡ length (held_by s.state.machine h)) × IfSome size (λ n. held_by t.state.machine h ≡ held_by s.state.machine h)
  size_returned_if s t h o (Some n) step is = size_returned s t h n o is step
  size_returned_if s t h o None step is = (tt, tt)
