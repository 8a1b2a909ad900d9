-- A request has one outcome in a state, but for a finish, which may have several where some pair is asked for, or a map of images; and what finishes with the same outcome leave is one state.
use Rattle.std.proofs.Common.{◌≡◌, ◌≢◌, Bool, true, false, ℕ, ◌+◌, ◌∙◌, ◌⊎◌, List, [], length, Some, None, inl, inr, refl, sym, ap, subst}
use Rattle.std.specs.Prelude.{ℤ, if◌then◌else◌}
use Rattle.versions.specs.declared.refusal.Refusal.{Refusal}
use Rattle.std.specs.Ordering.{nat_cmp}
use Rattle.std.specs.List.{list_any, list_all}
use Rattle.versions.specs.Map.{Map, with_pair, without}
use Rattle.versions.specs.Commands as commands
use Rattle.handles.specs.Machine.{Step, Granted, Finishes, Job, job_at, live_after, refusal, is_entry, live_with, held_by, open_handle, snapshot, drop_handle, on, view, freeze, finish, abandon, made, replied, viewed, frozen, finished, unfinished, refused, worked}
use Rattle.bulk_work.specs.Answers as plain
use Rattle.combiner.specs.Monoids.{folded}
use Rattle.arguments.specs.Questions.{new_value, passes}
use Rattle.arguments.specs.declared.pair_mapping.PairMapping.{PairMapping}
use Rattle.questions.specs.Folds.{Item, combined, item_of, item_of_none}
use Rattle.questions.specs.Queries.{ScriptQuestion, count, exists, for_all, find, filtered, mapped, paired, fold, answers, target_of}
use Rattle.questions.specs.Laws.{is_settled_at_once, FinishesLeaveOne, FinishesTellOne, HaveOneOutcome}
use Rattle.questions.specs.Program.{asks_choice, program, ProgramAnswer, ProgramSummary, ProgramState, ProgramRequest, ProgramOutcome}

-- the state behind a refusal
abbrev pub refused_in : ProgramState → Refusal → ProgramState
refused_in s e = record s { entries = if is_entry e then s.entries + 1 else s.entries }

-- the step is a refusal, or is granted
abbrev pub Settled : ProgramState → ProgramRequest → ProgramOutcome → ProgramState → Type 0
Settled s r o t = ((e : Refusal) × (o ≡ refused e) × (refusal program s r ≡ Some e) × (t ≡ refused_in s e)) ⊎ ((refusal program s r ≡ None) × Granted program s r o t)

pub settled : (s : ProgramState) (r : ProgramRequest) (o : ProgramOutcome) (t : ProgramState) → Step program s r o t → Settled s r o t
settled s r (refused e) t h = inl (e, refl, h.0, h.1)
settled s r made t h = inr h
settled s r (replied y) t h = inr h
settled s r (viewed m) t h = inr h
settled s r (frozen j m) t h = inr h
settled s r (finished b) t h = inr h
settled s r unfinished t h = inr h
settled s r worked t h = inr h

-- what an open, a snapshot and a command are answered where they are granted, and what they leave
pub one_open : (s : ProgramState) (h : ℕ) (o : ProgramOutcome) (t : ProgramState) → Granted program s (open_handle h) o t → (o ≡ made) × (t ≡ record s { live = live_with s h []; entries = s.entries + 1 })
one_open s h made t g = (refl, g)
one_open s h (replied y) t g = absurd g
one_open s h (viewed m) t g = absurd g
one_open s h (frozen j m) t g = absurd g
one_open s h (finished b) t g = absurd g
one_open s h unfinished t g = absurd g
one_open s h (refused e) t g = absurd g
one_open s h worked t g = absurd g

pub one_snapshot : (s : ProgramState) (h to : ℕ) (o : ProgramOutcome) (t : ProgramState) → Granted program s (snapshot h to) o t → (o ≡ made) × (t ≡ record s { live = live_with s to (held_by s h); entries = s.entries + 1 })
one_snapshot s h to made t g = (refl, g)
one_snapshot s h to (replied y) t g = absurd g
one_snapshot s h to (viewed m) t g = absurd g
one_snapshot s h to (frozen j m) t g = absurd g
one_snapshot s h to (finished b) t g = absurd g
one_snapshot s h to unfinished t g = absurd g
one_snapshot s h to (refused e) t g = absurd g
one_snapshot s h to worked t g = absurd g

pub one_reply : (s : ProgramState) (h : ℕ) (c : commands.Command (List ℕ) ℤ) (o : ProgramOutcome) (t : ProgramState) → Granted program s (on h c) o t
    → (o ≡ replied (commands.reply program.order program.equal (held_by s h) c)) × (t ≡ record s { live = live_with s h (commands.after program.order program.equal (held_by s h) c); entries = s.entries + 1 })
one_reply s h c (replied y) t g = (ap (λ (x : commands.Reply ℤ). replied x) g.0, g.1)
one_reply s h c made t g = absurd g
one_reply s h c (viewed m) t g = absurd g
one_reply s h c (frozen j m) t g = absurd g
one_reply s h c (finished b) t g = absurd g
one_reply s h c unfinished t g = absurd g
one_reply s h c (refused e) t g = absurd g
one_reply s h c worked t g = absurd g

pub one_drop : (s : ProgramState) (h : ℕ) (o : ProgramOutcome) (t : ProgramState) → Granted program s (drop_handle h) o t → (o ≡ made) × (t ≡ record s { live = without nat_cmp s.live h; entries = s.entries + 1 })
one_drop s h made t g = (refl, g)
one_drop s h (replied y) t g = absurd g
one_drop s h (viewed m) t g = absurd g
one_drop s h (frozen j m) t g = absurd g
one_drop s h (finished b) t g = absurd g
one_drop s h unfinished t g = absurd g
one_drop s h (refused e) t g = absurd g
one_drop s h worked t g = absurd g

pub one_abandon : (s : ProgramState) (j : ℕ) (o : ProgramOutcome) (t : ProgramState) → Granted program s (abandon j) o t → (o ≡ made) × (t ≡ record s { jobs = without nat_cmp s.jobs j; entries = s.entries + 1 })
one_abandon s j made t g = (refl, g)
one_abandon s j (replied y) t g = absurd g
one_abandon s j (viewed m) t g = absurd g
one_abandon s j (frozen k m) t g = absurd g
one_abandon s j (finished b) t g = absurd g
one_abandon s j unfinished t g = absurd g
one_abandon s j (refused e) t g = absurd g
one_abandon s j worked t g = absurd g

-- what a freeze leaves
abbrev pub frozen_in : ProgramState → ℕ → ScriptQuestion → ProgramState
frozen_in s h q = record s { jobs = with_pair nat_cmp s.jobs s.next (record { query = q; frozen = held_by s h }); next = s.next + 1; entries = s.entries + 1 }

pub one_freeze : (s : ProgramState) (h : ℕ) (q : ScriptQuestion) (o : ProgramOutcome) (t : ProgramState) → Granted program s (freeze h q) o t → (o ≡ frozen s.next (held_by s h)) × (t ≡ frozen_in s h q)
one_freeze s h q (frozen j m) t g = ((λ i. frozen (g.0 i) (g.1 i)), g.2 ∙ ap (λ (n : ℕ). record s { jobs = with_pair nat_cmp s.jobs n (record { query = q; frozen = m }); next = s.next + 1; entries = s.entries + 1 }) g.0 ∙ ap (λ (shown : Map (List ℕ) ℤ). record s { jobs = with_pair nat_cmp s.jobs s.next (record { query = q; frozen = shown }); next = s.next + 1; entries = s.entries + 1 }) g.1)
one_freeze s h q made t g = absurd g
one_freeze s h q (replied y) t g = absurd g
one_freeze s h q (viewed m) t g = absurd g
one_freeze s h q (finished b) t g = absurd g
one_freeze s h q unfinished t g = absurd g
one_freeze s h q (refused e) t g = absurd g
one_freeze s h q worked t g = absurd g

pub one_view : (s : ProgramState) (h : ℕ) (o : ProgramOutcome) (t : ProgramState) → Granted program s (view h) o t → (o ≡ viewed (held_by s h)) × (t ≡ record s { entries = s.entries + 1 })
one_view s h (viewed m) t g = (ap (λ (pairs : Map (List ℕ) ℤ). viewed pairs) g.0, g.1)
one_view s h made t g = absurd g
one_view s h (replied y) t g = absurd g
one_view s h (frozen j m) t g = absurd g
one_view s h (finished b) t g = absurd g
one_view s h unfinished t g = absurd g
one_view s h (refused e) t g = absurd g
one_view s h worked t g = absurd g

-- two ways to be granted are one
abbrev pub OneGrant : ProgramRequest → Type 0
OneGrant r = (s t u : ProgramState) (o p : ProgramOutcome) → Granted program s r o t → Granted program s r p u → (o ≡ p) × (t ≡ u)

one_command : (h : ℕ) (c : commands.Command (List ℕ) ℤ) → OneGrant (on h c)
one_command h c s t u o p g k = let a = one_reply s h c o t g in let b = one_reply s h c p u k in (a.0 ∙ sym b.0, a.1 ∙ sym b.1)

open_once : (h : ℕ) → OneGrant (open_handle h)
open_once h s t u o p g k = let a = one_open s h o t g in let b = one_open s h p u k in (a.0 ∙ sym b.0, a.1 ∙ sym b.1)

snapshot_once : (h to : ℕ) → OneGrant (snapshot h to)
snapshot_once h to s t u o p g k = let a = one_snapshot s h to o t g in let b = one_snapshot s h to p u k in (a.0 ∙ sym b.0, a.1 ∙ sym b.1)

drop_once : (h : ℕ) → OneGrant (drop_handle h)
drop_once h s t u o p g k = let a = one_drop s h o t g in let b = one_drop s h p u k in (a.0 ∙ sym b.0, a.1 ∙ sym b.1)

view_once : (h : ℕ) → OneGrant (view h)
view_once h s t u o p g k = let a = one_view s h o t g in let b = one_view s h p u k in (a.0 ∙ sym b.0, a.1 ∙ sym b.1)

freeze_once : (h : ℕ) (q : ScriptQuestion) → OneGrant (freeze h q)
freeze_once h q s t u o p g k = let a = one_freeze s h q o t g in let b = one_freeze s h q p u k in (a.0 ∙ sym b.0, a.1 ∙ sym b.1)

abandon_once : (j : ℕ) → OneGrant (abandon j)
abandon_once j s t u o p g k = let a = one_abandon s j o t g in let b = one_abandon s j p u k in (a.0 ∙ sym b.0, a.1 ∙ sym b.1)

pub granted_once : (r : ProgramRequest) → is_settled_at_once r ≡ true → OneGrant r
granted_once (open_handle h) e = open_once h
granted_once (snapshot h to) e = snapshot_once h to
granted_once (drop_handle h) e = drop_once h
granted_once (on h c) e = one_command h c
granted_once (view h) e = view_once h
granted_once (freeze h q) e = freeze_once h q
granted_once (abandon j) e = abandon_once j
granted_once r e = λ s t u o p g k. cc

-- where the grants are one, so are the steps
one_settled : (r : ProgramRequest) (s t u : ProgramState) (o p : ProgramOutcome) → (Granted program s r o t → Granted program s r p u → (o ≡ p) × (t ≡ u)) → Settled s r o t → Settled s r p u → (o ≡ p) × (t ≡ u)
one_settled r s t u o p one (inl (e, a, b, d)) (inl (f, a', b', d')) =
    let same : Some e ≡ Some f = sym b ∙ b' in
    let names : e ≡ f = cc in
    (a ∙ ap (λ (x : Refusal). refused x) names ∙ sym a', d ∙ ap (refused_in s) names ∙ sym d')
one_settled r s t u o p one (inl (e, a, b, d)) (inr (none, g)) = let same : Some e ≡ None = sym b ∙ none in cc
one_settled r s t u o p one (inr (none, g)) (inl (e, a, b, d)) = let same : Some e ≡ None = sym b ∙ none in cc
one_settled r s t u o p one (inr (none, g)) (inr (other, k)) = one g k

-- a request has one outcome in a state
pub one_step : (r : ProgramRequest) → OneGrant r → (s t u : ProgramState) (o p : ProgramOutcome) → Step program s r o t → Step program s r p u → (o ≡ p) × (t ≡ u)
one_step r one s t u o p a b = one_settled r s t u o p (one s t u o p) (settled s r o t a) (settled s r p u b)

-- the one answer of a question that has one
abbrev pub the_answer : ScriptQuestion → Map (List ℕ) ℤ → ProgramAnswer
the_answer (count test) m = plain.Answer.number (length (plain.passing (passes test) m))
the_answer (exists test) m = plain.Answer.truth (list_any (plain.passes (passes test)) m)
the_answer (for_all test) m = plain.Answer.truth (list_all (plain.passes (passes test)) m)
the_answer (find test) m = plain.Answer.number 0
the_answer (filtered test to) m = plain.Answer.made (plain.passing (passes test) m)
the_answer (mapped mapping to) m = plain.Answer.made (plain.with_values (new_value mapping) m)
the_answer (paired mapping to) m = plain.Answer.number 0
the_answer (fold folding) m = plain.Answer.item (folded (combined folding) (item_of_none folding) (plain.items_of item_of m))

pub is_the_answer : (q : ScriptQuestion) (m : Map (List ℕ) ℤ) (a : ProgramAnswer) → asks_choice q ≡ false → answers q m a → a ≡ the_answer q m
is_the_answer (count test) m (plain.Answer.number n) never is = ap (λ (n : ℕ). plain.Answer.number n) is
is_the_answer (exists test) m (plain.Answer.truth b) never is = ap (λ (b : Bool). plain.Answer.truth b) is
is_the_answer (for_all test) m (plain.Answer.truth b) never is = ap (λ (b : Bool). plain.Answer.truth b) is
is_the_answer (find test) m a never is = cc
is_the_answer (filtered test to) m (plain.Answer.made n) never is = ap (λ (n : Map (List ℕ) ℤ). plain.Answer.made n) is
is_the_answer (mapped mapping to) m (plain.Answer.made n) never is = ap (λ (n : Map (List ℕ) ℤ). plain.Answer.made n) is
is_the_answer (paired mapping to) m a never is = cc
is_the_answer (fold folding) m (plain.Answer.item x) never is = ap (λ (x : Item). plain.Answer.item x) is
is_the_answer q m a never is = absurd is

abbrev ScriptJob : Type 0
ScriptJob = Job (List ℕ) ℤ ScriptQuestion

-- what a finish leaves
abbrev finished_in : ProgramState → ℕ → ScriptJob → ProgramAnswer → ProgramState
finished_in s j job answer = record s { live = live_after program s (target_of job.query) answer; jobs = without nat_cmp s.jobs j; entries = s.entries + 1 }

-- an open job that has one answer is finished in one way
one_finished : (s t u : ProgramState) (j : ℕ) (job : ScriptJob) (b c : ProgramSummary) → job_at s j ≡ Some job → asks_choice job.query ≡ false → Finishes program s j b t → Finishes program s j c u → (b ≡ c) × (t ≡ u)
one_finished s t u j job b c is_open never f k =
    let first_named : Some f.job ≡ Some job = sym f.named ∙ is_open in
    let second_named : Some k.job ≡ Some job = sym k.named ∙ is_open in
    let first : f.job ≡ job = cc in
    let second : k.job ≡ job = cc in
    let one : f.answer ≡ the_answer job.query job.frozen = is_the_answer job.query job.frozen f.answer never (subst (λ (x : ScriptJob). answers x.query x.frozen f.answer) first f.is_answer) in
    let other : k.answer ≡ the_answer job.query job.frozen = is_the_answer job.query job.frozen k.answer never (subst (λ (x : ScriptJob). answers x.query x.frozen k.answer) second k.is_answer) in
    let same : f.answer ≡ k.answer = one ∙ sym other in
    let jobs : f.job ≡ k.job = first ∙ sym second in
    (f.told ∙ ap (λ (a : ProgramAnswer). plain.summary a) same ∙ sym k.told, f.left ∙ (λ i. finished_in s j (jobs i) (same i)) ∙ sym k.left)

-- maps of images with the same summary are one
same_images : (mapping : PairMapping) (to : ℕ) (m : Map (List ℕ) ℤ) (a b : ProgramAnswer) → answers (paired mapping to) m a → answers (paired mapping to) m b → plain.summary a ≡ plain.summary b → a ≡ b
same_images mapping to m (plain.Answer.images n) (plain.Answer.images k) x y told = let same : n ≡ k = cc in ap (λ (l : Map (List ℕ) ℤ). plain.Answer.images l) same
same_images mapping to m (plain.Answer.images n) b x y told = absurd y
same_images mapping to m a b x y told = absurd x

-- what a finish with the same outcome leaves is one: a pair that is found makes no map
leaves_one : (s : ProgramState) (j : ℕ) (q : ScriptQuestion) (m : Map (List ℕ) ℤ) (a b : ProgramAnswer) → answers q m a → answers q m b → plain.summary a ≡ plain.summary b
    → finished_in s j (record { query = q; frozen = m }) a ≡ finished_in s j (record { query = q; frozen = m }) b
leaves_one s j (find test) m a b x y told = refl
leaves_one s j (paired mapping to) m a b x y told = ap (finished_in s j (record { query = paired mapping to; frozen = m })) (same_images mapping to m a b x y told)
leaves_one s j q m a b x y told = let one = is_the_answer q m a refl x in let other = is_the_answer q m b refl y in ap (finished_in s j (record { query = q; frozen = m })) (one ∙ sym other)

-- an open job with the same outcome is finished in one state
pub finishes_leave_one : (s t u : ProgramState) (j : ℕ) (b : ProgramSummary) → Finishes program s j b t → Finishes program s j b u → t ≡ u
finishes_leave_one s t u j b f k =
    let named : Some f.job ≡ Some k.job = sym f.named ∙ k.named in
    let same : f.job ≡ k.job = cc in
    let answered : answers f.job.query f.job.frozen k.answer = subst (λ (x : ScriptJob). answers x.query x.frozen k.answer) (sym same) k.is_answer in
    f.left ∙ leaves_one s j f.job.query f.job.frozen f.answer k.answer f.is_answer answered (sym f.told ∙ k.told) ∙ ap (λ (x : ScriptJob). finished_in s j x k.answer) same ∙ sym k.left

-- a finish that is granted and has the same outcome leaves one state
granted_leave_one : (s t u : ProgramState) (j : ℕ) (o : ProgramOutcome) → Granted program s (finish j) o t → Granted program s (finish j) o u → t ≡ u
granted_leave_one s t u j (finished b) g k = finishes_leave_one s t u j b g k
granted_leave_one s t u j unfinished g k = g ∙ sym k
granted_leave_one s t u j o g k = absurd g

-- a finish that is made
abbrev IsOutcome : ProgramState → ℕ → ProgramOutcome → ProgramState → Type 0
IsOutcome s j o t = (b : ProgramSummary) × (o ≡ finished b) × Finishes program s j b t

finish_outcome : (s : ProgramState) (j : ℕ) (o : ProgramOutcome) (t : ProgramState) → o ≢ unfinished → Granted program s (finish j) o t → IsOutcome s j o t
finish_outcome s j (finished b) t is_made g = (b, refl, g)
finish_outcome s j unfinished t is_made g = absurd (is_made refl)
finish_outcome s j made t is_made g = absurd g
finish_outcome s j (replied y) t is_made g = absurd g
finish_outcome s j (viewed m) t is_made g = absurd g
finish_outcome s j (frozen k m) t is_made g = absurd g
finish_outcome s j (refused e) t is_made g = absurd g
finish_outcome s j worked t is_made g = absurd g

-- where what is granted leaves one state, so do the steps
one_left : (r : ProgramRequest) (s t u : ProgramState) (o p : ProgramOutcome) → (Granted program s r o t → Granted program s r p u → t ≡ u) → Settled s r o t → Settled s r p u → t ≡ u
one_left r s t u o p one (inl (e, a, b, d)) (inl (f, a', b', d')) =
    let same : Some e ≡ Some f = sym b ∙ b' in
    let names : e ≡ f = cc in
    d ∙ ap (refused_in s) names ∙ sym d'
one_left r s t u o p one (inl (e, a, b, d)) (inr (none, g)) = let same : Some e ≡ None = sym b ∙ none in cc
one_left r s t u o p one (inr (none, g)) (inl (e, a, b, d)) = let same : Some e ≡ None = sym b ∙ none in cc
one_left r s t u o p one (inr (none, g)) (inr (other, k)) = one g k

pub one_outcome : HaveOneOutcome
one_outcome r s t u o p at_once step trod = one_step r (granted_once r at_once) s t u o p step trod

pub leave_one : FinishesLeaveOne
leave_one j s t u o step trod = one_left (finish j) s t u o o (granted_leave_one s t u j o) (settled s (finish j) o t step) (settled s (finish j) o u trod)

pub tell_one : FinishesTellOne
tell_one j job s t u o p is_open never is_made too step trod =
    one_settled (finish j) s t u o p
    (λ g k.
    let f = finish_outcome s j o t is_made g in
    let h = finish_outcome s j p u too k in
    let same = one_finished s t u j job f.0 h.0 is_open never f.2 h.2 in
    (f.1 ∙ ap (λ (x : ProgramSummary). finished x) same.0 ∙ sym h.1, same.1))
    (settled s (finish j) o t step) (settled s (finish j) p u trod)
