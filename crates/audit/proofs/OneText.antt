-- A filed step whose reply has the same text leaves one state.
use Rattle.std.proofs.Common.{◌≡◌, true, ℕ, ◌+◌, ◌∙◌, List, [], ◌∷◌, drop, Some, None, inl, inr, refl, sym, ap, subst}
use Rattle.std.specs.Prelude.{ℤ}
use Rattle.std.specs.Ordering.{nat_cmp}
use Rattle.versions.specs.Map.{Map, without}
use Rattle.bulk_work.specs.Answers as plain
use Rattle.handles.specs.Machine.{Step, Finishes, Job, live_after, finish, worker_step, finished, open_handle, snapshot, drop_handle, on, view, freeze, abandon}
use Rattle.journal.specs.Journals.{is_filed}
use Rattle.arguments.specs.Questions.{image_of}
use Rattle.arguments.specs.declared.pair_mapping.PairMapping.{PairMapping}
use Rattle.questions.specs.Queries.{ScriptQuestion, answers, find, paired, target_of}
use Rattle.questions.specs.Program.{program, ProgramAnswer, ProgramSummary, ProgramState, ProgramRequest, ProgramOutcome}
use Rattle.questions.proofs.OneStep.{Settled, settled, refused_in, granted_once, is_the_answer, one_step}
use Rattle.journal_text.specs.Calls.{IsLawfulRequest, outcome_text}
use Rattle.audit.specs.Runs.{MayBeAsked}
use Rattle.audit.proofs.AsciiLemmas.{IsPlainMap}
use Rattle.audit.proofs.KeyedMaps.{AllFit, image_keys, same_keys, same_text}
use Rattle.audit.proofs.KeyLemmas.{HasPlainMaps, HasPlainMap, IsAsked, map_keys}
use Rattle.audit.proofs.MapLemmas.{each_at}
use Rattle.audit.proofs.OneState.{finish_outcome}
use Rattle.audit.proofs.Room.{Any}

abbrev ScriptJob : Type 0
ScriptJob = Job (List ℕ) ℤ ScriptQuestion

-- a lawful request may be asked
pub may_be_asked : (r : ProgramRequest) → IsLawfulRequest r → MayBeAsked r
may_be_asked (finish j) l = tt
may_be_asked (abandon j) l = tt
may_be_asked (open_handle h) l = l
may_be_asked (snapshot h to) l = l
may_be_asked (drop_handle h) l = l
may_be_asked (on h c) l = l
may_be_asked (view h) l = l
may_be_asked (freeze h q) l = l
may_be_asked worker_step l = l

all_fit : (n : Map (List ℕ) ℤ) → IsPlainMap n → AllFit n
all_fit [] all = tt
all_fit (x ∷ n) all = (all.1, all_fit n all.2)

-- maps of images of one map that have one text are one
same_images : (f : PairMapping) (to : ℕ) (m : Map (List ℕ) ℤ) (a b : ProgramAnswer) → IsAsked (paired f to) → IsPlainMap m → answers (paired f to) m a → answers (paired f to) m b
    → outcome_text (finished (plain.summary a)) ≡ outcome_text (finished (plain.summary b)) → a ≡ b
same_images f to m (plain.Answer.images n) (plain.Answer.images k) asked all x y text =
    let keys = same_keys n k x.is_map y.is_map (image_keys (image_of f) m n k x y) (image_keys (image_of f) m k n y x) in
    let fn = all_fit n (map_keys (paired f to) m (plain.Answer.images n) asked x all) in
    let fk = all_fit k (map_keys (paired f to) m (plain.Answer.images k) asked y all) in
    ap (λ (l : Map (List ℕ) ℤ). plain.Answer.images l) (same_text n k keys fn fk (ap (λ (t : List ℕ). drop 5 t) text))
same_images f to m (plain.Answer.images n) b asked all x y text = absurd y
same_images f to m a b asked all x y text = absurd x

-- what a finish leaves
abbrev finished_in : ProgramState → ℕ → ScriptJob → ProgramAnswer → ProgramState
finished_in s j job answer = record s { live = live_after program s (target_of job.query) answer; jobs = without nat_cmp s.jobs j; entries = s.entries + 1 }

-- what a finish whose reply has the same text leaves is one: a pair that is found makes no map
leaves_one : (s : ProgramState) (j : ℕ) (q : ScriptQuestion) (m : Map (List ℕ) ℤ) (a b : ProgramAnswer) → IsAsked q → IsPlainMap m → answers q m a → answers q m b
    → outcome_text (finished (plain.summary a)) ≡ outcome_text (finished (plain.summary b)) → finished_in s j (record { query = q; frozen = m }) a ≡ finished_in s j (record { query = q; frozen = m }) b
leaves_one s j (find test) m a b asked all x y text = refl
leaves_one s j (paired f to) m a b asked all x y text = ap (finished_in s j (record { query = paired f to; frozen = m })) (same_images f to m a b asked all x y text)
leaves_one s j q m a b asked all x y text = let one = is_the_answer q m a refl x in let other = is_the_answer q m b refl y in ap (finished_in s j (record { query = q; frozen = m })) (one ∙ sym other)

-- an open job whose reply has the same text is finished in one state
finishes_leave_one : (s t u : ProgramState) (j : ℕ) (b c : ProgramSummary) → HasPlainMaps s → outcome_text (finished b) ≡ outcome_text (finished c) → Finishes program s j b t → Finishes program s j c u → t ≡ u
finishes_leave_one s t u j b c plains text f k =
    let named : Some f.job ≡ Some k.job = sym f.named ∙ k.named in
    let same : f.job ≡ k.job = cc in
    let answered : answers f.job.query f.job.frozen k.answer = subst (λ (x : ScriptJob). answers x.query x.frozen k.answer) (sym same) k.is_answer in
    let all = (each_at nat_cmp Any HasPlainMap s.jobs j f.job plains.jobs f.named).3 in
    let texts = ap (λ (d : ProgramSummary). outcome_text (finished d)) (sym f.told) ∙ text ∙ ap (λ (d : ProgramSummary). outcome_text (finished d)) k.told in
    f.left ∙ leaves_one s j f.job.query f.job.frozen f.answer k.answer all.1 all.0 f.is_answer answered texts ∙ ap (λ (x : ScriptJob). finished_in s j x k.answer) same ∙ sym k.left

one_finish : (s t u : ProgramState) (j : ℕ) (o p : ProgramOutcome) → HasPlainMaps s → outcome_text o ≡ outcome_text p → is_filed o ≡ true → is_filed p ≡ true → Settled s (finish j) o t → Settled s (finish j) p u → t ≡ u
one_finish s t u j o p plains text filed too (inl (e, a, b, d)) (inl (f, a', b', d')) =
    let same : Some e ≡ Some f = sym b ∙ b' in
    let names : e ≡ f = cc in
    d ∙ ap (refused_in s) names ∙ sym d'
one_finish s t u j o p plains text filed too (inl (e, a, b, d)) (inr (none, g)) = let same : Some e ≡ None = sym b ∙ none in cc
one_finish s t u j o p plains text filed too (inr (none, g)) (inl (e, a, b, d)) = let same : Some e ≡ None = sym b ∙ none in cc
one_finish s t u j o p plains text filed too (inr (none, g)) (inr (other, k)) =
    let f = finish_outcome s j o t filed g in
    let h = finish_outcome s j p u too k in
    finishes_leave_one s t u j f.0 h.0 plains (sym (ap outcome_text f.1) ∙ text ∙ ap outcome_text h.1) f.2 h.2

-- what a filed step of a lawful request whose reply has the same text leaves is one state
pub one_state : (r : ProgramRequest) (s t u : ProgramState) (o p : ProgramOutcome) → HasPlainMaps s → IsLawfulRequest r → outcome_text o ≡ outcome_text p → is_filed o ≡ true → is_filed p ≡ true → Step program s r o t → Step program s r p u → t ≡ u
one_state (finish j) s t u o p plains lawful text filed too step trod = one_finish s t u j o p plains text filed too (settled s (finish j) o t step) (settled s (finish j) p u trod)
one_state worker_step s t u o p plains lawful text filed too step trod = absurd lawful
one_state r s t u o p plains lawful text filed too step trod = (one_step r (granted_once r refl) s t u o p step trod).1
