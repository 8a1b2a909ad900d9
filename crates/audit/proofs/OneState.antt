-- A filed step counts one entry more.
use Rattle.std.proofs.Common.{◌≡◌, Bool, true, false, ℕ, ◌+◌, ◌∙◌, inl, inr, refl, sym, ap}
use Rattle.versions.specs.declared.refusal.Refusal.{Refusal}
use Rattle.handles.specs.Machine.{Step, Granted, Finishes, is_entry, open_handle, snapshot, drop_handle, on, view, freeze, finish, abandon, worker_step, made, replied, viewed, frozen, finished, unfinished, refused, worked}
use Rattle.journal.specs.Journals.{is_filed}
use Rattle.questions.specs.Program.{program, ProgramSummary, ProgramState, ProgramRequest, ProgramOutcome}
use Rattle.questions.proofs.OneStep.{Settled, settled, refused_in, one_open, one_snapshot, one_reply, one_drop, one_abandon, one_freeze, one_view}
use Rattle.journal_text.specs.Calls.{IsLawfulRequest}

-- a finish that is filed has an outcome
abbrev pub IsOutcome : ProgramState → ℕ → ProgramOutcome → ProgramState → Type 0
IsOutcome s j o t = (b : ProgramSummary) × (o ≡ finished b) × Finishes program s j b t

pub finish_outcome : (s : ProgramState) (j : ℕ) (o : ProgramOutcome) (t : ProgramState) → is_filed o ≡ true → Granted program s (finish j) o t → IsOutcome s j o t
finish_outcome s j (finished b) t filed g = (b, refl, g)
finish_outcome s j unfinished t filed g = cc
finish_outcome s j made t filed g = absurd g
finish_outcome s j (replied y) t filed g = absurd g
finish_outcome s j (viewed m) t filed g = absurd g
finish_outcome s j (frozen k m) t filed g = absurd g
finish_outcome s j (refused e) t filed g = absurd g
finish_outcome s j worked t filed g = absurd g

granted_counts : (r : ProgramRequest) (s t : ProgramState) (o : ProgramOutcome) → IsLawfulRequest r → is_filed o ≡ true → Granted program s r o t → t.entries ≡ s.entries + 1
granted_counts (open_handle h) s t o lawful filed g = ap (λ (x : ProgramState). x.entries) (one_open s h o t g).1
granted_counts (snapshot h to) s t o lawful filed g = ap (λ (x : ProgramState). x.entries) (one_snapshot s h to o t g).1
granted_counts (drop_handle h) s t o lawful filed g = ap (λ (x : ProgramState). x.entries) (one_drop s h o t g).1
granted_counts (on h c) s t o lawful filed g = ap (λ (x : ProgramState). x.entries) (one_reply s h c o t g).1
granted_counts (view h) s t o lawful filed g = ap (λ (x : ProgramState). x.entries) (one_view s h o t g).1
granted_counts (freeze h q) s t o lawful filed g = ap (λ (x : ProgramState). x.entries) (one_freeze s h q o t g).1
granted_counts (abandon j) s t o lawful filed g = ap (λ (x : ProgramState). x.entries) (one_abandon s j o t g).1
granted_counts (finish j) s t o lawful filed g = ap (λ (x : ProgramState). x.entries) (finish_outcome s j o t filed g).2.left
granted_counts worker_step s t o lawful filed g = absurd lawful

refused_counts : (s : ProgramState) (e : Refusal) (b : Bool) → is_entry e ≡ b → b ≡ true → (refused_in s e).entries ≡ s.entries + 1
refused_counts s e true is there = rw is refl
refused_counts s e false is there = cc

settled_counts : (r : ProgramRequest) (s t : ProgramState) (o : ProgramOutcome) → IsLawfulRequest r → is_filed o ≡ true → Settled s r o t → t.entries ≡ s.entries + 1
settled_counts r s t o lawful filed (inl (e, is, why, left)) =
    let entry : is_entry e ≡ true = sym (ap is_filed is) ∙ filed in
    ap (λ (x : ProgramState). x.entries) left ∙ refused_counts s e true entry refl
settled_counts r s t o lawful filed (inr (none, g)) = granted_counts r s t o lawful filed g

-- a filed step counts one entry
pub step_counts : (r : ProgramRequest) (s t : ProgramState) (o : ProgramOutcome) → IsLawfulRequest r → is_filed o ≡ true → Step program s r o t → t.entries ≡ s.entries + 1
step_counts r s t o lawful filed step = settled_counts r s t o lawful filed (settled s r o t step)
