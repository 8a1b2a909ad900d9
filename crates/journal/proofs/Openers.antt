-- Where the entries stand that opened the open jobs, where jobs are opened and closed.
use Rattle.std.proofs.Common.{◌≡◌, ℕ, Bool, true, false, not, cond, List, [], ◌∷◌, ◌++◌, filter, map, Option, Some, None, is_some, refl, sym, subst, ap, ◌∙◌, inl, inr}
use Rattle.std.specs.Prelude.{MatchResult, Result, Ok, Err}
use Rattle.std.specs.Ordering.{nat_cmp, eq_by_cmp}
use Rattle.std.specs.Cmp.{nat_cmp_total, eq_by_cmp_equiv}
use Rattle.std.specs.FinMap.Entries.{find-append}
use Rattle.std.proofs.lemmas.List.{map-append}
use Rattle.boxcar.specs.Table.{Where}
use Rattle.bulk_work.specs.Answers as plain
use Rattle.versions.specs.Map.{Map, value_at, without}
use Rattle.versions.specs.Map as map
use Rattle.versions.specs.declared.refusal.Refusal.{Refusal}
use Rattle.handles.specs.declared.call.Call.{Call}
use Rattle.handles.specs.declared.call.Call.TheVariants.{Open, Snapshot, Drop, On}
use Rattle.handles.specs.Machine.{Kind, State, Job, freeze, frozen, Outcome, Step, job_at}
use Rattle.handles.specs.Views.{frozen_outcome, request_of}
use Rattle.handles.proofs.JobLists.{without-numbered}
use Rattle.journal.specs.Answers.{answered}
use Rattle.journal.specs.Journals.{Entered}
use Rattle.journal.specs.Kept.{Standing, IsAnothers, WasOpenedBy, EachHasItsToken, is_other, opener_at, opener_of, openers_after, openers_of}
use Rattle.journal.specs.declared.frozen.Frozen.{Frozen}
use Rattle.journal.proofs.Beside.{at_put, at_without}

some_without : {X Y : Type 0} (b : Bool) (o : Option X) (p : Option Y) → is_some o ≡ is_some p → is_some (cond b o None) ≡ is_some (cond b p None)
some_without true o p same = same
some_without false o p same = refl

some_put : {X Y : Type 0} (b : Bool) (x : X) (y : Y) (o : Option X) (p : Option Y) → is_some o ≡ is_some p → is_some (cond b (Some x) (cond (not b) o None)) ≡ is_some (cond b (Some y) p)
some_put true x y o p same = refl
some_put false x y o p same = same

not_none : {X Y : Type 0} (x : X) (o : Option X) → o ≡ Some x → o ≡ None → Y
not_none x o some none = let both : Some x ≡ None = sym some ∙ none in cc

-- which number is compared with which makes no difference
alike : (q n : ℕ) → eq_by_cmp nat_cmp n q ≡ eq_by_cmp nat_cmp q n
alike q n = (eq_by_cmp_equiv nat_cmp_total).symm n q

-- under a number that was removed nothing stands
none_left : (os : Map ℕ ℕ) (n : ℕ) → value_at nat_cmp (without nat_cmp os n) n ≡ None
none_left os n = at_without os n n ∙ ap (λ b. cond (not b) (value_at nat_cmp os n) None) ((eq_by_cmp_equiv nat_cmp_total).refl n)

module _ {K V Q I : Type 0} where
  -- the openers of the other jobs
  pub openers_of-filter : (n : ℕ) (fs : List (Frozen K V Q I)) → openers_of (filter (is_other n) fs) ≡ without nat_cmp (openers_of fs) n
  openers_of-filter = without-numbered (λ (f : Frozen K V Q I). f.number) (λ f. f.token.index)

  -- the openers once one more job is open
  pub openers_of-opened : (n : ℕ) (f : Frozen K V Q I) (fs : List (Frozen K V Q I)) → openers_of (filter (is_other n) fs ++ f ∷ []) ≡ without nat_cmp (openers_of fs) n ++ opener_of f ∷ []
  openers_of-opened n f fs = map-append opener_of (filter (is_other n) fs) (f ∷ []) ∙ ap (λ (os : Map ℕ ℕ). os ++ opener_of f ∷ []) (openers_of-filter n fs)

  -- where no job is opened or closed, each keeps its token
  pub each_still : (s u : State K V Q) (fs : List (Frozen K V Q I)) → u.jobs ≡ s.jobs → EachHasItsToken s fs → EachHasItsToken u fs
  each_still s u fs jobs each q = each q ∙ ap (λ js. is_some (value_at nat_cmp js q)) (sym jobs)

  -- so do the others where one job is closed
  pub each_closed : (s u : State K V Q) (j : ℕ) (fs fs' : List (Frozen K V Q I)) → u.jobs ≡ without nat_cmp s.jobs j → fs' ≡ filter (is_other j) fs → EachHasItsToken s fs → EachHasItsToken u fs'
  each_closed s u j fs fs' closed is each q =
      ap is_some (ap (λ gs. value_at nat_cmp (openers_of gs) q) is ∙ ap (λ (os : Map ℕ ℕ). value_at nat_cmp os q) (openers_of-filter j fs) ∙ at_without (openers_of fs) j q)
      ∙ some_without (map.is_other nat_cmp j q) (value_at nat_cmp (openers_of fs) q) (job_at s q) (each q)
      ∙ sym (ap is_some (ap (λ js. value_at nat_cmp js q) closed ∙ at_without s.jobs j q))

module _ {K V Q A I : Type 0} (kind : Kind K V Q A (plain.Summary K V I)) where
  -- each job has its token after a freeze
  pub each_frozen : (s u : State K V Q) (h : ℕ) (q : Q) (answer : Result (ℕ × Map K V) Refusal) (fs mid fs' : List (Frozen K V Q I)) (f : ℕ → Frozen K V Q I)
      → ((n : ℕ) → (f n).number ≡ n) → Step kind s (freeze h q) (answered frozen_outcome answer) u
      → MatchResult answer (λ x. fs' ≡ filter (is_other x.0) mid ++ f x.0 ∷ []) (λ _. fs' ≡ mid) → mid ≡ fs → EachHasItsToken s fs → EachHasItsToken u fs'
  each_frozen s u h q (Ok x) fs mid fs' f number step is same each = λ p.
      let os = openers_of fs in
      let n = x.0 in
      let job : Job K V Q = record { query = q; frozen = x.1 } in
      let more : openers_of fs' ≡ without nat_cmp os n ++ (n, (f n).token.index) ∷ [] = ap openers_of is ∙ openers_of-opened n (f n) mid ∙ (λ i. without nat_cmp (openers_of (same i)) n ++ (number n i, (f n).token.index) ∷ []) in
      let b = eq_by_cmp nat_cmp p n in
      let mine = ap (λ (m : Map ℕ ℕ). value_at nat_cmp m p) more ∙ find-append nat_cmp nat_cmp_total (without nat_cmp os n) n (f n).token.index p (none_left os n)
      ∙ ap (cond b (Some (f n).token.index)) (at_without os n p ∙ ap (λ c. cond (not c) (value_at nat_cmp os p) None) (alike p n)) in
      let its = ap (λ y. job_at y p) step.1.2 ∙ at_put s.jobs n p job in
      ap is_some mine ∙ some_put b (f n).token.index job (value_at nat_cmp os p) (job_at s p) (each p) ∙ sym (ap is_some its)
  each_frozen s u h q (Err e) fs mid fs' f number step is same each =
      subst (EachHasItsToken u) (sym (is ∙ same)) (each_still s u fs (ap (λ x. x.jobs) step.1) each)

  -- where openers stand after a freeze
  pub openers_frozen : (h : ℕ) (q : Q) (answer : Result (ℕ × Map K V) Refusal) (fs mid fs' : List (Frozen K V Q I)) (token mine : Where (Entered K V Q (plain.Summary K V I)))
      → token ≡ mine → MatchResult answer (λ x. fs' ≡ filter (is_other x.0) mid ++ record { number = x.0; token = token } ∷ []) (λ _. fs' ≡ mid) → mid ≡ fs
      → openers_of fs' ≡ openers_after {B = plain.Summary K V I} (openers_of fs) (freeze h q) (answered frozen_outcome answer) mine.index
  openers_frozen h q (Ok x) fs mid fs' token mine e is same =
      ap openers_of is ∙ openers_of-opened x.0 (record { number = x.0; token = token }) mid ∙ (λ i. without nat_cmp (openers_of (same i)) x.0 ++ (x.0, (e i).index) ∷ [])
  openers_frozen h q (Err x) fs mid fs' token mine e is same = ap openers_of (is ∙ same)

-- a call leaves all openers where they stand
pub call_keeps_openers : (Q : Type 0) {K V B : Type 0} (os : Map ℕ ℕ) (c : Call K V) (o : Outcome K V B) (index : ℕ) → openers_after {Q = Q} os (request_of c) o index ≡ os
call_keeps_openers Q os (Open h) o index = refl
call_keeps_openers Q os (Snapshot h to) o index = refl
call_keeps_openers Q os (Drop h) o index = refl
call_keeps_openers Q os (On h c) o index = refl

module _ {K V Q B : Type 0} (l : Standing K V Q B) (n index : ℕ) where
  -- an open job that the entry here opened is not another's
  pub is_own : {X : Type 0} (e : Entered K V Q B) → opener_at l n ≡ Some index → WasOpenedBy l.state n e → IsAnothers l n index → X
  is_own e here was another = elim another [
    | inl closed ↦ not_none was.job (job_at l.state n) was.stands closed
    | inr other ↦ let same : Some other.0 ≡ Some index = sym other.1 ∙ here in absurd (other.2 (cc))
  ]

  -- without a token beside it the job is not open
  pub none_is_anothers : is_some (opener_at l n) ≡ is_some (job_at l.state n) → opener_at l n ≡ None → IsAnothers l n index
  none_is_anothers each none = inl (by (job_at l.state n) (sym each ∙ ap is_some none))
    where
      by : (o : Option (Job K V Q)) → is_some o ≡ false → o ≡ None
      by None e = refl
      by (Some x) e = cc
