-- Queries that ask how many pairs a map has, and what is returned where there is something.
use Rattle.std.proofs.Common.{◌≡◌, ℕ, true, [], ◌∷◌, length, filter, refl, ap, sym, subst, ◌∙◌, Option, Some, None}
use Rattle.std.specs.Prelude.{Result, Ok, Err, IfOk, IfSome}
use Rattle.std.specs.declared.cmp.Ordering.{Ordering}
use Rattle.versions.specs.Map.{Map}
use Rattle.bulk_work.specs.Answers.{Answer, Summary, answers, count, passes, summary}
use Rattle.bulk_work.specs.Summaries.{summary_of}
use Rattle.bulk_work.specs.declared.asks.Answer as code
use Rattle.bulk_work.specs.declared.asks.Answer.TheVariants.{Count, Truth, Found, Made, Images, Item}
use Rattle.handles.specs.Machine.{State, Job}
use Rattle.tests_core_steps_memory.specs.Clients.{AsksSize, IsOnlyJob, IsAnswerTo, TellsCount}

-- every pair passes
all_pass : {K V : Type 0} (m : Map K V) → filter (passes (λ k v. true)) m ≡ m
all_pass [] = refl
all_pass {K = K} {V = V} (x ∷ m) = ap (λ (n : Map K V). x ∷ n) (all_pass m)

-- a count of all pairs has one answer
pub size_answer : {K V I : Type 0} (R : K → K → Ordering) (m : Map K V) (a : Answer K V I) → answers R (count (λ k v. true)) m a → a ≡ Answer.number (length m)
size_answer {K = K} {V = V} {I = I} R m (Answer.number n) e =
    let of_number : ℕ → Answer K V I = λ k. Answer.number k in
    ap of_number (e ∙ ap length (all_pass m))
size_answer R m (Answer.truth b) e = absurd e
size_answer R m (Answer.found x) e = absurd e
size_answer R m (Answer.made n) e = absurd e
size_answer R m (Answer.images n) e = absurd e
size_answer R m (Answer.item i) e = absurd e

-- where a number is returned, it is a count's
pub tells_count : {K V I : Type 0} (a : code.Answer K V I) (n : ℕ) → summary_of a ≡ Summary.number n → TellsCount a
tells_count (Count k) n e = tt
tells_count (Truth b) n e = cc
tells_count (Found x) n e = cc
tells_count (Made k) n e = cc
tells_count (Images k) n e = cc
tells_count (Item i) n e = cc

abbrev number_in : {K V I : Type 0} → Summary K V I → ℕ
number_in (Summary.number n) = n
number_in (Summary.truth b) = 0
number_in (Summary.found x) = 0
number_in (Summary.made n) = 0
number_in (Summary.images m) = 0
number_in (Summary.item i) = 0

pub count_is : {K V I : Type 0} (a : code.Answer K V I) (k n : ℕ) → a ≡ Count k → summary_of a ≡ Summary.number n → k ≡ n
count_is {K = K} {V = V} {I = I} a k n is e = ap (λ (b : code.Answer K V I). number_in (summary_of b)) (sym is) ∙ ap (λ (t : Summary K V I). number_in t) e

module _ {K V Q I : Type 0} (answered : Q → Map K V → Answer K V I → Type 0) (q : Q) (m : Map K V) where
  -- what is returned for it is the size
  pub size_is_returned : (a : code.Answer K V I) → AsksSize answered q → IsAnswerTo answered q m a → summary_of a ≡ Summary.number (length m)
  size_is_returned a asks is = is.returns_so ∙ ap (λ (x : Answer K V I). summary x) (asks m is.answer is.is_answer)

  -- what is returned for a job that is the number's only one
  pub returned_of_only : {E : Type 0} (s : State K V Q) (j : ℕ) (r : Result (Option (code.Answer K V I)) E) → IsOnlyJob s j (record { query = q; frozen = m })
      → IfOk r (λ o. IfSome o (λ a. (p : Q) (n : Map K V) → IsOnlyJob s j (record { query = p; frozen = n }) → IsAnswerTo answered p n a)) → IfOk r (λ o. IfSome o (λ a. IsAnswerTo answered q m a))
  returned_of_only s j (Ok (Some a)) only returned = returned q m only
  returned_of_only s j (Ok None) only returned = tt
  returned_of_only s j (Err e) only returned = tt

  pub returned_here : (o : Option (code.Answer K V I)) (a : code.Answer K V I) → o ≡ Some a → IfSome o (λ b. IsAnswerTo answered q m b) → IsAnswerTo answered q m a
  returned_here o a e h = subst (λ (p : Option (code.Answer K V I)). IfSome p (λ b. IsAnswerTo answered q m b)) e h

pub only_here : {K V Q : Type 0} (s : State K V Q) (job : Job K V Q) (o : Option ℕ) (j : ℕ) → o ≡ Some j → IfSome o (λ n. IsOnlyJob s n job) → IsOnlyJob s j job
only_here s job o j e h = subst (λ (p : Option ℕ). IfSome p (λ n. IsOnlyJob s n job)) e h

pub size_here : (size : ℕ) (o : Option ℕ) (n : ℕ) → o ≡ Some n → IfSome o (λ k. k ≡ size) → n ≡ size
size_here size o n e h = subst (λ (p : Option ℕ). IfSome p (λ k. k ≡ size)) e h

pub same_here : {M : Type 0} (a b : M) (o : Option ℕ) (n : ℕ) → o ≡ Some n → IfSome o (λ k. a ≡ b) → a ≡ b
same_here a b o n e h = subst (λ (p : Option ℕ). IfSome p (λ k. a ≡ b)) e h
