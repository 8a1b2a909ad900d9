-- What a client of a core may rely on.
use Rattle.std.specs.Prelude.{◌≡◌, ℕ, ◌<◌, length, Some}
use Rattle.versions.specs.Map.{Map}
use Rattle.bulk_work.specs.Answers as plain
use Rattle.bulk_work.specs.Summaries.{summary_of}
use Rattle.bulk_work.specs.declared.asks.Answer.{Answer}
use Rattle.bulk_work.specs.declared.asks.Answer.TheVariants.{Count}
use Rattle.handles.specs.Machine.{State, Job, job_at}

module _ {K V Q : Type 0} where
  -- if the number is an open job's, it is this job's, and no freeze will give the number again
  pub record IsOnlyJob (s : State K V Q) (j : ℕ) (job : Job K V Q) : Type 0 where
    pub given : j < s.next
    pub only : (x : Job K V Q) → job_at s j ≡ Some x → x ≡ job

  -- each number that is one job's alone stays so
  abbrev pub NumbersStay : State K V Q → State K V Q → Type 0
  NumbersStay s t = (j : ℕ) (job : Job K V Q) → IsOnlyJob s j job → IsOnlyJob t j job

module _ {K V Q I : Type 0} (answered : Q → Map K V → plain.Answer K V I → Type 0) where
  -- what is returned has the summary of an answer of the query for the map
  pub record IsAnswerTo (q : Q) (m : Map K V) (returned : Answer K V I) : Type 0 where
    pub answer : plain.Answer K V I
    pub is_answer : answered q m answer
    pub returns_so : summary_of returned ≡ plain.summary answer

  -- the query's one answer for a map is how many pairs it has
  abbrev pub AsksSize : Q → Type 0
  AsksSize q = (m : Map K V) (a : plain.Answer K V I) → answered q m a → a ≡ plain.Answer.number (length m)

-- what is returned is a count
abbrev pub TellsCount : {K V I : Type 0} → Answer K V I → Type 0
TellsCount (Count n) = Unit {0}
TellsCount a = ⊥
