-- What is asked of a table that is asked no query.
use Rattle.std.specs.Prelude.{◌≡◌, ℕ, Option, None}
use Rattle.versions.specs.Map.{Map}
use Rattle.bulk_work.specs.Answers.{Answer, number}
use Rattle.handles.specs.declared.no_query.NoQuery.{NoQuery}

-- no query reserves a number
abbrev pub no_target : NoQuery → Option ℕ
no_target q = None

-- where nothing is asked the answer is 0
abbrev pub no_answer : {K V I : Type 0} → NoQuery → Map K V → Answer K V I → Type 0
no_answer q m a = a ≡ number 0

-- the answer of a part where nothing is asked
abbrev pub answer_of_none : {K V I : Type 0} → Unit {0} → Answer K V I
answer_of_none part = number 0
