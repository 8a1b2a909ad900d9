-- What queries are to a core.
use Rattle.std.specs.Prelude.{ℕ, Bool, Option}
use Rattle.std.specs.declared.cmp.Ordering.{Ordering}
use Rattle.versions.specs.Map.{Map}
use Rattle.handles.specs.Machine.{Kind}
use Rattle.bulk_work.specs.Answers.{Answer, Summary, map_of, summary}
use Rattle.core_steps.specs.Cores.{Division}

-- the machine whose queries have these targets and these answers
abbrev pub asked : {K V Q I : Type 0} → (K → K → Ordering) → (V → V → Bool) → (Q → Option ℕ) → (Q → Map K V → Answer K V I → Type 0) → Kind K V Q (Answer K V I) (Summary K V I)
asked R E target answered = record { order = R; equal = E; target = target; answers = answered; map_of = map_of; told = summary }

-- maps divided by these path words, whose queries are decided so
abbrev pub divided : {K V Q : Type 0} → (K → ℕ) → (Q → Map K V → Type 0) → Division K V Q
divided path decides = record { path = path; Decides = decides }
