-- Tickets, and the jobs that they name.
use Rattle.std.proofs.Common.{◌≡◌, ℕ, Option, Some, ap, sym, ◌∙◌, subst, unwrap_or}
use Rattle.versions.specs.Map.{Map}
use Rattle.handles.specs.Machine.{Job}
use Rattle.journal.specs.Journals.{Entered}
use Rattle.journal.specs.Kept.{opened_by}

-- what answers a ticket's query for its map answers the job that the ticket's entry opened
pub ticket_answers : {K V Q B P : Type 0} (answers : Q → Map K V → P → Type 0) (n : ℕ) (q : Q) (m : Map K V) (e : Entered K V Q B) (x : Job K V Q) (p : P)
    → opened_by e ≡ Some (n, record { query = q; frozen = m }) → opened_by e ≡ Some (n, x) → answers q m p → answers x.query x.frozen p
ticket_answers {K = K} {V = V} {Q = Q} answers n q m e x p ticket asked is =
    let here : Job K V Q = record { query = q; frozen = m } in
    let job_in : Option (ℕ × Job K V Q) → Job K V Q = λ o. (unwrap_or o (n, x)).1 in
    let same : here ≡ x = ap job_in (sym ticket ∙ asked) in
    subst (λ (j : Job K V Q). answers j.query j.frozen p) same is
