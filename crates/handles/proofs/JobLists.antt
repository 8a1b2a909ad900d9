-- The open jobs in a vector, as a map from their numbers.
use Rattle.std.proofs.Common.{◌≡◌, ℕ, ◌+◌, ◌≤◌, Bool, true, false, not, cond, ◌==◌, List, map, [], ◌∷◌, ◌++◌, refl, ap, ◌∙◌, filter, arith}
use Rattle.std.specs.declared.cmp.Ordering.{Ordering}
use Rattle.std.specs.declared.cmp.Ordering.TheVariants.{Greater}
use Rattle.std.specs.Ordering.{nat_cmp}
use Rattle.std.specs.Cmp.{unsigned_ties, nat_cmp_total, eq_by_cmp_equiv, nat_cmp_is}
use Rattle.std.specs.FinMap.Entries.{by_order}
use Rattle.versions.specs.Map.{Map, without, is_other, with_pair}
use Rattle.handles.specs.Machine.{Job}
use Rattle.handles.specs.declared.jobs.OpenJob.{OpenJob}
use Rattle.handles.specs.Jobs.{AllBelow, job_of, jobs_of, other_job}

module _ {X Y : Type 0} (number : X → ℕ) (shown : X → Y) where
  abbrev numbered : X → ℕ × Y
  numbered x = (number x, shown x)

  both : (b : Bool) (x : X) (xs : List X) (m : Map ℕ Y) → map numbered xs ≡ m → map numbered (cond b (x ∷ xs) xs) ≡ cond b (numbered x ∷ m) m
  both true x xs m e = ap (λ (r : Map ℕ Y). numbered x ∷ r) e
  both false x xs m e = e

  -- of things under numbers, to keep those of other numbers is to remove the number
  pub without-numbered : (n : ℕ) (xs : List X) → map numbered (filter (λ x. not (number x == n)) xs) ≡ without nat_cmp (map numbered xs) n
  without-numbered n [] = refl
  without-numbered n (x ∷ xs) =
      let same : not (number x == n) ≡ is_other nat_cmp n (number x) = ap not (unsigned_ties (number x) n ∙ (eq_by_cmp_equiv nat_cmp_total).symm (number x) n) in
      let rest = without nat_cmp (map numbered xs) n in
      both (not (number x == n)) x (filter (λ y. not (number y == n)) xs) rest (without-numbered n xs) ∙ ap (λ (b : Bool). cond b (numbered x ∷ rest) rest) same

module _ {K V Q : Type 0} where
  -- to keep the other jobs is to remove the number
  pub jobs_of-filter : (n : ℕ) (os : List (OpenJob K V Q)) → jobs_of (filter (other_job n) os) ≡ without nat_cmp (jobs_of os) n
  jobs_of-filter = without-numbered (λ (o : OpenJob K V Q). o.number) (λ o. (job_of o).1)

  -- to put a job behind those of lower numbers is to map its number
  pub jobs_of-push : (o : OpenJob K V Q) (os : List (OpenJob K V Q)) → AllBelow o.number os → jobs_of (os ++ o ∷ []) ≡ with_pair nat_cmp (jobs_of os) o.number (job_of o).1
  jobs_of-push o [] below = refl
  jobs_of-push o (p ∷ os) below =
      let rest = jobs_of os in
      ap (λ (r : Map ℕ (Job K V Q)). job_of p ∷ r) (jobs_of-push o os below.1)
      ∙ ap (λ (x : Ordering). by_order x (job_of o ∷ job_of p ∷ rest) ((p.number, (job_of o).1) ∷ rest) (job_of p ∷ with_pair nat_cmp rest o.number (job_of o).1)) (nat_cmp_is o.number p.number Greater below.0)

  pub below_later : (n m : ℕ) (os : List (OpenJob K V Q)) → n ≤ m → AllBelow n os → AllBelow m os
  below_later n m [] le below = tt
  below_later n m (o ∷ os) le below = (omega (arith, below.0), below_later n m os le below.1)

  pub below_push : (n : ℕ) (o : OpenJob K V Q) (os : List (OpenJob K V Q)) → o.number ≡ n → AllBelow n os → AllBelow (n + 1) (os ++ o ∷ [])
  below_push n o [] same below = (omega arith, tt)
  below_push n o (p ∷ os) same below = (omega (arith, below.0), below_push n o os same below.1)

  pub below_kept : (n : ℕ) (p : OpenJob K V Q → Bool) (os : List (OpenJob K V Q)) → AllBelow n os → AllBelow n (filter p os)
  below_kept n p [] below = tt
  below_kept n p (o ∷ os) below =
      elim (p o) as (λ b. AllBelow n (cond b (o ∷ filter p os) (filter p os))) [ true ↦ (below.0, below_kept n p os below.1) | false ↦ below_kept n p os below.1 ]
