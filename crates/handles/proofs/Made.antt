-- The maps that are made for targets.
use Rattle.std.proofs.Common.{◌≡◌, ℕ, ◌≤◌, length, refl, ap, arith, Option, Some, None}
use Rattle.std.specs.Ordering.{nat_cmp}
use Rattle.versions.specs.Map.{Map, with_pair}
use Rattle.versions.specs.Contents.{Contents}
use Rattle.bulk_work.specs.Answers as plain
use Rattle.bulk_work.specs.Summaries.{MakesFor}
use Rattle.handles.specs.Jobs.{FitsIn, live_with_answer, live_with_made, stamps_with_made, stamps_with_target}

module _ {K V I : Type 0} where
  -- what is made has no more pairs than the map that it is made of
  pub fits_made : (to : Option ℕ) (a : plain.Answer K V I) (v : Option (Contents K V)) (m n : ℕ) → MakesFor to a v → length (plain.map_of a) ≤ m → m ≤ n → FitsIn n v
  fits_made to a None m n makes few le = tt
  fits_made None a (Some v) m n makes few le = absurd makes
  fits_made (Some to) a (Some v) m n makes few le = omega (arith, ap length makes.0, few, le)

  -- the target has the answer's map
  pub live_made : (live : Map ℕ (Map K V)) (to : Option ℕ) (a : plain.Answer K V I) (v : Option (Contents K V)) → MakesFor to a v → live_with_made live to v ≡ live_with_answer live to a
  live_made live None a None makes = refl
  live_made live None a (Some v) makes = absurd makes
  live_made live (Some to) a None makes = absurd makes
  live_made live (Some to) a (Some v) makes = ap (with_pair nat_cmp live to) makes.0

  -- and the stamp that was given it
  pub stamps_made : (stamps : Map ℕ ℕ) (stamp : ℕ) (to : Option ℕ) (a : plain.Answer K V I) (v : Option (Contents K V)) → MakesFor to a v → stamps_with_made stamps stamp to v ≡ stamps_with_target stamps stamp to
  stamps_made stamps stamp None a None makes = refl
  stamps_made stamps stamp None a (Some v) makes = absurd makes
  stamps_made stamps stamp (Some to) a None makes = absurd makes
  stamps_made stamps stamp (Some to) a (Some v) makes = refl
