-- The outlook of one lease, and of two registries together.
use Rattle.std.proofs.Common.{◌≡◌, ℕ, ◌+◌, ◌≤◌, Bool, true, false, cond, length, [], ◌∷◌, refl, sym, ◌∙◌, arith}
use Rattle.std.proofs.Math.Bridge.{le_prop}
use Rattle.std.proofs.Math.Logic.{∥∥₁_elim}
use Rattle.std.specs.Cmp.{IsTotalOrder}
use Rattle.std.specs.declared.cmp.Ordering.{Ordering}
use Rattle.versions.specs.Map.{Map, union}
use Rattle.versions.specs.declared.version.TheConstants.{MOST_PAIRS}
use Rattle.combiner.specs.Bulks.{CanJoin, IsJoined}
use Rattle.bulk_work.proofs.Unions.{passing_le}
use Rattle.bulk_ops.proofs.Totals.{count_union}
use Rattle.bulk_work.proofs.Unions.{truth_of}
use Rattle.example_expiry.specs.declared.lease.Lease.{Lease}
use Rattle.example_expiry.specs.declared.outlook.Outlook.{Outlook}
use Rattle.example_expiry.specs.declared.outlook.OutlookAt.{OutlookAt}
use Rattle.example_expiry.specs.Outlooks.{IsOutlook, expires_soon, has_expired, how_many, lasts}

module _ {K : Type 0} (asked : OutlookAt) where
  abbrev Is : Map K Lease → Outlook → Type 0
  Is m outlook = IsOutlook asked m outlook

  -- of one lease, one passes or none
  one_passes : (test : Lease → Bool) (key : K) (lease : Lease) → cond (test lease) 1 0 ≡ how_many test ((key, lease) ∷ [])
  one_passes test key lease =
      elim (test lease) as (λ b. cond b 1 0 ≡ length {A = K × Lease} (cond b ((key, lease) ∷ []) [])) [ true ↦ refl | false ↦ refl ]

  -- the outlook of one lease
  pub one_lease : (key : K) (lease : Lease) (outlook : Outlook) → outlook.expired ≡ cond (has_expired asked lease) 1 0
      → outlook.expiring ≡ cond (expires_soon asked lease) 1 0 → outlook.lasting ≡ cond (lasts asked lease) 1 0 → Is ((key, lease) ∷ []) outlook
  one_lease key lease outlook expired expiring lasting = record {
    expired = expired ∙ one_passes (has_expired asked) key lease;
    expiring = expiring ∙ one_passes (expires_soon asked) key lease;
    lasting = lasting ∙ one_passes (lasts asked) key lease;
  }

  module _ (R : K → K → Ordering) where
    -- a number of two outlooks that can be joined is at most what a map may have, whichever of the three it is
    pub both_few : (test : Lease → Bool) (number : Outlook → ℕ) → ((m : Map K Lease) (outlook : Outlook) → Is m outlook → number outlook ≡ how_many test m)
        → (a b : Outlook) → CanJoin R Is a b → number a + number b ≤ MOST_PAIRS
    both_few test number is a b can =
        let few : (m : Map K Lease) → how_many test m ≤ length m = λ m. passing_le (λ (key : K) (lease : Lease). test lease) m in
        ∥∥₁_elim can le_prop (λ x. omega (arith, is x.first a x.first_is, is x.second b x.second_is, few x.first, few x.second, x.apart.few))

    -- the outlook of two registries together
    pub both_outlooks : IsTotalOrder R → (a b : Outlook) → IsJoined R Is a b (record { expired = a.expired + b.expired; expiring = a.expiring + b.expiring; lasting = a.lasting + b.lasting })
    both_outlooks o a b m n x y apart =
        let together : (test : Lease → Bool) → how_many test m + how_many test n ≡ how_many test (union R m n)
        = λ test. sym (count_union R o (λ (key : K) (lease : Lease). test lease) m n (truth_of _ apart.left) apart.apart) in
        record {
          expired = (λ i. x.expired i + y.expired i) ∙ together (has_expired asked);
          expiring = (λ i. x.expiring i + y.expiring i) ∙ together (expires_soon asked);
          lasting = (λ i. x.lasting i + y.lasting i) ∙ together (lasts asked);
        }
