-- How many leases have expired at a moment, will soon, and last longer.
use Rattle.std.specs.Prelude.{◌≡◌, ℕ, Bool, ◌&&◌, length, nat_le, nat_lt}
use Rattle.versions.specs.Map.{Map}
use Rattle.bulk_work.specs.Answers.{passing}
use Rattle.example_expiry.specs.declared.lease.Lease.{Lease}
use Rattle.example_expiry.specs.declared.outlook.Outlook.{Outlook}
use Rattle.example_expiry.specs.declared.outlook.OutlookAt.{OutlookAt}

-- how many leases of a registry pass a test
abbrev pub how_many : {K : Type 0} → (Lease → Bool) → Map K Lease → ℕ
how_many test m = length (passing (λ key lease. test lease) m)

module _ (asked : OutlookAt) where
  -- the lease has expired at the moment
  abbrev pub has_expired : Lease → Bool
  has_expired lease = nat_le lease.until asked.moment

  -- it has not, and will by the second that is soon
  abbrev pub expires_soon : Lease → Bool
  expires_soon lease = nat_lt asked.moment lease.until && nat_le lease.until asked.soon

  -- it lasts longer
  abbrev pub lasts : Lease → Bool
  lasts lease = nat_lt asked.moment lease.until && nat_lt asked.soon lease.until

  -- each number is that of the registry's leases that are so
  pub record IsOutlook {K : Type 0} (m : Map K Lease) (outlook : Outlook) : Type 0 where
    pub expired : outlook.expired ≡ how_many has_expired m
    pub expiring : outlook.expiring ≡ how_many expires_soon m
    pub lasting : outlook.lasting ≡ how_many lasts m
