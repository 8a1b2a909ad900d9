use Rattle.example_expiry.proofs.Outlooks.{one_lease}
use Rattle.example_expiry.proofs.outlook.OutlookAtBulkLease.one.Goals as goal

pub returns : goal.returns
returns g c =
    one_lease c.args.self.now c.args._key.now.value c.args.lease.now.value c.of_lease.result (cc) (cc) (cc)
