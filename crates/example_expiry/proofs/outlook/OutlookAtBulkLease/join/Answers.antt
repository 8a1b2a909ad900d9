use Rattle.std.proofs.Common.{arith}
use Rattle.example_expiry.specs.Outlooks.{expires_soon, has_expired, lasts}
use Rattle.example_expiry.proofs.Outlooks.{both_few, both_outlooks}
use Rattle.example_expiry.proofs.outlook.OutlookAtBulkLease.join.Goals as goal

pub overflow_add-result : goal.overflow_add-result
overflow_add-result g c =
    let asked = c.args.self.now in
    omega (arith, both_few asked g.K.Ord.cmp (has_expired asked) (λ outlook. outlook.expired) (λ m outlook is. is.expired) c.args.a.now c.args.b.now c.requires)

pub overflow_add-result-2 : goal.overflow_add-result-2
overflow_add-result-2 g c =
    let asked = c.args.self.now in
    omega (arith, both_few asked g.K.Ord.cmp (expires_soon asked) (λ outlook. outlook.expiring) (λ m outlook is. is.expiring) c.args.a.now c.args.b.now c.requires)

pub overflow_add-result-3 : goal.overflow_add-result-3
overflow_add-result-3 g c =
    let asked = c.args.self.now in
    omega (arith, both_few asked g.K.Ord.cmp (lasts asked) (λ outlook. outlook.lasting) (λ m outlook is. is.lasting) c.args.a.now c.args.b.now c.requires)

pub returns : goal.returns
returns g c = both_outlooks c.args.self.now g.K.Ord.cmp g.met.K.Ord.total c.args.a.now c.args.b.now
