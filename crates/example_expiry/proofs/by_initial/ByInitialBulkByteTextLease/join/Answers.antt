use Rattle.std.proofs.Common.{arith}
use Rattle.std.proofs.lemmas.Cmp.{nat_list_cmp_total}
use Rattle.std.proofs.lemmas.Result.{IfOk-weaker}
use Rattle.keys.specs.Order.{bytes_cmp}
use Rattle.example_expiry.proofs.Together.{both, both_few}
use Rattle.example_expiry.proofs.by_initial.ByInitialBulkByteTextLease.join.Goals as goal

pub joined-requires : goal.joined-requires
joined-requires c = λ byte. omega (arith, both_few bytes_cmp c.args.a.now c.args.b.now c.requires byte)

pub returns : goal.returns
returns c = IfOk-weaker c.joined.result _ _ (λ sum. both bytes_cmp nat_list_cmp_total c.args.a.now c.args.b.now sum) c.joined.ensures
