use Rattle.std.proofs.Common.{rules, ◌≡◌, ◌<◌, ◌≤◌, ◌+◌, nat_cmp}
use Rattle.std.specs.Ordering.{ord_max}
use Rattle.batch_cli.proofs.RunOf.{known_more}
use Rattle.batch_cli.proofs.run.count_of.Goals as goal

pub loop-line-preserved : goal.loop-line-preserved
loop-line-preserved c =
    let line = c.line-item.result in
    let most : line.client < 64 = search rules in
    let is : c.max-count.result ≡ ord_max nat_cmp c.loop-line.count (line.client + 1) = c.max-count.ensures in
    let below : line.client < c.max-count.result = search rules in
    let kept : c.loop-line.count ≤ c.max-count.result = search rules in
    let held : c.max-count.result ≤ 64 = search rules in
    (known_more c.args.lines.now c.loop-line.line-index c.loop-line.count c.max-count.result line c.loop-line-test.true c.line-item.is below kept c.loop-line.invariant.0, held)
