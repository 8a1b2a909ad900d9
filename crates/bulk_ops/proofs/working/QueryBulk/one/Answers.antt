use Rattle.std.proofs.Common.{[]}
use Rattle.bulk_ops.proofs.Additions.{apart_from_none}
use Rattle.bulk_ops.proofs.working.QueryBulk.one.Goals as goal

pub returns : goal.returns
returns g c =
    c.in-Ok.ensures.added [] c.in_ok-part.ensures (apart_from_none g.K.Ord.cmp (c.args.key.now.value, c.args.value.now.value))
