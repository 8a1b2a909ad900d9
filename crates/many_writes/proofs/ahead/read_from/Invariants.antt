use Rattle.std.proofs.Common.{◌-◌, length}
use Rattle.many_writes.proofs.ahead.read_from.Given as goal

abbrev pub decreases-loop-next : goal.decreases-loop-next
decreases-loop-next g l = length l.turns - l.next
