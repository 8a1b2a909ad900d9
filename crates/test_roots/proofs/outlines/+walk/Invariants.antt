use Rattle.std.proofs.Common.{suc, ◌-◌}
use Rattle.hash_path.specs.Digits.{word_digits}
use Rattle.test_roots.proofs.outlines.+walk.Given as goal

abbrev pub decreases-walk : goal.decreases-walk
decreases-walk g l = suc word_digits - l.depth
