use Rattle.std.proofs.Common.{◌-◌}
use Rattle.hash_path.specs.Digits.{fan_out}
use Rattle.stripes.proofs.stripes.Stripes.+count_from.Given as goal

abbrev pub decreases-count_from : goal.decreases-count_from
decreases-count_from g l = fan_out - l.digit
