use Rattle.std.proofs.Common.{◌-◌}
use Rattle.hash_path.specs.Digits.{fan_out}
use Rattle.stripes.proofs.stripes.Stripes.+len_from.Given as goal

abbrev pub decreases-len_from : goal.decreases-len_from
decreases-len_from g l = fan_out - l.digit
