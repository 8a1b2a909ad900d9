use Rattle.std.proofs.Common.{◌-◌}
use Rattle.hash_path.specs.Digits.{fan_out}
use Rattle.stripes.proofs.stripes.Stripes.+moment_from.Given as goal

abbrev pub decreases-moment_from : goal.decreases-moment_from
decreases-moment_from g l = fan_out - l.digit
