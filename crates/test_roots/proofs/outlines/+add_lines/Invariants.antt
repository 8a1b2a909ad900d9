use Rattle.std.proofs.Common.{◌-◌}
use Rattle.hash_path.specs.Digits.{word_digits}
use Rattle.test_roots.proofs.outlines.+add_lines.Given as goal

abbrev pub decreases-add_lines : goal.decreases-add_lines
decreases-add_lines l = word_digits - l.depth
