use Rattle.std.proofs.Common.{◌-◌}
use Rattle.hash_path.specs.Digits.{word_digits}
use Rattle.trie_lookups.proofs.way.+find_from.Given as goal

abbrev pub decreases-find_from : goal.decreases-find_from
decreases-find_from g l = word_digits - l.level
