use Rattle.std.proofs.Common.{◌-◌}
use Rattle.hash_path.specs.Digits.{word_digits}
use Rattle.trie_copy.proofs.put.+split.Given as goal

abbrev pub decreases-split : goal.decreases-split
decreases-split g l = word_digits - l.level
