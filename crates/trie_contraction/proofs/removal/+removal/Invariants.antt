use Rattle.std.proofs.Common.{◌-◌, ◌+◌, ◌*◌}
use Rattle.hash_path.specs.Digits.{word_digits}
use Rattle.trie_contraction.proofs.removal.+removal.Given as goal

abbrev pub decreases-remove_at : goal.decreases-remove_at
decreases-remove_at g l = 2 * (word_digits - l.level) + 1

abbrev pub decreases-remove_below : goal.decreases-remove_below
decreases-remove_below g l = 2 * (word_digits - l.level)
