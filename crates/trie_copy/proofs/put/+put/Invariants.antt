use Rattle.std.proofs.Common.{◌-◌, ◌+◌, ◌*◌}
use Rattle.hash_path.specs.Digits.{word_digits}
use Rattle.trie_copy.proofs.put.+put.Given as goal

abbrev pub decreases-put_at : goal.decreases-put_at
decreases-put_at g l = 2 * (word_digits - l.level) + 1

abbrev pub decreases-put_below : goal.decreases-put_below
decreases-put_below g l = 2 * (word_digits - l.level)
