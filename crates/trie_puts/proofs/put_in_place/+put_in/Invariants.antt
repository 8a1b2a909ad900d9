use Rattle.std.proofs.Common.{◌-◌, ◌+◌, ◌*◌}
use Rattle.hash_path.specs.Digits.{word_digits}
use Rattle.trie_puts.proofs.put_in_place.+put_in.Given as goal

abbrev pub decreases-put_in_at : goal.decreases-put_in_at
decreases-put_in_at g l = 6 * (word_digits - l.level) + 5

abbrev pub decreases-put_in_node : goal.decreases-put_in_node
decreases-put_in_node g l = 6 * (word_digits - l.level) + 4

abbrev pub decreases-put_in_row : goal.decreases-put_in_row
decreases-put_in_row g l = 6 * (word_digits - l.level) + 3

abbrev pub decreases-put_in_long_row : goal.decreases-put_in_long_row
decreases-put_in_long_row g l = 6 * (word_digits - l.level) + 2

abbrev pub decreases-put_in_two : goal.decreases-put_in_two
decreases-put_in_two g l = 6 * (word_digits - l.level) + 1

abbrev pub decreases-put_in_four : goal.decreases-put_in_four
decreases-put_in_four g l = 6 * (word_digits - l.level) + 1

abbrev pub decreases-put_in_eight : goal.decreases-put_in_eight
decreases-put_in_eight g l = 6 * (word_digits - l.level) + 1

abbrev pub decreases-put_in_sixteen : goal.decreases-put_in_sixteen
decreases-put_in_sixteen g l = 6 * (word_digits - l.level) + 1

abbrev pub decreases-put_in_all : goal.decreases-put_in_all
decreases-put_in_all g l = 6 * (word_digits - l.level) + 1

abbrev pub decreases-put_in_branch : goal.decreases-put_in_branch
decreases-put_in_branch g l = 6 * (word_digits - l.level)
