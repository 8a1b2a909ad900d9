use Rattle.std.proofs.Common.{◌-◌, ◌+◌, ◌*◌}
use Rattle.hash_path.specs.Digits.{word_digits}
use Rattle.trie_removals.proofs.removal_in_place.+remove_in.Given as goal

abbrev pub decreases-remove_in_at : goal.decreases-remove_in_at
decreases-remove_in_at g l = 6 * (word_digits - l.level) + 5

abbrev pub decreases-remove_in_node : goal.decreases-remove_in_node
decreases-remove_in_node g l = 6 * (word_digits - l.level) + 4

abbrev pub decreases-remove_in_row : goal.decreases-remove_in_row
decreases-remove_in_row g l = 6 * (word_digits - l.level) + 3

abbrev pub decreases-remove_in_long_row : goal.decreases-remove_in_long_row
decreases-remove_in_long_row g l = 6 * (word_digits - l.level) + 2

abbrev pub decreases-remove_in_two : goal.decreases-remove_in_two
decreases-remove_in_two g l = 6 * (word_digits - l.level) + 1

abbrev pub decreases-remove_in_four : goal.decreases-remove_in_four
decreases-remove_in_four g l = 6 * (word_digits - l.level) + 1

abbrev pub decreases-remove_in_eight : goal.decreases-remove_in_eight
decreases-remove_in_eight g l = 6 * (word_digits - l.level) + 1

abbrev pub decreases-remove_in_sixteen : goal.decreases-remove_in_sixteen
decreases-remove_in_sixteen g l = 6 * (word_digits - l.level) + 1

abbrev pub decreases-remove_in_all : goal.decreases-remove_in_all
decreases-remove_in_all g l = 6 * (word_digits - l.level) + 1

abbrev pub decreases-remove_in_branch : goal.decreases-remove_in_branch
decreases-remove_in_branch g l = 6 * (word_digits - l.level)
