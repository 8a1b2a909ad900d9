use Rattle.std.proofs.Common.{◌-◌, ◌+◌, ◌*◌}
use Rattle.hash_path.specs.Digits.{word_digits}
use Rattle.trie_puts.proofs.exchange.+exchange.Given as goal

abbrev pub decreases-exchange_at : goal.decreases-exchange_at
decreases-exchange_at g l = 5 * (word_digits - l.level) + 4

abbrev pub decreases-exchange_in_row : goal.decreases-exchange_in_row
decreases-exchange_in_row g l = 5 * (word_digits - l.level) + 3

abbrev pub decreases-exchange_in_long_row : goal.decreases-exchange_in_long_row
decreases-exchange_in_long_row g l = 5 * (word_digits - l.level) + 2

abbrev pub decreases-exchange_in_two : goal.decreases-exchange_in_two
decreases-exchange_in_two g l = 5 * (word_digits - l.level) + 1

abbrev pub decreases-exchange_in_four : goal.decreases-exchange_in_four
decreases-exchange_in_four g l = 5 * (word_digits - l.level) + 1

abbrev pub decreases-exchange_in_eight : goal.decreases-exchange_in_eight
decreases-exchange_in_eight g l = 5 * (word_digits - l.level) + 1

abbrev pub decreases-exchange_in_sixteen : goal.decreases-exchange_in_sixteen
decreases-exchange_in_sixteen g l = 5 * (word_digits - l.level) + 1

abbrev pub decreases-exchange_in_all : goal.decreases-exchange_in_all
decreases-exchange_in_all g l = 5 * (word_digits - l.level) + 1

abbrev pub decreases-exchange_below : goal.decreases-exchange_below
decreases-exchange_below g l = 5 * (word_digits - l.level)
