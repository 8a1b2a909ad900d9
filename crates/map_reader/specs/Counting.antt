-- When a reader tries a new base.
use Rattle.std.specs.Prelude.{ℕ, Bool, ◌+◌, ◌-◌, ◌*◌, ◌/◌, ◌^◌, ◌&&◌, ◌||◌, min, nat_le}
use Rattle.map_reader.specs.declared.counts.Counts.{Counts}

-- the number, but at most the largest of 64 bits
abbrev pub capped : ℕ → ℕ
capped n = min n (2 ^ 64 - 1)

-- the base was worth it: it had sixteen hits for each miss
abbrev pub was_worth_it : Counts → Bool
was_worth_it c = nat_le (16 * c.misses) c.hits

-- the least number of misses for a map of this many pairs
abbrev pub least_for : ℕ → ℕ
least_for pairs = 64 + pairs / 32

-- it is time for a new base: after the least number of misses where the last one was worth it, else after more
abbrev pub is_due : Counts → Bool
is_due c = nat_le c.least c.misses && (was_worth_it c || nat_le (capped (c.least * c.patience)) c.misses)
