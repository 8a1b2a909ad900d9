use Rattle.std.proofs.Common.{◌<◌, ◌^◌, arith}
use Rattle.std.proofs.lemmas.Nat.Bits.{bit_at-trailing_zeros}
use Rattle.std.specs.Int.{trailing_zeros, w32}
use Rattle.hash_path.specs.Digits.{fan_out}
use Rattle.trie_filter.proofs.LowDigits.{digits_lowest}
use Rattle.trie_filter.proofs.bitmaps.lowest_digit.Goals as goal

pub returns-clause-first : goal.returns-clause-first
returns-clause-first c =
    let m = c.args.bitmap in
    let small : m < 2 ^ fan_out = omega (arith, c.ranges.bitmap) in
    let lowest = bit_at-trailing_zeros w32 m c.requires small in
    digits_lowest m (trailing_zeros w32 m) small lowest.0 lowest.1 lowest.2
