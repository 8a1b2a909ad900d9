use Rattle.std.proofs.Common.{◌≡◌, ◌-◌, ◌<◌, length, get_or}
use Rattle.hash_path.specs.Digits.{fan_out}
use Rattle.trie_shape.specs.Tree.{digits_of, digits_from}
use Rattle.splitter.proofs.digits.nth_digit.Given as goal

-- the digit of a number is that of what is left of the number, among what is left of the bitmap
abbrev pub invariant-loop-digit : goal.invariant-loop-digit
invariant-loop-digit l = record {
  same : get_or (digits_of l.bitmap) l.n 0 ≡ get_or (digits_from (fan_out - l.digit) l.digit l.rest) l.left 0;
  within : l.left < length (digits_from (fan_out - l.digit) l.digit l.rest);
}
