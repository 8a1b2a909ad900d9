use Rattle.std.proofs.Common.{◌≡◌}
use Rattle.hash_path.specs.Digits.{word_bits}
use Rattle.hash_path.proofs.Positions.{placed}
use Rattle.hash_path.proofs.word.position_of.Given as goal

-- so far the digits below the level are counted
abbrev pub invariant-loop-level : goal.invariant-loop-level
invariant-loop-level l = l.position ≡ placed word_bits l.level l.word
