use Rattle.std.proofs.Common.{◌≡◌}
use Rattle.trie_lookups.proofs.many.go_down.Given as goal

-- no step changes what a look-up will find
abbrev pub invariant-loop-place : goal.invariant-loop-place
invariant-loop-place g l = l.ways ≡ l.initial.ways
