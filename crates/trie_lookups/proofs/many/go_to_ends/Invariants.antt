use Rattle.std.proofs.Common.{◌≡◌}
use Rattle.trie_lookups.proofs.many.go_to_ends.Given as goal

abbrev pub invariant-loop : goal.invariant-loop
invariant-loop g l = l.ways ≡ l.initial.ways
