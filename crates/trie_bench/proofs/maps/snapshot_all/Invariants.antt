use Rattle.std.proofs.Common.{◌≤◌, ◌+◌, ◌*◌, ◌-◌, ◌^◌, length}
use Rattle.trie_bench.proofs.maps.snapshot_all.Given as goal

abbrev pub invariant-loop-key : goal.invariant-loop-key
invariant-loop-key g l = (l.map.stamp ≤ l.source) × (l.source + 2 * (length l.keys - l.key-index) ≤ 2 ^ 63) × (l.key-index ≤ length l.keys)
