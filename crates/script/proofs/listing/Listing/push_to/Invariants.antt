use Rattle.std.proofs.Common.{◌≡◌, ◌++◌}
use Rattle.std.specs.Prelude.{flat_map}
use Rattle.script.specs.Replies.{pair_text}
use Rattle.script.proofs.listing.Listing.push_to.Given as goal

-- the pairs that are left go behind those so far
abbrev pub invariant-loop-key : goal.invariant-loop-key
invariant-loop-key l = l.out.items ++ flat_map pair_text l.key-iterator ≡ l.initial.out.items ++ flat_map pair_text l.self
