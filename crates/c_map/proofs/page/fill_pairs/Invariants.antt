use Rattle.std.proofs.Common.{◌≡◌, ◌≤◌, take, map}
use Rattle.trie_shape.specs.View.{pair_values}
use Rattle.c_map.specs.Fillings.{filled}
use Rattle.c_map.specs.Pages.{spelled}
use Rattle.c_map.proofs.page.fill_pairs.Given as goal

-- the page with the pairs so far
abbrev pub invariant-loop-pair : goal.invariant-loop-pair
invariant-loop-pair g l = record {
  filled : (l.at, l.buffer) ≡ filled (spelled g.V.Shown.number g.V.Shown.bytes) (l.initial.at, l.initial.buffer) (map pair_values (take l.pair-index l.pairs));
  few : l.at.pairs ≤ l.at.used;
}
