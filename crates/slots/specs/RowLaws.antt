-- Where keys and values take little room, each row of nodes has a size.
use Rattle.std.proofs.Common.{ℕ, ◌+◌, ◌-◌, ◌%◌, ◌<◌, ◌≤◌, arith}
use Rattle.std.proofs.lemmas.Nat.{mod_below}
use prog.Memory.{size, up}
use prog.Align.{align_pos}
use denote.Memory.{lone}
use denote.RattleType.{RattleType}
use Rattle.slots.specs.Small.{IsSmall}
use Rattle.slots.specs.Rows.{key_align, value_align, pair_align, parts_end, leaf_end, node_align, node_size, RowsFit}
use Prim.Native.Nat.{max}

up_most : (k e : ℕ) → 0 < k → up k e ≤ e + k
up_most k e h = omega (arith, mod_below (k - e % k) k h)

module _ (K V : RattleType) (k : IsSmall K) (v : IsSmall V) where
  pair_small : (pair_align K V ≤ 16) × (0 < pair_align K V)
  pair_small = (omega (arith, k.1, v.1), omega arith)

  parts_small : parts_end K V ≤ 160
  parts_small = omega (arith, k.0, k.1, v.0, v.1, up_most (key_align K V) 0 (align_pos (lone K.mir)), up_most (value_align K V) (up (key_align K V) 0 + size (lone K.mir)) (align_pos (lone V.mir)))

  leaf_small : leaf_end K V ≤ 208
  leaf_small = omega (arith, parts_small, pair_small.0, up_most (pair_align K V) 16 pair_small.1, up_most (pair_align K V) (parts_end K V) pair_small.1)

  align_small : (node_align K V ≤ 16) × (0 < node_align K V)
  align_small = (omega (arith, pair_small.0), omega arith)

  node_small : node_size K V ≤ 224
  node_small = omega (arith, leaf_small, align_small.0, up_most (node_align K V) (max 1 (max (leaf_end K V) 32)) align_small.1)

  pub rows_fit : RowsFit K V
  rows_fit = (omega (arith, node_small), omega (arith, node_small), omega (arith, node_small), omega (arith, node_small), omega (arith, node_small))
