-- A row of nodes has a size, whatever keys and values lie in its leaves.
use Rattle.std.specs.Prelude.{ℕ, ◌+◌, ◌*◌, ◌^◌, ◌<◌}
use Prim.Native.Nat.{max}
use prog.Memory.{size, align, up}
use denote.Memory.{lone}
use denote.RattleType.{RattleType}

-- K and V are what lies in a row for a key and for a value
module _ (K V : RattleType) where
  abbrev pub key_align : ℕ
  key_align = align (lone K.mir)

  abbrev pub value_align : ℕ
  value_align = align (lone V.mir)

  abbrev pub pair_align : ℕ
  pair_align = max key_align (max value_align 1)

  abbrev pub parts_end : ℕ
  parts_end = up value_align (up key_align 0 + size (lone K.mir)) + size (lone V.mir)

  -- a leaf is a stamp and a pair
  abbrev pub leaf_end : ℕ
  leaf_end = up pair_align 16 + up pair_align parts_end

  abbrev pub node_align : ℕ
  node_align = max 1 (max (max 8 (max pair_align 1)) 8)

  -- a node is a leaf, or a branch of 32 bytes
  abbrev pub node_size : ℕ
  node_size = up node_align (max 1 (max leaf_end 32))

  -- rows have 2, 4, 8, 16 or 32 places
  abbrev pub RowsFit : Type 0
  RowsFit = (2 * node_size < 2 ^ 63) × (4 * node_size < 2 ^ 63) × (8 * node_size < 2 ^ 63) × (16 * node_size < 2 ^ 63) × (32 * node_size < 2 ^ 63)
