use Rattle.iter.proofs.Tiling.{cut_tiles, cover_append}
use Rattle.iter.proofs.laws.intervals_tile.Goals as goal

pub returns : goal.returns
returns c = record { cut = cut_tiles; added = cover_append }
