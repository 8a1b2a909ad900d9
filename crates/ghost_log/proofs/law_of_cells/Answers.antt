use Rattle.ghost_log.proofs.Counting.{cell_raised, length_raised}
use Rattle.ghost_log.proofs.law_of_cells.Goals as goal

pub returns-clause-cells : goal.returns-clause-cells
returns-clause-cells c = cell_raised

pub returns-clause-count : goal.returns-clause-count
returns-clause-count c = length_raised
