use Rattle.core_steps.proofs.Wholes.{job_tiles}
use Rattle.core_steps.specs.Cores.{board_of, frozen_map}
use Rattle.worker_states.specs.Boards.{all_worked}
use Rattle.core_steps.proofs.laws.law_of_tilings.Goals as goal

pub returns : goal.returns
returns g c = record {
  tile = λ s j is there. job_tiles s j is there;
  whole = λ s j tile. c.parts_follow_intervals.ensures.whole (frozen_map s j) (all_worked (board_of s j)) tile;
}
