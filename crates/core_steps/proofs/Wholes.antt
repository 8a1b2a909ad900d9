-- What an open job has in a core.
use Rattle.std.proofs.Common.{◌≡◌, ℕ, [], true, is_some, ◌∙◌}
use Rattle.std.specs.Prelude.{◌↔◌}
use Rattle.std.specs.Ordering.{nat_cmp}
use Rattle.versions.specs.Map.{value_at}
use Rattle.handles.specs.Machine.{job_at}
use Rattle.iter.specs.Intervals.{whole, Tile}
use Rattle.worker_states.specs.Boards.{all_worked}
use Rattle.core_steps.specs.Cores.{CoreState, board_of}
use Rattle.core_steps.specs.Invariants.{IsBoard, IsCore, waiting}
use Rattle.core_steps.proofs.KeptCores.{its_board}
use Rattle.core_steps.proofs.Tilings.{worked_tile}

-- the worked intervals of an open job tile exactly where nothing waits
pub job_tiles : {K V Q : Type 0} (s : CoreState K V Q) (j : ℕ) → IsCore s → is_some (job_at s.machine j) ≡ true → Tile (all_worked (board_of s j)) whole ↔ (waiting (board_of s j) ≡ [])
job_tiles s j is there = worked_tile s.workers (board_of s j) (its_board (IsBoard s.workers) (value_at nat_cmp s.boards j) (is.matches j ∙ there) (is.boards j))
