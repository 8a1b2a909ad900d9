-- What is true of every core that its steps lead to.
use Rattle.std.specs.Prelude.{◌≡◌, ℕ, ◌<◌, ◌≤◌, nat_lt, cond, List, ◌++◌, length, sum_by, flat_map, option_to_list, true, is_some, IfSome}
use Rattle.std.specs.Ordering.{nat_cmp}
use Rattle.versions.specs.Map.{value_at}
use Rattle.handles.specs.Machine.{job_at}
use Rattle.iter.specs.declared.interval.Interval.{Interval}
use Rattle.iter.specs.Intervals.{whole, Tile}
use Rattle.worker_states.specs.Boards.{Worker, Board, intervals}
use Rattle.core_steps.specs.Cores.{CoreState}

-- 1 where an interval has no position
abbrev pub emptiness : Interval → ℕ
emptiness i = cond (nat_lt i.lo i.hi) 0 1

-- a board of this many workers, whose intervals tile all positions, and none of which is empty
pub record IsBoard (workers : ℕ) (b : Board) : Type 0 where
  pub long : length b ≡ workers
  pub tile : Tile (intervals b) whole
  pub filled : sum_by emptiness (intervals b) ≡ 0

-- a core has a board for each open job, and no others
pub record IsCore {K V Q : Type 0} (s : CoreState K V Q) : Type 0 where
  pub some : 1 ≤ s.workers
  pub matches : (j : ℕ) → is_some (value_at nat_cmp s.boards j) ≡ is_some (job_at s.machine j)
  pub numbers : (j : ℕ) → is_some (job_at s.machine j) ≡ true → j < s.machine.next
  pub boards : (j : ℕ) → IfSome (value_at nat_cmp s.boards j) (IsBoard s.workers)

-- what waits in a worker's queue, or is held
abbrev pub waiting_of : Worker → List Interval
waiting_of x = x.queue ++ option_to_list x.held

-- what waits or is held on a board
abbrev pub waiting : Board → List Interval
waiting b = flat_map waiting_of b
