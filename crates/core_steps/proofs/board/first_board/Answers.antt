use Rattle.std.proofs.Common.{ap, ◌∙◌}
use Rattle.worker_states.specs.Boards.{first_board}
use Rattle.core_steps.proofs.board.first_board.Goals as goal

pub returns-clause-first : goal.returns-clause-first
returns-clause-first g c = c.begin_whole.ensures.first ∙ ap first_board c.in-Ok.ensures.count
