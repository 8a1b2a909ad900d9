use Rattle.std.proofs.Common.{◌<◌, length, set, sym, subst}
use Rattle.worker_states.specs.WorkerValues.{Leaves, taking_move}
use Rattle.worker_states.specs.Views.{move_result}
use Rattle.core_steps.proofs.Takings.{take_leaves}
use Rattle.core_steps.proofs.board.Board.take.Goals as goal

pub returns : goal.returns
returns g c =
    let worker_states = c.self.inside.worker_states.items in
    let after = set worker_states c.args.worker c.take.new.self in
    let there = subst (λ ds. c.args.worker < length ds) (sym c.self.view_is) c.requires in
    subst (λ ds. Leaves ds after (move_result c.take.result) (taking_move ds c.args.worker)) c.self.view_is
    (take_leaves worker_states c.args.worker c.index_mut.result.now c.take.new.self (move_result c.take.result) there c.index_mut.ensures.value c.take.ensures)
