use Rattle.std.proofs.Common.{◌<◌, length, set, sym, subst}
use Rattle.std.specs.Prelude.{All}
use Rattle.splitter.specs.Cuts.{cut_point}
use Rattle.worker_states.specs.WorkerValues.{HasPieces, Leaves, splitting_move}
use Rattle.worker_states.specs.Views.{move_result}
use Rattle.core_steps.proofs.Takings.{if_ok, split_leaves}
use Rattle.core_steps.proofs.board.Board.split.Goals as goal

pub returns-clause-ok : goal.returns-clause-ok
returns-clause-ok g c =
    let worker_states = c.self.inside.worker_states.items in
    let there = subst (λ ds. c.args.worker < length ds) (sym c.self.view_is) c.requires in
    if_ok _ _ c.split.result
    (λ progress is m all.
    subst (λ ds. Leaves ds (set worker_states c.args.worker c.split.new.self) (move_result progress) (splitting_move (λ i. cut_point g.K.PathKey.path_of m i c.args.grain) ds c.args.worker)) c.self.view_is
    (split_leaves g.K.PathKey.path_of c.args.grain m worker_states c.args.worker c.index_mut.result.now c.split.new.self (move_result progress) there c.index_mut.ensures.value (subst (All (HasPieces m)) (sym c.self.view_is) all) is))
    c.split.ensures.ok
