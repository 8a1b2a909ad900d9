use Rattle.std.proofs.Common.{◌<◌, length, set, sym, subst}
use Rattle.worker_states.specs.WorkerValues.{IsJobOn, Works, state_parts}
use Rattle.worker_states.specs.Boards.{working}
use Rattle.core_steps.specs.Parts.{PartsMove}
use Rattle.worker_states.specs.Views.{move_result}
use Rattle.core_steps.proofs.Takings.{if_ok}
use Rattle.worker_states.proofs.Workings.{can_work, works_on, works_parts}
use Rattle.core_steps.proofs.board.work_on.Goals as goal

pub work_held-requires-clause-map : goal.work_held-requires-clause-map
work_held-requires-clause-map g c =
    let R = g.K.Ord.cmp in
    let path = g.K.PathKey.path_of in
    let answers = g.B.Bulk.answers c.args.bulk.now in
    let worker_states = c.board.inside.worker_states.items in
    let m = c.requires.job.0 in
    let there = subst (λ ds. c.args.worker < length ds) (sym c.board.view_is) c.requires.worker in
    let job = subst (IsJobOn R path answers m) (sym c.board.view_is) c.requires.job.1 in
    (m, can_work R path answers m worker_states c.args.worker c.index_mut.result.now there c.index_mut.ensures.value job)

pub returns-clause-parts : goal.returns-clause-parts
returns-clause-parts g c =
    let R = g.K.Ord.cmp in
    let path = g.K.PathKey.path_of in
    let answers = g.B.Bulk.answers c.args.bulk.now in
    let decides = g.B.Bulk.decides c.args.bulk.now in
    let worker_states = c.board.inside.worker_states.items in
    let worker_state = c.index_mut.result.now in
    let m = c.requires.job.0 in
    let there = subst (λ ds. c.args.worker < length ds) (sym c.board.view_is) c.requires.worker in
    let job = subst (IsJobOn R path answers m) (sym c.board.view_is) c.requires.job.1 in
    let after = set worker_states c.args.worker c.work_held.new.worker_state in
    if_ok _ _ c.work_held.result
    (λ progress works.
    subst (λ ds. PartsMove (state_parts ds) (working c.args.worker) (move_result progress) (state_parts after)) c.board.view_is
    (works_parts R path answers m decides worker_states c.args.worker worker_state c.work_held.new.worker_state (move_result progress) c.index_mut.ensures.value
    (works m (can_work R path answers m worker_states c.args.worker worker_state there c.index_mut.ensures.value job))))
    c.work_held.ensures.ok

pub returns-clause-ok : goal.returns-clause-ok
returns-clause-ok g c =
    let R = g.K.Ord.cmp in
    let path = g.K.PathKey.path_of in
    let answers = g.B.Bulk.answers c.args.bulk.now in
    let decides = g.B.Bulk.decides c.args.bulk.now in
    let worker_states = c.board.inside.worker_states.items in
    let worker_state = c.index_mut.result.now in
    let there = subst (λ ds. c.args.worker < length ds) (sym c.board.view_is) c.requires.worker in
    let after = set worker_states c.args.worker c.work_held.new.worker_state in
    if_ok _ _ c.work_held.result
    (λ progress works m given.
    let job = subst (IsJobOn R path answers m) (sym c.board.view_is) given in
    subst (λ ds. Works R path answers m decides ds c.args.worker (move_result progress) after) c.board.view_is
    (works_on R path answers m decides worker_states c.args.worker worker_state c.work_held.new.worker_state (move_result progress) there c.index_mut.ensures.value job
    (works m (can_work R path answers m worker_states c.args.worker worker_state there c.index_mut.ensures.value job))))
    c.work_held.ensures.ok
