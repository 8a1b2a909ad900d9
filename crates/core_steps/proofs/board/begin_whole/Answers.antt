use Rattle.std.proofs.Common.{◌++◌, ◌∷◌, [], length, get_or, set, refl, sym, subst, ap, ◌∙◌}
use Rattle.worker_states.specs.WorkerValues.{IsJobOn, board}
use Rattle.core_steps.proofs.Beginnings.{first_state, begun_board, begun_job}
use Rattle.core_steps.proofs.board.begin_whole.Goals as goal

pub returns-clause-first : goal.returns-clause-first
returns-clause-first g c =
    let answers = g.B.Bulk.answers c.args.bulk.now in
    let worker_states = c.args.vacant.now in
    let d = first_state worker_states c.requires.workers in
    let queue = c.push_back_reserved.ensures.items ∙ (λ i. c.requires.empty i ++ c.whole.ensures i ∷ []) in
    let after = c.begin.ensures d ∙ ap (λ q. set worker_states 0 (record (get_or worker_states 0 d) { queue = q })) queue in
    ap board after ∙ begun_board answers c.args.view worker_states (length worker_states) d c.requires.workers refl c.requires.worker_states

pub returns-clause-job : goal.returns-clause-job
returns-clause-job g c =
    let R = g.K.Ord.cmp in
    let path = g.K.PathKey.path_of in
    let answers = g.B.Bulk.answers c.args.bulk.now in
    let worker_states = c.args.vacant.now in
    let d = first_state worker_states c.requires.workers in
    let queue = c.push_back_reserved.ensures.items ∙ (λ i. c.requires.empty i ++ c.whole.ensures i ∷ []) in
    let after = c.begin.ensures d ∙ ap (λ q. set worker_states 0 (record (get_or worker_states 0 d) { queue = q })) queue in
    subst (IsJobOn R path answers c.args.view) (sym after)
    (begun_job R path answers c.args.view worker_states (length worker_states) d c.len.ensures.sorted c.len.ensures.few c.requires.workers refl c.requires.worker_states)
