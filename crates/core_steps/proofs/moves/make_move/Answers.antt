use Rattle.std.proofs.Common.{◌<◌, length, [], ◌∷◌, sym, subst}
use Rattle.std.specs.Prelude.{All}
use Rattle.std.proofs.lemmas.List.Elements.{All-head, All-tail}
use Rattle.worker_states.specs.Boards.{named_by}
use Rattle.core_steps.specs.Moves.{MovesTo, move_of}
use Rattle.worker_states.specs.Views.{move_result}
use Rattle.core_steps.proofs.MoveSteps.{take_moves, steal_moves, split_moves, work_moves}
use Rattle.core_steps.proofs.Takings.{both_ok, if_ok}
use Rattle.core_steps.proofs.moves.make_move.Goals as goal

pub take-requires : goal.take-requires
take-requires g c =
    let n = length c.args.board.now in
    All-head (λ w. w < n) c.in-Take.worker [] (subst (λ x. All (λ w. w < n) (named_by (move_of x))) c.in-Take.is c.requires.named)

pub steal-requires-clause-thief : goal.steal-requires-clause-thief
steal-requires-clause-thief g c =
    let n = length c.args.board.now in
    All-head (λ w. w < n) c.in-Steal.worker (c.in-Steal.from ∷ []) (subst (λ x. All (λ w. w < n) (named_by (move_of x))) c.in-Steal.is c.requires.named)

pub steal-requires-clause-owner : goal.steal-requires-clause-owner
steal-requires-clause-owner g c =
    let n = length c.args.board.now in
    All-head (λ w. w < n) c.in-Steal.from []
    (All-tail (λ w. w < n) c.in-Steal.worker (c.in-Steal.from ∷ []) (subst (λ x. All (λ w. w < n) (named_by (move_of x))) c.in-Steal.is c.requires.named))

pub split-requires : goal.split-requires
split-requires g c =
    let n = length c.args.board.now in
    All-head (λ w. w < n) c.in-Split.worker [] (subst (λ x. All (λ w. w < n) (named_by (move_of x))) c.in-Split.is c.requires.named)

pub work_on-requires-clause-worker : goal.work_on-requires-clause-worker
work_on-requires-clause-worker g c =
    let n = length c.args.board.now in
    All-head (λ w. w < n) c.in-Work.worker [] (subst (λ x. All (λ w. w < n) (named_by (move_of x))) c.in-Work.is c.requires.named)

pub returns-in-Take-clause-ok : goal.returns-in-Take-clause-ok
returns-in-Take-clause-ok g c = λ m job.
    let R = g.K.Ord.cmp in
    let path = g.K.PathKey.path_of in
    let answers = g.B.Bulk.answers c.args.bulk.now in
    let decides = g.B.Bulk.decides c.args.bulk.now in
    let n = length c.args.board.now in
    let there = All-head (λ w. w < n) c.in-Take.worker [] (subst (λ x. All (λ w. w < n) (named_by (move_of x))) c.in-Take.is c.requires.named) in
    subst (λ x. MovesTo R path answers decides m c.args.grain c.args.board.now (move_of x) (move_result c.take.result) c.take.new.self) (sym c.in-Take.is)
    (take_moves R path answers decides m c.args.grain c.args.board.now c.take.new.self (move_result c.take.result) c.in-Take.worker c.take.ensures
    (c.law_of_jobs.ensures.takes m c.args.board.now c.take.new.self (move_result c.take.result) c.in-Take.worker there c.take.ensures job))

pub returns-in-Steal-clause-ok : goal.returns-in-Steal-clause-ok
returns-in-Steal-clause-ok g c = λ m job.
    let R = g.K.Ord.cmp in
    let path = g.K.PathKey.path_of in
    let answers = g.B.Bulk.answers c.args.bulk.now in
    let decides = g.B.Bulk.decides c.args.bulk.now in
    let n = length c.args.board.now in
    let named = subst (λ x. All (λ w. w < n) (named_by (move_of x))) c.in-Steal.is c.requires.named in
    let there = All-head (λ w. w < n) c.in-Steal.worker (c.in-Steal.from ∷ []) named in
    let other = All-head (λ w. w < n) c.in-Steal.from [] (All-tail (λ w. w < n) c.in-Steal.worker (c.in-Steal.from ∷ []) named) in
    subst (λ x. MovesTo R path answers decides m c.args.grain c.args.board.now (move_of x) (move_result c.steal.result) c.steal.new.self) (sym c.in-Steal.is)
    (steal_moves R path answers decides m c.args.grain c.args.board.now c.steal.new.self (move_result c.steal.result) c.in-Steal.worker c.in-Steal.from c.steal.ensures
    (c.law_of_jobs.ensures.steals m c.args.board.now c.steal.new.self (move_result c.steal.result) c.in-Steal.worker c.in-Steal.from there other c.steal.ensures job))

pub returns-in-Split-clause-ok : goal.returns-in-Split-clause-ok
returns-in-Split-clause-ok g c =
    let R = g.K.Ord.cmp in
    let path = g.K.PathKey.path_of in
    let answers = g.B.Bulk.answers c.args.bulk.now in
    let decides = g.B.Bulk.decides c.args.bulk.now in
    let n = length c.args.board.now in
    let there = All-head (λ w. w < n) c.in-Split.worker [] (subst (λ x. All (λ w. w < n) (named_by (move_of x))) c.in-Split.is c.requires.named) in
    if_ok _ _ c.split.result
    (λ progress leaves m job.
    let left = leaves m job.pieces in
    subst (λ x. MovesTo R path answers decides m c.args.grain c.args.board.now (move_of x) (move_result progress) c.split.new.self) (sym c.in-Split.is)
    (split_moves R path answers decides m c.args.grain c.args.board.now c.split.new.self (move_result progress) c.in-Split.worker left
    (c.law_of_jobs.ensures.splits m c.args.grain c.args.board.now c.split.new.self (move_result progress) c.in-Split.worker there left job)))
    c.split.ensures.ok

pub returns-in-Work-clause-ok : goal.returns-in-Work-clause-ok
returns-in-Work-clause-ok g c =
    let R = g.K.Ord.cmp in
    let path = g.K.PathKey.path_of in
    let answers = g.B.Bulk.answers c.args.bulk.now in
    let decides = g.B.Bulk.decides c.args.bulk.now in
    let n = length c.args.board.now in
    let there = All-head (λ w. w < n) c.in-Work.worker [] (subst (λ x. All (λ w. w < n) (named_by (move_of x))) c.in-Work.is c.requires.named) in
    if_ok _ _ c.work_on.result
    (λ progress both m job.
    let done = both.0 m job in
    subst (λ x. MovesTo R path answers decides m c.args.grain c.args.board.now (move_of x) (move_result progress) c.work_on.new.board) (sym c.in-Work.is)
    (work_moves R path answers decides m c.args.grain c.args.board.now c.work_on.new.board (move_result progress) c.in-Work.worker done both.1
    (c.law_of_jobs.ensures.works m c.args.board.now c.work_on.new.board (move_result progress) c.in-Work.worker there done job)))
    (both_ok _ _ c.work_on.result c.work_on.ensures.ok c.work_on.ensures.parts)
