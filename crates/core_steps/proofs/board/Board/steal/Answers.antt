use Rattle.std.proofs.Common.{◌≡◌, ◌<◌, length, set, sym, subst, ap, ◌∙◌, is_none, true, arith}
use Rattle.worker_states.specs.WorkerValues.{Leaves, stealing_move}
use Rattle.worker_states.specs.Views.{move_result}
use Rattle.core_steps.proofs.Takings.{steal_leaves}
use Rattle.core_steps.proofs.board.Board.steal.Goals as goal

pub returns-in-Some : goal.returns-in-Some
returns-in-Some g c =
    let worker_states = c.self.inside.worker_states.items in
    let after = set (set worker_states c.args.from c.oldest.new.self) c.args.worker c.hold.new.self in
    let there = subst (λ ds. c.args.worker < length ds) (sym c.self.view_is) c.requires.thief in
    let other = subst (λ ds. c.args.from < length ds) (sym c.self.view_is) c.requires.owner in
    let free : is_none (c.index.result.now).held ≡ true = grind arith in
    subst (λ ds. Leaves ds after (move_result c.hold.result) (stealing_move ds c.args.worker c.args.from)) c.self.view_is
    (steal_leaves worker_states c.args.worker c.args.from c.index.result.now c.index_mut.result.now c.oldest.new.self c.index_mut-in-Some.result.now c.hold.new.self c.in-Some.piece (move_result c.hold.result)
    there other c.index.ensures free c.index_mut.ensures.value (sym c.oldest.ensures.piece ∙ c.in-Some.is) c.oldest.ensures.left c.index_mut-in-Some.ensures.value c.hold.ensures.held (ap move_result c.hold.ensures.told))
