use Rattle.ruled_deques.proofs.Drains.{drain_ends, drain_next}
use Rattle.crossbeam_deque.specs.Handles.{worker_view}
use Rattle.std.proofs.Common.{◌∷◌, [], ◌++◌, ap, ◌∙◌}
use Rattle.ruled_deques.proofs.closing.drain.Goals as goal

pub loop-preserved : goal.loop-preserved
loop-preserved g c =
    drain_next (worker_view c.loop.own.owner) (worker_view c.pop.new.self.owner) (worker_view c.args.own.now.owner) c.args.rest.now.items c.loop.rest.items c.push_reserved.new.self.items c.in-Some.item
    c.in-Some.ensures.did (c.push_reserved.ensures.items ∙ ap (λ xs. xs ++ c.in-Some.item ∷ []) c.in_ok-reserve.ensures.items) c.loop.invariant

pub returns-in-None : goal.returns-in-None
returns-in-None g c =
    drain_ends (worker_view c.loop.own.owner) (worker_view c.pop.new.self.owner) (worker_view c.args.own.now.owner) c.args.rest.now.items c.loop.rest.items c.reserve.new.self.items
    c.in-None.ensures.did.0 c.in-None.ensures.did.1 c.in_ok-reserve.ensures.items c.loop.invariant
