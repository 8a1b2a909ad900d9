use denote.Param.{param}
use denote.Param.Send.{param_send, arg_send}
use denote.Exit.{no}
use denote.Ref.{NamedLft}
use mir.Syntax.{named}
use Rattle.task_pool.proofs.Crossing.{came_send, worker_send}
use Rattle.std.proofs.Common.{rules, ◌<◌, length, slice_index_or, ◌∙◌, vec_len, arith}
use Rattle.task_pool.proofs.Asked.{all_asked}
use Rattle.task_pool.proofs.Places.{ifok_map, first_of}
use Rattle.task_pool.proofs.threads.run_workers.Goals as goal

pub returns-clause-each : goal.returns-clause-each
returns-clause-each g c = λ i d lt.
    let len = c.in_ok-done.ensures.len in
    let lt' : i < length c.args.workers.items = search rules in
    let lt'' : i < vec_len c.args.workers = search rules in
    let job = first_of c.args.workers.items i lt' in
    ifok_map (slice_index_or c.in_ok-done.done.items i d) _ _ (λ w e. e.0 ∙ c.requires.places i job lt') (c.in_ok-done.ensures.each i job d lt'')

pub returns-clause-asked : goal.returns-clause-asked
returns-clause-asked g c = λ i d lt.
    let Asked = g.G.Gate.asked c.args.shared.now.gate.now in
    let len = c.in_ok-done.ensures.len in
    let lt' : i < length c.args.workers.items = search rules in
    let lt'' : i < vec_len c.args.workers = search rules in
    let job = first_of c.args.workers.items i lt' in
    ifok_map (slice_index_or c.in_ok-done.done.items i d) _ _ (λ w e. all_asked Asked _ i _ w.state.partial (c.requires.places i job lt') (omega (arith, lt', c.requires.few)) (c.requires.fresh i job lt') e.1) (c.in_ok-done.ensures.each i job d lt'')

pub map_vec-requires-send-W-Job : goal.map_vec-requires-send-W-Job
map_vec-requires-send-W-Job g c κs within =
    let b = c.type_bounds in
    let worked : NamedLft = record { mir = named 8; lft = κs.1.1.1.1.1.1.1.1.0 } in
    param_send 2 _ (arg_send _ no _ (worker_send (param 0 g.row.C) (param 1 g.row.K) (param 2 g.row.V) (param 3 g.row.S) (param 4 g.row.B) (param 8 g.row.S-Key) (param 9 g.row.S-Value) (param 10 g.row.B-Part) (param 5 g.row.D) g.C.OfView g.K.PathKey g.K.Ord g.K.PartialEq g.K.PartialOrd g.K.Eq g.S.KeySlots g.S.ValueSlots g.D.Deques worked g.C.OfBulk g.B.BulkIn b.send-C b.send-K b.send-V b.send-S-Key b.sync-S-Key b.send-S-Value b.sync-S-Value b.sync-B b.send-B-Part b.send-D))

pub map_vec-requires-send-W-Out : goal.map_vec-requires-send-W-Out
map_vec-requires-send-W-Out g c κs within =
    let b = c.type_bounds in
    let worked : NamedLft = record { mir = named 8; lft = κs.1.1.1.1.1.1.1.1.0 } in
    param_send 3 _ (arg_send _ no _ (came_send _ (worker_send (param 0 g.row.C) (param 1 g.row.K) (param 2 g.row.V) (param 3 g.row.S) (param 4 g.row.B) (param 8 g.row.S-Key) (param 9 g.row.S-Value) (param 10 g.row.B-Part) (param 5 g.row.D) g.C.OfView g.K.PathKey g.K.Ord g.K.PartialEq g.K.PartialOrd g.K.Eq g.S.KeySlots g.S.ValueSlots g.D.Deques worked g.C.OfBulk g.B.BulkIn b.send-C b.send-K b.send-V b.send-S-Key b.sync-S-Key b.send-S-Value b.sync-S-Value b.sync-B b.send-B-Part b.send-D)))
