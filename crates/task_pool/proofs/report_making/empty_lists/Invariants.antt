use Rattle.std.proofs.Common.{◌≡◌, [], map, vec_len}
use Rattle.partial_results.specs.Worked.{all_of}
use Rattle.task_pool.proofs.report_making.empty_lists.Given as goal

abbrev pub invariant-loop : goal.invariant-loop
invariant-loop l = (all_of (map (λ x. x.items) l.lists.items) ≡ []) × (vec_len l.lists ≡ l.counter)
