use Rattle.std.proofs.lemmas.Result.{IfOk-weaker}
use Rattle.bounded_map.proofs.bounded_map.BoundedMap.retain.Goals as goal

pub returns : goal.returns
returns g c = record {
  few = IfOk-weaker c.remove_all_failing.result _ _ (λ removed few. (c.in_ok-view.view, c.in_ok-view.ensures, few)) c.remove_all_failing.ensures.few;
}
