use Rattle.std.proofs.Common.{ap, map, ◌∙◌}
use Rattle.std.specs.Sync.Mutex.{mutex_guard_value}
use Rattle.stripes.proofs.Lending.{digits_more, each_snoc}
use Rattle.stripes.proofs.stripes.Stripes.all_marked.Goals as goal

pub loop-digit-preserved : goal.loop-digit-preserved
loop-digit-preserved g c =
    let held = c.loop-digit.held.items in
    digits_more (map mutex_guard_value held) (map mutex_guard_value c.in_ok-held-2.held.items) (mutex_guard_value c.in_ok-marked.field-0) c.loop-digit.digit
    (ap (map mutex_guard_value) c.in_ok-held-2.ensures ∙ each_snoc mutex_guard_value held c.in_ok-marked.field-0) c.loop-digit.invariant c.in_ok-marked.ensures
