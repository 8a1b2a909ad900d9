use Rattle.std.proofs.Common.{◌<◌, get_or, length, arith, ap, ◌∙◌}
use Rattle.std.specs.Sync.Mutex.{mutex_guard_value}
use Rattle.stripe.specs.Contents.{Content}
use Rattle.stripes.proofs.Lending.{copied}
use Rattle.stripes.proofs.stripes.forks.Goals as goal

pub loop-stripe-preserved : goal.loop-stripe-preserved
loop-stripe-preserved g c =
    let guards = c.args.held.now.items in
    let i = c.loop-stripe.stripe-index in
    let lt : i < length guards = omega (arith, c.loop-stripe-test.true, c.deref-stripe-items.ensures.len) in
    let next = c.deref.ensures ∙ ap mutex_guard_value (c.stripe-item.is ∙ ap (λ gs. get_or gs i c.stripe-item.result) c.deref-stripe-items.ensures.value) in
    let all = c.push.new.self.items in
    let copies = c.loop-stripe.copies.items in
    record {
      digits = copied mutex_guard_value (λ (s : Content _ _). s.digit) guards copies all c.in_ok-fork.field-0 i c.stripe-item.result lt c.in_ok-push.ensures.items c.loop-stripe.invariant.digits (c.in_ok-fork.ensures.digit ∙ ap (λ (s : Content _ _). s.digit) next);
      maps = copied mutex_guard_value (λ (s : Content _ _). s.entries) guards copies all c.in_ok-fork.field-0 i c.stripe-item.result lt c.in_ok-push.ensures.items c.loop-stripe.invariant.maps (c.in_ok-fork.ensures.entries ∙ ap (λ (s : Content _ _). s.entries) next);
    }
