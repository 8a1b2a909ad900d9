use Rattle.std.proofs.Common.{◌≡◌, Some, sym, subst}
use Rattle.versions.specs.Map.{value_at}
use Rattle.map_session.proofs.steps.made_at.Goals as goal

pub returns-clause-made : goal.returns-clause-made
returns-clause-made g c =
    let old = g.S.ValueSlots.value_of c.in_ok-old.old.now in
    (old, subst (λ (k : g.row.K.Denot). value_at g.K.Ord.cmp c.args.stripe.now.entries k ≡ Some old) c.lend_key.ensures (sym c.in_ok-old.ensures.value), c.answer_in.ensures)
