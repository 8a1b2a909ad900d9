use Rattle.std.proofs.Common.{Ok, ◌∷◌, [], sym, subst}
use Rattle.std.proofs.lemmas.Result.{IfOk-weaker}
use Rattle.bulk_ops.specs.Meanings.{MayAnswer}
use Rattle.group_counts.specs.Groups.{IsGroups}
use Rattle.group_counts.proofs.Counting.{one_grouped}
use Rattle.group_counts.proofs.try_group_counts.TryGroupCountsBulkIn.one.Goals as goal

pub returns : goal.returns
returns g c =
    let R = g.G.Ord.cmp in
    let gives : g.row.K.Denot → g.row.V.Denot → g.row.G.Denot → Type 0 = λ k v group. MayAnswer g.F.Fn c.args.self.now.group k v (Ok group) in
    let k = (g.S.KeySlots.key_of c.args.key.now) in
    let v = (g.S.ValueSlots.value_of c.args.value.now) in
    IfOk-weaker c.of_one.result _ _ (λ counts is. subst (IsGroups R gives ((k, v) ∷ [])) (sym is) (one_grouped R g.met.G.Ord.total gives k v c.in_ok-group.group c.in_ok-group.ensures)) c.of_one.ensures
