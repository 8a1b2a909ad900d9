use Rattle.std.proofs.Common.{◌≡◌, ◌≤◌, ◌∷◌, [], length, sym, subst, ap, ◌∙◌, arith}
use Rattle.bulk_ops.specs.Meanings.{MayAnswer}
use Rattle.top_pairs.specs.Ranks.{Falls, IsTop, Listed, pair_of}
use Rattle.top_pairs.specs.Merges.{highest}
use Rattle.top_pairs.proofs.Tops.{one_top}
use Rattle.top_pairs.proofs.top_pairs.TopPairsBulkIn.one.Goals as goal

pub returns : goal.returns
returns g c =
    let R = g.N.Ord.cmp in
    let most = c.args.self.now.most in
    let gives = MayAnswer g.F.Fn c.args.self.now.score in
    let x : Listed g.row.K.Denot g.row.V.Denot g.row.N.Denot = record { score = c.answer_in.result; key = (g.S.KeySlots.key_of c.args.key.now); value = (g.S.ValueSlots.value_of c.args.value.now) } in
    let listed : c.offer.new.self ≡ highest R most c.none-listed.result (x ∷ []) =
    c.in_ok-offer.ensures.added (subst (Falls R) (sym c.none-listed.ensures) tt) (subst (λ l. length l ≤ most) (sym c.none-listed.ensures) (omega arith)) in
    subst (IsTop R most gives (pair_of x ∷ [])) (sym (listed ∙ ap (λ l. highest R most l (x ∷ [])) c.none-listed.ensures)) (one_top R gives most x c.answer_in.ensures)
