use Rattle.std.proofs.Common.{◌≤◌, length, sym, subst, arith}
use Rattle.std.proofs.lemmas.Result.{on_ok_weaker}
use Rattle.std.proofs.Math.Nat.{min-le_left}
use Rattle.versions.specs.Map.{with_pair}
use Rattle.bulk_ops.specs.Meanings.{MayAnswer}
use Rattle.top_pairs.specs.Ranks.{IsTop, Listed}
use Rattle.top_pairs.proofs.Tops.{added_top}
use Rattle.top_pairs.proofs.top_pairs.TopPairsBulkIn.add.Goals as goal

pub returns-clause-added : goal.returns-clause-added
returns-clause-added g c =
    let R = g.N.Ord.cmp in
    let C = g.K.Ord.cmp in
    let most = c.args.self.now.most in
    let gives = MayAnswer g.F.Fn c.args.self.now.score in
    let x : Listed g.row.K.Denot g.row.V.Denot g.row.N.Denot = record { score = c.answer_in.result; key = (g.S.KeySlots.key_of c.args.key.now); value = (g.S.ValueSlots.value_of c.args.value.now) } in
    on_ok_weaker c.offer.result
    (λ new m t apart.
    let few : length c.args.part.now ≤ most = omega (arith, t.size, min-le_left most (length m)) in
    subst (IsTop R most gives (with_pair C m x.key x.value)) (sym (new t.falls few)) (added_top R gives g.met.N.Ord.total C g.met.K.Ord.total most c.args.part.now x c.answer_in.ensures m t apart))
    c.offer.ensures.added
