use Rattle.std.proofs.Common.{sym, subst, IsPermutation, map}
use Rattle.std.proofs.lemmas.List.Sorted.{IsPermutation-map}
use Rattle.map_view.proofs.view.View.keys.Goals as goal

pub returns-clause-once : goal.returns-clause-once
returns-clause-once g c =
    let part : g.row.K.Denot × g.row.V.Denot → g.row.K.Denot = λ pair. pair.0 in
    subst (IsPermutation (map part c.args.self.now)) (sym c.of.ensures) (IsPermutation-map part c.args.self.now c.pairs.result.rest c.pairs.ensures.once)
