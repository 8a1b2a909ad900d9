use Rattle.std.proofs.Common.{[], sym, subst}
use Rattle.bulk_ops.specs.Meanings.{MayAnswer}
use Rattle.top_pairs.specs.Ranks.{IsTop}
use Rattle.top_pairs.proofs.Tops.{none_top}
use Rattle.top_pairs.proofs.top_pairs.TopPairsBulkIn.unit.Goals as goal

pub returns : goal.returns
returns g c =
    let gives = MayAnswer g.F.Fn c.args.self.now.score in
    subst (IsTop g.N.Ord.cmp c.args.self.now.most gives []) (sym c.none.ensures) (none_top g.N.Ord.cmp gives c.args.self.now.most)
