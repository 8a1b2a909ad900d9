use Rattle.std.proofs.Common.{sym, subst}
use Rattle.std.proofs.lemmas.Result.{IfOk-weaker}
use Rattle.combiner.specs.Bulks.{IsJoined}
use Rattle.bulk_ops.specs.Meanings.{MayAnswer}
use Rattle.top_pairs.specs.Ranks.{IsTop}
use Rattle.top_pairs.proofs.Tops.{joined_top}
use Rattle.top_pairs.proofs.top_pairs.TopPairsBulkIn.join.Goals as goal

pub returns : goal.returns
returns g c =
    let most = c.args.self.now.most in
    let gives = MayAnswer g.F.Fn c.args.self.now.score in
    let a = c.args.a.now in
    let b = c.args.b.now in
    IfOk-weaker c.joined.result _ _ (λ part is. subst (IsJoined g.K.Ord.cmp (IsTop g.N.Ord.cmp most gives) a b) (sym is) (joined_top g.N.Ord.cmp gives g.met.N.Ord.total g.K.Ord.cmp g.met.K.Ord.total most a b)) c.joined.ensures
