use Rattle.std.proofs.Common.{◌≡◌, ◌∙◌, [], ◌∷◌, subst}
use Rattle.iter.specs.Intervals.{part, whole}
use Rattle.splitter.specs.Portion.{Portion}
use Rattle.bulk_work.proofs.Whole.{whole_tiles}
use Rattle.bulk_work.proofs.answering.ask.Goals as goal

pub conclude-requires : goal.conclude-requires
conclude-requires g c = ∣ (part g.K.PathKey.path_of c.whole-piece.result.map c.whole-piece.result.interval, c.in-Ok.ensures) ∣₁

pub returns : goal.returns
returns g c =
    let path = g.K.PathKey.path_of in
    let query = c.args.query.now in
    let answer = g.Q.Asks.answer_of c.in-Ok.part in
    let laws = c.parts_follow_intervals.ensures in
    let all : part path c.args.view whole ≡ c.args.view = laws.one c.args.view whole ∙ laws.whole c.args.view (whole ∷ []) whole_tiles in
    let worked = subst (λ (p : Portion g.row.K.Denot g.row.V.Denot). g.Q.Bulk.answers query (part path p.map p.interval) c.in-Ok.part) c.whole-piece.ensures c.in-Ok.ensures in
    let answered = subst (λ m. g.Q.Asks.answered query m answer) all (c.conclude.ensures.answered (part path c.args.view whole) worked) in
    (answer, answered, c.conclude.ensures.told, c.conclude.ensures.map)
