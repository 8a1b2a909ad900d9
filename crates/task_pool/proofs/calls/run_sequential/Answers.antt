use Rattle.std.proofs.Common.{[], inl, sym, subst, ◌∙◌, rules}
use Rattle.iter.specs.Intervals.{Tile, whole}
use Rattle.std.specs.Prelude.{All}
use Rattle.std.proofs.lemmas.List.Elements.{All-nil}
use Rattle.task_pool.proofs.Asked.{asked_last, none_asked}
use Rattle.task_pool.proofs.Reporting.{counted, listed, made}
use Rattle.task_pool.proofs.calls.run_sequential.Goals as goal

pub returns : goal.returns
returns g c =
    let all = c.in_ok-all.all in
    let tile : Tile all whole = search rules in
    let lists = c.in-Ok-empty_lists.lists.items in
    let list = c.in-Ok-list.list in
    let report = c.in_ok-report in
    let Asked = g.G.Gate.asked c.args.shared.now.gate.now in
    let mine : All (Asked c.args.workers) list.items = subst (All (Asked c.args.workers)) (sym c.in-Ok-list.ensures) (c.in_ok-all.ensures.asked (subst (All (Asked c.args.workers)) (sym c.in-Ok.ensures) (All-nil (Asked c.args.workers)))) in
    made g.K.PathKey.path_of (g.G.Gate.asked c.args.shared.now.gate.now) (g.B.BulkIn.answers c.args.bulk.now) (g.B.BulkIn.decides c.args.bulk.now) g.C.OfView.map g.C.OfView.grain c.args.workers report.report.part _ all
    (listed (λ l. l.items) lists report.report.lists.items list [] report.ensures.lists c.in-Ok-empty_lists.ensures.none ∙ c.in-Ok-list.ensures)
    (counted (λ l. l.items) lists report.report.lists.items list c.args.workers report.ensures.lists c.in-Ok-empty_lists.ensures.len)
    (subst (g.B.BulkIn.answers c.args.bulk.now g.C.OfView.map) (sym report.ensures.part) (c.whole_part-part.ensures c.args.bulk.now c.requires.bulk)) c.law.ensures.apart c.law.ensures.uncut
    (asked_last (g.G.Gate.asked c.args.shared.now.gate.now) (λ l. l.items) lists report.report.lists.items list c.args.workers report.ensures.lists c.in-Ok-empty_lists.ensures.len
    (none_asked (g.G.Gate.asked c.args.shared.now.gate.now) _ c.in-Ok-empty_lists.ensures.none) mine) (inl tile)
