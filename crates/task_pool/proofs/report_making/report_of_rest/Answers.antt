use Rattle.std.proofs.Common.{◌≡◌, ◌++◌, inl, ap, sym, subst, ◌∙◌}
use Rattle.iter.specs.Intervals.{Tile, whole}
use Rattle.task_pool.proofs.Asked.{asked_last}
use Rattle.task_pool.proofs.Balances.{apart_right, tile_apart, whole_again}
use Rattle.task_pool.proofs.Reporting.{counted, listed, made}
use Rattle.task_pool.proofs.report_making.report_of_rest.Goals as goal

pub work_rest-requires-clause-apart : goal.work_rest-requires-clause-apart
work_rest-requires-clause-apart g c = apart_right c.args.all c.args.leftover.items (tile_apart (c.args.all ++ c.args.leftover.items) c.requires.tile)

pub merge-requires : goal.merge-requires
merge-requires g c =
    tile_apart (c.args.all ++ c.in-Ok.mine) (whole_again c.args.all c.args.leftover.items c.in-Ok.mine c.in-Ok.ensures.mine c.requires.tile)

pub whole_part-part-requires : goal.whole_part-part-requires
whole_part-part-requires g c = subst (λ x. Tile x whole) (sym c.in-Ok-merge.ensures) (whole_again c.args.all c.args.leftover.items c.in-Ok.mine c.in-Ok.ensures.mine c.requires.tile)

pub returns : goal.returns
returns g c =
    let all = c.in-Ok-merge.all in
    let ls = c.args.lists.items in
    let report = c.in_ok-report in
    let both : all ≡ c.args.all ++ c.in-Ok.list.items = c.in-Ok-merge.ensures ∙ ap (λ x. c.args.all ++ x) (sym c.in-Ok.ensures.list) in
    let tile : Tile all whole = subst (λ x. Tile x whole) (sym c.in-Ok-merge.ensures) (whole_again c.args.all c.args.leftover.items c.in-Ok.mine c.in-Ok.ensures.mine c.requires.tile) in
    made g.K.PathKey.path_of (g.G.Gate.asked c.args.shared.now.gate.now) (g.B.BulkIn.answers c.args.bulk.now) (g.B.BulkIn.decides c.args.bulk.now) g.C.OfView.map g.C.OfView.grain c.args.workers report.report.part _ all
    (listed (λ l. l.items) ls report.report.lists.items c.in-Ok.list c.args.all report.ensures.lists c.requires.lists ∙ sym both)
    (counted (λ l. l.items) ls report.report.lists.items c.in-Ok.list c.args.workers report.ensures.lists c.requires.count)
    (subst (g.B.BulkIn.answers c.args.bulk.now g.C.OfView.map) (sym report.ensures.part) (c.whole_part-part.ensures c.args.bulk.now c.requires.bulk)) c.law.ensures.apart c.law.ensures.uncut
    (asked_last (g.G.Gate.asked c.args.shared.now.gate.now) (λ l. l.items) ls report.report.lists.items c.in-Ok.list c.args.workers report.ensures.lists c.requires.count c.requires.asked c.in-Ok.ensures.asked) (inl tile)
