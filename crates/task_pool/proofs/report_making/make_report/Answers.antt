use Rattle.std.proofs.Common.{◌≡◌, ◌++◌, inr, map, ap, sym, subst, ◌∙◌}
use Rattle.std.proofs.lemmas.List.{append-nil}
use Rattle.iter.specs.Intervals.{Tile, whole}
use Rattle.partial_results.specs.Worked.{all_of}
use Rattle.std.specs.Prelude.{All}
use Rattle.std.proofs.lemmas.List.Elements.{All-nil}
use Rattle.task_pool.specs.Asked.{EachAsked}
use Rattle.task_pool.proofs.Asked.{asked_behind, asked_last}
use Rattle.task_pool.proofs.Balances.{apart_left, tile_apart}
use Rattle.task_pool.proofs.Reporting.{counted, listed, made}
use Rattle.task_pool.proofs.report_making.make_report.Goals as goal

pub merge_padded-requires-clause-apart : goal.merge_padded-requires-clause-apart
merge_padded-requires-clause-apart g c =
    let ts = c.args.gathered.partials.items in
    let ls = c.args.gathered.leftover.items in
    apart_left (all_of ts) ls (tile_apart (all_of ts ++ ls) c.requires.tile)

pub report_of_rest-requires-clause-tile : goal.report_of_rest-requires-clause-tile
report_of_rest-requires-clause-tile g c =
    let base : c.in-Err.all ≡ all_of c.args.gathered.partials.items = c.in-Err.ensures.err ∙ c.in-Ok.ensures.all in
    subst (λ x. Tile (x ++ c.args.gathered.leftover.items) whole) (sym base) c.requires.tile

-- The workers' part is settled.
pub returns-in_ok-report-in-Ok-settled_part : goal.returns-in_ok-report-in-Ok-settled_part
returns-in_ok-report-in-Ok-settled_part g c =
    let all = c.in-Ok.all in
    let ls = c.in-Ok.lists.items in
    let report = c.in_ok-report-in-Ok-settled_part in
    let ok = c.in-Ok-settled_part.ensures.ok c.args.bulk.now c.requires.bulk in
    let Asked = g.G.Gate.asked c.args.shared.now.gate.now in
    let behind = c.in-Ok.ensures.behind in
    let each : EachAsked Asked (map (λ l. l.items) ls) = subst (EachAsked Asked) (sym behind.2) (asked_behind Asked c.args.gathered.partials.items behind.0 behind.1 c.requires.asked) in
    made g.K.PathKey.path_of (g.G.Gate.asked c.args.shared.now.gate.now) (g.B.BulkIn.answers c.args.bulk.now) (g.B.BulkIn.decides c.args.bulk.now) g.C.OfView.map g.C.OfView.grain c.args.workers report.report.part _ all
    (listed (λ l. l.items) ls report.report.lists.items c.new.result all report.ensures.lists c.in-Ok.ensures.lists ∙ ap (λ x. all ++ x) c.new.ensures.items ∙ append-nil all)
    (counted (λ l. l.items) ls report.report.lists.items c.new.result c.args.workers report.ensures.lists c.in-Ok.ensures.count)
    (subst (g.B.BulkIn.answers c.args.bulk.now g.C.OfView.map) (sym report.ensures.part) ok.0) c.law.ensures.apart c.law.ensures.uncut
    (asked_last (g.G.Gate.asked c.args.shared.now.gate.now) (λ l. l.items) ls report.report.lists.items c.new.result c.args.workers report.ensures.lists c.in-Ok.ensures.count
    each (subst (All (g.G.Gate.asked c.args.shared.now.gate.now c.args.workers)) (sym c.new.ensures.items) (All-nil (g.G.Gate.asked c.args.shared.now.gate.now c.args.workers)))) (inr (ok.1, ok.2))

pub report_of_rest-requires-clause-asked : goal.report_of_rest-requires-clause-asked
report_of_rest-requires-clause-asked g c =
    let Asked = g.G.Gate.asked c.args.shared.now.gate.now in
    let behind = c.in-Ok.ensures.behind in
    subst (EachAsked Asked) (sym behind.2) (asked_behind Asked c.args.gathered.partials.items behind.0 behind.1 c.requires.asked)
