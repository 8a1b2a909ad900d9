use Rattle.std.proofs.lemmas.Result.{IfOk-weaker}
use Rattle.bulk_ops.specs.Meanings.{MayAnswer}
use Rattle.trie_filter.proofs.Chosen.{exact_chosen, length_chosen}
use Rattle.map_view.proofs.view.View.par_filter.Goals as goal

pub returns-clause-entries : goal.returns-clause-entries
returns-clause-entries g c =
    IfOk-weaker c.worked_by.result _ _ (λ made told p means. exact_chosen (MayAnswer g.F.Fn c.args.test) p means c.args.self.now made.entries told.chosen) c.worked_by.ensures

pub returns-clause-chosen : goal.returns-clause-chosen
returns-clause-chosen g c = IfOk-weaker c.worked_by.result _ _ (λ made told. told.chosen) c.worked_by.ensures

pub returns-clause-few : goal.returns-clause-few
returns-clause-few g c =
    IfOk-weaker c.worked_by.result _ _ (λ made told. length_chosen (MayAnswer g.F.Fn c.args.test) c.args.self.now made.entries told.chosen) c.worked_by.ensures

pub returns-clause-limit : goal.returns-clause-limit
returns-clause-limit g c = IfOk-weaker c.worked_by.result _ _ (λ made told. told.limit) c.worked_by.ensures
