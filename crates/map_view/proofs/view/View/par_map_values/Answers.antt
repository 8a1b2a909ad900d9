use Rattle.std.proofs.lemmas.Result.{IfOk-weaker}
use Rattle.bulk_ops.specs.Meanings.{MayAnswer}
use Rattle.trie_values.proofs.Given.{exact_values}
use Rattle.map_view.proofs.Making.{length_given}
use Rattle.map_view.proofs.view.View.par_map_values.Goals as goal

pub returns-clause-entries : goal.returns-clause-entries
returns-clause-entries g c =
    IfOk-weaker c.worked_by.result _ _ (λ made told f means. exact_values (MayAnswer g.G.Fn c.args.change) f means c.args.self.now made.entries told.given) c.worked_by.ensures

pub returns-clause-given : goal.returns-clause-given
returns-clause-given g c = IfOk-weaker c.worked_by.result _ _ (λ made told. told.given) c.worked_by.ensures

pub returns-clause-count : goal.returns-clause-count
returns-clause-count g c =
    IfOk-weaker c.worked_by.result _ _ (λ made told. length_given (MayAnswer g.G.Fn c.args.change) c.args.self.now made.entries told.given) c.worked_by.ensures

pub returns-clause-limit : goal.returns-clause-limit
returns-clause-limit g c = IfOk-weaker c.worked_by.result _ _ (λ made told. told.limit) c.worked_by.ensures
