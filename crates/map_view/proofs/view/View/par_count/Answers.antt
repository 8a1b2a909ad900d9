use Rattle.std.proofs.lemmas.Result.{IfOk-weaker}
use Rattle.map_view.proofs.view.View.par_count.Goals as goal

pub returns-clause-count : goal.returns-clause-count
returns-clause-count g c = IfOk-weaker c.worked_by.result _ _ (λ count told. told.exact) c.worked_by.ensures

pub returns-clause-few : goal.returns-clause-few
returns-clause-few g c = IfOk-weaker c.worked_by.result _ _ (λ count told. told.few) c.worked_by.ensures
