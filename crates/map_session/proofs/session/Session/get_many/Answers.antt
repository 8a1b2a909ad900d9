use Rattle.std.proofs.Common.{◌∙◌}
use Rattle.std.proofs.lemmas.Result.{IfOk-weaker}
use Rattle.write_history.specs.Histories.{value_in}
use Rattle.map_session.proofs.Moments.{values_of}
use Rattle.map_session.proofs.session.Session.get_many.Goals as goal

pub returns-clause-read : goal.returns-clause-read
returns-clause-read g c =
    let R = g.K.Ord.cmp in
    let log = value_in R g.K.PathKey.path_of c.view.new.self.log in
    IfOk-weaker c.handles_in-values.result _ _ (λ values is. is ∙ values_of R log c.in_ok-view.view c.in_ok-view.ensures.moment g.Q.Sought.key_of c.args.keys.now) c.handles_in-values.ensures
