use Rattle.std.proofs.Common.{◌∙◌, rules, sym}
use Rattle.write_history.specs.Histories.{value_in}
use Rattle.map_session.proofs.Moments.{none_counted, none_there}
use Rattle.map_session.proofs.session.Session.is_empty.Goals as goal

pub returns-clause-none : goal.returns-clause-none
returns-clause-none g c =
    let R = g.K.Ord.cmp in
    let counted = c.len.ensures.count in
    let log = value_in R g.K.PathKey.path_of c.len.new.self.log in
    let total = g.met.K.Ord.total in
    ((λ is. none_there R log counted.0 counted.2 (sym counted.3 ∙ search rules)), (λ none. let zero = counted.3 ∙ none_counted R log counted.0 total counted.2 none in search rules))
