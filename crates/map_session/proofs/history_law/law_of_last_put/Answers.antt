use Rattle.map_session.proofs.Histories.{last_put}
use Rattle.map_session.proofs.history_law.law_of_last_put.Goals as goal

pub returns : goal.returns
returns g c = last_put g.K.Ord.cmp g.K.PathKey.path_of g.met.K.Ord.total
