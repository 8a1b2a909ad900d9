use Rattle.map_session.proofs.Turns.{goes_on_self}
use Rattle.map_session.proofs.session.Session.remove_if_both_fail.Goals as goal

pub returns-then-answer_in-clause-wrote : goal.returns-then-answer_in-clause-wrote
returns-then-answer_in-clause-wrote g c = goes_on_self c.args.self.now
