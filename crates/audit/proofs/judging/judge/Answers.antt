use Rattle.audit.proofs.judging.judge.Goals as goal

pub returns-in-Call : goal.returns-in-Call
returns-in-Call c = rw c.in-Call.is c.served.ensures

pub returns-in-View : goal.returns-in-View
returns-in-View c = rw c.in-View.is c.viewed.ensures

pub returns-in-Freeze : goal.returns-in-Freeze
returns-in-Freeze c = rw c.in-Freeze.is c.frozen.ensures

pub returns-in-Finish : goal.returns-in-Finish
returns-in-Finish c = rw c.in-Finish.is c.finished.ensures

pub returns-in-Abandon : goal.returns-in-Abandon
returns-in-Abandon c = rw c.in-Abandon.is c.abandoned.ensures
