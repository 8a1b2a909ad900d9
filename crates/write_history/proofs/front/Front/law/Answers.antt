use Rattle.write_history.proofs.front.Front.law.Goals as goal

pub returns : goal.returns
returns g c = (c.self.inside.seen.book, c.self.invariant)
