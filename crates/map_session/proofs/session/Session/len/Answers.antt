use Rattle.std.proofs.Common.{arith}
use Rattle.map_session.proofs.session.Session.len.Goals as goal

pub returns-clause-count : goal.returns-clause-count
returns-clause-count g c =
    let counted = c.count_from.ensures.count in
    (counted.0, counted.1.0, (λ key. counted.1.2 key (omega arith)), counted.2)
