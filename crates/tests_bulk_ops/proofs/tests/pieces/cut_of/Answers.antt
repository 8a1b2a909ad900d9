use Rattle.std.proofs.Common.{subst}
use Rattle.splitter.specs.Outcomes.{IsCut}
use Rattle.tests_bulk_ops.proofs.tests.pieces.cut_of.Goals as goal

pub returns-clause-at : goal.returns-clause-at
returns-clause-at g c = (subst (IsCut g.K.PathKey.path_of c.args.piece 1) c.in-Ok-Two.field-0-is c.in-Ok-Two.ensures).0

pub returns-clause-lower : goal.returns-clause-lower
returns-clause-lower g c = (subst (IsCut g.K.PathKey.path_of c.args.piece 1) c.in-Ok-Two.field-0-is c.in-Ok-Two.ensures).1

pub returns-clause-upper : goal.returns-clause-upper
returns-clause-upper g c = (subst (IsCut g.K.PathKey.path_of c.args.piece 1) c.in-Ok-Two.field-0-is c.in-Ok-Two.ensures).2
