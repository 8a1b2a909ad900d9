use Rattle.closure_ops.proofs.folds.FoldsBulkIn.unit.Goals as goal

pub returns : goal.returns
returns g c i means = c.unit.ensures
