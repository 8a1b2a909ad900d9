use Rattle.closure_ops.proofs.filters.FiltersBulkIn.unit.Goals as goal

pub returns : goal.returns
returns g c = record { limit = c.in_ok-none.ensures.limit; chosen = c.in_ok-none.ensures.entries }
