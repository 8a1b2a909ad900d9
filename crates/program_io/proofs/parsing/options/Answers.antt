use Rattle.program_io.proofs.CommandLineLemmas.{told}
use Rattle.program_io.proofs.parsing.options.Goals as goal

pub returns-in-Err-clause-fault : goal.returns-in-Err-clause-fault
returns-in-Err-clause-fault c = told _ c.in-Err.error c.fault_of.result c.in-Err.ensures.fault c.fault_of.ensures
