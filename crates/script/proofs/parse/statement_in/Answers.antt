use Rattle.script.specs.Lines.{fields_of}
use Rattle.script.proofs.WordLemmas.{no_phrase_fault}
use Rattle.script.proofs.parse.statement_in.Goals as goal

-- a text with a fault has no statement's words
pub returns-in-Err-Fault : goal.returns-in-Err-Fault
returns-in-Err-Fault c = λ s lawful e. no_phrase_fault s (fields_of c.args.text.now) c.in-Err-Fault.field-0-0 lawful e (rw c.in-Err-Fault.field-0-is at c.in-Err-Fault.ensures.err)
