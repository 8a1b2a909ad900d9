use Rattle.std.proofs.Common.{arith}
use Rattle.script.proofs.ScriptLemmas.{no_first_fault}
use Rattle.script.proofs.laws.spelled_text_has_no_fault.Goals as goal

pub returns : goal.returns
returns c = λ text script spells fault. no_first_fault 1 _ script fault.0 fault.1 (omega (arith, spells.few)) spells.plain spells.words spells.lawful fault.2
