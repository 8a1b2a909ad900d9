use denote.Param.Send.{IsSend}
use Rattle.ghost_log.specs.contracts.Rights.{the_row}
use Rattle.ghost_log.proofs.Turning.{rights_keyless}

pub send : IsSend the_row
send = record { owned = λ d vs. ((λ vss. (tt, ((λ uss. (tt, tt)), tt))), rights_keyless d.book.cells_name d.cells); leaving = λ k f vs. tt }
