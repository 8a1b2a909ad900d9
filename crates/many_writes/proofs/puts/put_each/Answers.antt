use Rattle.std.proofs.Common.{Option, IfSome, sym, subst}
use Rattle.many_writes.specs.Parts.{IsParted}
use Rattle.many_writes.proofs.Zips.{none_parted}
use Rattle.many_writes.proofs.puts.put_each.Goals as goal

pub returns-in-Err-clause-parted : goal.returns-in-Err-clause-parted
returns-in-Err-clause-parted g c =
    let R = λ (item : g.row.K.Denot × g.row.V.Denot) (found : Option g.row.S-Value.Denot). IfSome found (λ value. g.P.Keeps.holds item.0 (g.S.ValueSlots.value_of value)) in
    let path = λ (item : g.row.K.Denot × g.row.V.Denot). g.K.PathKey.path_of item.0 in
    subst (λ done. IsParted R 0 c.args.pairs.items done c.args.pairs.items) (sym c.none_done.ensures) (none_parted R 0 c.args.pairs.items)
