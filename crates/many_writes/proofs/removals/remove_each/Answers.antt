use Rattle.std.proofs.Common.{Option, IfSome, sym, subst}
use Rattle.many_writes.specs.Parts.{IsParted}
use Rattle.many_writes.proofs.Zips.{none_parted}
use Rattle.many_writes.proofs.removals.remove_each.Goals as goal

pub returns-in-Err-clause-parted : goal.returns-in-Err-clause-parted
returns-in-Err-clause-parted g c =
    let R = λ (item : g.row.Q.Denot) (found : Option g.row.S-Value.Denot). IfSome found (λ value. g.P.Keeps.holds (g.Q.Sought.key_of item) (g.S.ValueSlots.value_of value)) in
    let path = λ (item : g.row.Q.Denot). g.K.PathKey.path_of (g.Q.Sought.key_of item) in
    (c.args.keys.now, subst (λ done. IsParted R 0 c.args.keys.now done c.args.keys.now) (sym c.none_done.ensures) (none_parted R 0 c.args.keys.now))
