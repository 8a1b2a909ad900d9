use Rattle.std.proofs.Common.{List, ℕ, arith, subst}
use Rattle.std.proofs.lemmas.Cmp.{nat_list_cmp_total}
use Rattle.std.proofs.lemmas.Result.{on_ok_weaker}
use Rattle.keys.specs.Order.{bytes_cmp}
use Rattle.example_expiry.proofs.Together.{HasCounted, one_more, room}
use Rattle.example_expiry.proofs.by_initial.ByInitialBulkByteTextLease.add.Goals as goal

pub add_name-requires : goal.add_name-requires
add_name-requires c = λ byte. omega (arith, room bytes_cmp c.args.part.now c.args.name.now.value c.args._lease.now.value c.requires.apart byte)

pub returns-clause-added : goal.returns-clause-added
returns-clause-added c =
    let old = c.args.part.now in
    let new = c.add_name.new.self in
    on_ok_weaker c.add_name.result
    (λ (counted : HasCounted old c.deref.result.now new). one_more bytes_cmp nat_list_cmp_total old new c.args.name.now.value c.args._lease.now.value (subst (λ (name : List ℕ). HasCounted old name new) c.deref.ensures counted))
    c.add_name.ensures.added
