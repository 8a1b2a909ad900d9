use Rattle.test_tables.proofs.asking.changing.Goals as goal

pub new-requires : goal.new-requires
new-requires c = ((λ k v. c.args.change.0), λ k v r is. is)
