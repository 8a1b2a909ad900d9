use Rattle.std.proofs.Common.{Some}
use Rattle.test_tables.proofs.asking.each_value.Goals as goal

pub new-requires : goal.new-requires
new-requires c = ((λ k v. (v, (Some v, Some v))), λ k v r is. is)
