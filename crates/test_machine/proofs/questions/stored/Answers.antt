use Rattle.std.proofs.Common.{nat_le, ◌&&◌, ◌%◌}
use Rattle.std.specs.Prelude.{◌==◌, ◌||◌}
use Rattle.test_machine.proofs.questions.stored.Goals as goal

-- the test means that the even values between its bounds pass, and the odd ones of these where it says so
pub new-requires : goal.new-requires
new-requires c = ((λ k v. nat_le c.args.test.least v && (nat_le v c.args.test.most && (c.args.test.odd || v % 2 == 0))), λ k v r is. is)
