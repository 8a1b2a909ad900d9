use Rattle.std.proofs.lemmas.Option.{none-some}
use Rattle.stripes.proofs.Lending.{digits_more}
use Rattle.stripes.proofs.stripes.empties.Goals as goal

pub empty-requires : goal.empty-requires
empty-requires g c = λ named. absurd (none-some named.0 named.1)

pub loop-digit-preserved : goal.loop-digit-preserved
loop-digit-preserved g c = digits_more c.loop-digit.stripes.items c.push.new.self.items c.in_ok-empty.field-0 c.loop-digit.digit c.in_ok-push.ensures.items c.loop-digit.invariant c.in_ok-empty.ensures.digit
