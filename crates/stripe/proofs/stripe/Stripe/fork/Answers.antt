use Rattle.std.proofs.Common.{sym, subst}
use Rattle.stripe.specs.Rules.{AllKeep, Belongs}
use Rattle.std.proofs.lemmas.Option.{none-some}
use Rattle.stripe.proofs.stripe.Stripe.fork.Goals as goal

pub invariant_of-result : goal.invariant_of-result
invariant_of-result g c = record {
  limit = c.in_ok-shared.ensures.limit;
  belongs = subst (AllKeep g.K.Ord.cmp (Belongs g.K.PathKey.path_of g.P.Keeps.holds c.self.inside.first_digit)) (sym c.in_ok-shared.ensures.entries) c.self.invariant.belongs;
  told = λ named. absurd (none-some named.0 named.1);
}
