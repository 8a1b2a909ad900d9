use Rattle.std.proofs.Common.{◌≡◌, false, subst}
use Rattle.stripe.specs.Rules.{first_digit}
use Rattle.stripe.specs.Told.{Finds}
use Rattle.stripe.specs.declared.stripe.TheConstants.{MOST_PAIRS_OF_STRIPE}
use Rattle.versions.specs.Commands.{is_full_for}
use Rattle.map_session.proofs.session.Session.put_if_absent.Goals as goal

pub returns-clause-full : goal.returns-clause-full
returns-clause-full g c =
    subst (λ (k : g.row.K.Denot). Finds g.K.Ord.cmp g.K.PathKey.path_of (first_digit g.K.PathKey.path_of k) c.args.self.now.log (λ pairs. is_full_for g.K.Ord.cmp MOST_PAIRS_OF_STRIPE pairs k ≡ false)) c.in_ok-key.ensures.ok c.in_ok-write.ensures.full
