use Rattle.std.proofs.Common.{◌≤◌, ◌*◌, length, sym, subst}
use Rattle.std.proofs.lemmas.Result.{IfOk-weaker}
use Rattle.stripe.specs.declared.stripe.TheConstants.{MOST_PAIRS_OF_STRIPE}
use Rattle.stripe.specs.Rules.{AllKeep}
use Rattle.versions.specs.Map.{Map}
use Rattle.stripes.proofs.joining.joined.Goals as goal

pub returns-clause-few : goal.returns-clause-few
returns-clause-few g c =
    IfOk-weaker c.map_of_row.result _ _
    (λ joint is. subst (λ (m : Map g.row.K.Denot g.row.V.Denot). length m ≤ length c.args.held.items * MOST_PAIRS_OF_STRIPE) (sym is) c.in_ok-row.ensures.few)
    c.map_of_row.ensures.entries

pub returns-clause-kept : goal.returns-clause-kept
returns-clause-kept g c =
    IfOk-weaker c.map_of_row.result _ _
    (λ joint is. subst (AllKeep g.K.Ord.cmp g.P.Keeps.holds) (sym is) c.in_ok-row.ensures.kept)
    c.map_of_row.ensures.entries
