use Rattle.std.proofs.Common.{ap, sym, ◌∙◌}
use Rattle.std.proofs.lemmas.Option.{none-some}
use Rattle.versions.specs.Map.{Map, value_at}
use Rattle.write_history.specs.Histories.{value_in}
use Rattle.stripe.proofs.Telling.{is_digit}
use Rattle.stripe.proofs.stripe.Stripe.empty.Goals as goal

pub invariant_of-result : goal.invariant_of-result
invariant_of-result g c =
    let R = g.K.Ord.cmp in
    let none = c.from_root.ensures.entries ∙ c.in_ok-empty_root.ensures.map in
    record {
      limit = c.from_root.ensures.limit;
      belongs = λ k v found. absurd (none-some v (sym (ap (λ (m : Map _ _). value_at R m k) none) ∙ found));
      told = λ named.
          let r = c.requires named in
          (r.1 ∙ sym (is_digit c.args.first_digit r.0), λ q mine. ap (λ (m : Map _ _). value_at R m q) none ∙ sym (ap (λ l. value_in R g.K.PathKey.path_of l q) r.2));
    }
