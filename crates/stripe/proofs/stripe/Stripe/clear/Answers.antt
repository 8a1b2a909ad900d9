use Rattle.std.proofs.Common.{◌≡◌, ℕ, ◌<◌, ◌∷◌, ◌++◌, ap, sym, ◌∙◌, subst}
use Rattle.hash_path.specs.Digits.{fan_out}
use Rattle.stripe.specs.Contents.{Content}
use Rattle.stripe.proofs.Telling as telling
use Rattle.std.proofs.lemmas.Option.{none-some}
use Rattle.std.proofs.Common.{arith}
use Rattle.versions.specs.Map.{Map, value_at}
use Rattle.write_history.specs.Rules.{listed}
use Rattle.stripe.proofs.stripe.Stripe.clear.Goals as goal

pub invariant_of-self : goal.invariant_of-self
invariant_of-self g c =
    let path = g.K.PathKey.path_of in
    record {
      limit = c.into_map.ensures.1;
      belongs = λ k v found. absurd (none-some v (sym (ap (λ (m : Map _ _). value_at g.K.Ord.cmp m k) c.into_map.ensures.0) ∙ found));
      told = λ named. (c.lend.ensures.none ∙ sym telling.is_none, λ q mine. absurd (let low = telling.digit_low path q in omega (arith, mine, low)));
    }

pub returns-clause-lent : goal.returns-clause-lent
returns-clause-lent g c = λ named.
    let s = c.self.inside in
    let digit : s.first_digit ≡ c.args.self.now.digit = ap (λ (x : Content _ _). x.digit) (c.self.view_is ∙ c.end_marks.ensures) in
    let low : s.first_digit < fan_out = subst (λ d. d < fan_out) (sym digit) c.requires in
    c.lend.ensures.digits ∙ (ap (λ o. listed o ++ c.args.all.now.digits) ((c.self.invariant.told named).0 ∙ telling.is_digit s.first_digit low) ∙ ap (λ (d : ℕ). d ∷ c.args.all.now.digits) digit)
