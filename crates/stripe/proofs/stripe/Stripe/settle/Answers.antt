use Rattle.std.proofs.Common.{◌≡◌, ap, sym, ◌∙◌}
use Rattle.hash_path.specs.Digits.{fan_out}
use Rattle.write_history.specs.Histories.{IsOf, first_digit}
use Rattle.stripe.specs.Contents.{Content}
use Rattle.stripe.specs.Told.{EndsCleared, Tells}
use Rattle.stripe.proofs.Telling as telling
use Rattle.std.proofs.lemmas.Option.{none-some}
use Rattle.stripe.proofs.stripe.Stripe.settle.Goals as goal

pub take_back-requires : goal.take_back-requires
take_back-requires g c =
    let s = c.self.inside in
    let lent : s.first_digit ≡ fan_out = ap (λ (x : Content _ _). x.digit) c.self.view_is ∙ c.requires.lent in
    telling.by_name g.J.Naming.book _ c.law.ensures (λ named. (c.self.invariant.told named).0 ∙ (ap Rattle.stripe.specs.Told.as_digit lent ∙ telling.is_none))

pub invariant_of-self : goal.invariant_of-self
invariant_of-self g c =
    let R = g.K.Ord.cmp in
    let path = g.K.PathKey.path_of in
    let s = c.self.inside in
    let lent : s.first_digit ≡ fan_out = ap (λ (x : Content _ _). x.digit) c.self.view_is ∙ c.requires.lent in
    let none = telling.none_there R path g.P.Keeps.holds g.J.Naming.book s.first_digit s.version s.part c.self.invariant lent in
    record {
      limit = c.self.invariant.limit;
      belongs = λ k v found. absurd (none-some v (sym (none k) ∙ found));
      told = λ named. (
        c.take_back.ensures.digit ∙ (c.requires.next named ∙ sym (telling.is_digit c.args.first_digit c.requires.small)),
        λ q mine. none q ∙ sym (ap (λ l. Rattle.write_history.specs.Histories.value_in R path l q) c.take_back.ensures.log ∙ telling.ends_none R path c.args.all.now.log (c.requires.cleared named) q),
      );
    }
