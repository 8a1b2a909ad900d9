use Rattle.std.proofs.Common.{◌≡◌, ℕ, ◌+◌, ap, arith, ◌∙◌, subst}
use Rattle.hash_path.specs.Digits.{fan_out}
use Rattle.stripes.specs.Stripes.{digits_of, up_to}
use Rattle.stripes.proofs.Lending.{digits_more}
use Rattle.stripes.proofs.stripes.told_empties.Goals as goal

pub loop-digit-preserved : goal.loop-digit-preserved
loop-digit-preserved g c = record {
  digits = digits_more c.loop-digit.stripes.items c.push.new.self.items c.in_ok-empty.field-0 c.loop-digit.digit c.in_ok-push.ensures.items c.loop-digit.invariant.digits c.in_ok-empty.ensures.digit;
  next = c.take.ensures.next ∙ ap (λ (n : ℕ). n + 1) c.loop-digit.invariant.next;
  authors = c.take.ensures.authors ∙ c.loop-digit.invariant.authors;
}

pub returns-clause-digits : goal.returns-clause-digits
returns-clause-digits g c =
    let whole : c.loop-digit.digit ≡ fan_out = omega (arith, c.loop-digit-test.false, c.loop-digit.auto.digit-end) in
    subst (λ (n : ℕ). digits_of c.loop-digit.stripes.items ≡ up_to n) whole c.loop-digit.invariant.digits
