use Rattle.std.proofs.Common.{◌≡◌, ℕ, ◌<◌, true, false, Some, is_some, ap, sym, ◌∙◌, subst, option_map}
use Rattle.std.specs.Cmp.{Equal-is}
use Rattle.hash_path.specs.Digits.{fan_out}
use Rattle.write_history.specs.declared.entry.Entry.{Entry}
use Rattle.write_history.specs.declared.entry.Write.TheVariants.{Remove}
use Rattle.write_history.specs.Histories.{IsOf, first_digit}
use Rattle.write_history.specs.Rules.{HasHistory}
use Rattle.write_history.specs.Signers.{WroteIf}
use Rattle.stripe.specs.Contents.{Content}
use Rattle.stripe.proofs.Telling as telling
use Rattle.stripe.proofs.stripe.Stripe.remove.Goals.{then-written, else-written}
use Rattle.stripe.proofs.stripe.Stripe.remove.Goals as goal

pub write-requires-clause-digit : goal.write-requires-clause-digit
write-requires-clause-digit g c =
    let path = g.K.PathKey.path_of in
    let s = c.self.inside in
    let k = g.Q.Sought.key_of c.args.key in
    let mine : first_digit path k ≡ s.first_digit = c.requires.place ∙ sym (ap (λ (x : Content _ _). x.digit) c.self.view_is) in
    subst (λ (e : Entry _ _). HasHistory g.J.Naming.book → (d : ℕ) × (s.part.digit ≡ Some d) × IsOf path d e.write) (sym c.removing-intent.ensures)
    (telling.may_add g.K.Ord.cmp path g.P.Keeps.holds g.J.Naming.book s.first_digit s.version s.part c.self.invariant (Remove k) (subst (λ d. d < fan_out) mine (telling.digit_low path k)) mine)

pub invariant_of-self-then-written : goal.invariant_of-self-then-written
invariant_of-self-then-written g c =
    let s = c.self.inside in
    telling.stripe_remove g.K.Ord.cmp g.K.PathKey.path_of g.P.Keeps.holds g.J.Naming.book s.first_digit s.version s.part c.self.invariant c.law_of_removal.ensures.value c.remove_along.new.self c.write.new.self c.args.author.now (g.Q.Sought.key_of c.args.key) c.removing-intent.result (ap (λ (e : Entry _ _). e.write) c.removing-intent.ensures) c.in_ok-before.ensures.limit c.in_ok-before.ensures.entries c.write.ensures.digit c.write.ensures.wrote

pub invariant_of-self-else-written : goal.invariant_of-self-else-written
invariant_of-self-else-written g c =
    let R = g.K.Ord.cmp in
    let s = c.self.inside in
    let k = g.Q.Sought.key_of c.args.key in
    telling.stripe_removes_none R g.K.PathKey.path_of g.P.Keeps.holds g.J.Naming.book s.first_digit s.version s.part c.self.invariant c.law_of_removal.ensures.value c.remove_along.new.self k
    (sym c.in_ok-before.ensures.before ∙ telling.none_mapped g.S.ValueSlots.value_of c.in_ok-before.before (sym c.is_some-written.ensures ∙ c.if-written.false))
    c.in_ok-before.ensures.limit c.in_ok-before.ensures.entries (λ q same. g.met.K.PathKey.exact k q ((Equal-is (R k q)).0 same))

pub returns-clause-wrote : goal.returns-clause-wrote
returns-clause-wrote g c = λ named.
    let R = g.K.Ord.cmp in
    let path = g.K.PathKey.path_of in
    let s = c.self.inside in
    let k = g.Q.Sought.key_of c.args.key in
    let signer = c.args.author.now in
    let before = option_map g.S.ValueSlots.value_of c.in_ok-before.before in
    let mine : first_digit path k ≡ s.first_digit = c.requires.place ∙ sym (ap (λ (x : Content _ _). x.digit) c.self.view_is) in
    subst (λ (x : Content _ _). WroteIf R path (is_some c.in_ok-before.before) (Remove k) k before signer x.log c.if-written.self.log) c.self.view_is
    (elim c.if-written.branch [
      | then-written w ↦
          subst (λ b. WroteIf R path b (Remove k) k before signer s.part.log c.if-written.self.log) (sym (sym c.is_some-written.ensures ∙ w.if-written.true))
          (subst (λ l. WroteIf R path true (Remove k) k before signer s.part.log l) (sym (ap (λ (x : Content _ _). x.log) w.self-is))
          (telling.wrote R path g.P.Keeps.holds g.J.Naming.book s.first_digit s.version s.part c.self.invariant k (Remove k) signer before c.removing-intent.result w.write.new.self.log mine c.in_ok-before.ensures.before c.removing-intent.ensures w.write.ensures.wrote named))
      | else-written w ↦
          subst (λ b. WroteIf R path b (Remove k) k before signer s.part.log c.if-written.self.log) (sym (sym c.is_some-written.ensures ∙ w.if-written.false))
          (subst (λ l. WroteIf R path false (Remove k) k before signer s.part.log l) (sym (ap (λ (x : Content _ _). x.log) w.self-is))
          (telling.wrote_nothing R path g.P.Keeps.holds g.J.Naming.book s.first_digit s.version s.part c.self.invariant k (Remove k) signer before mine c.in_ok-before.ensures.before named))
    ])
