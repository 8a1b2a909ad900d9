use Rattle.std.proofs.Common.{◌≡◌, ℕ, ◌<◌, true, false, cond, Some, ap, sym, ◌∙◌, subst, option_map, refl}
use Rattle.hash_path.specs.Digits.{fan_out}
use Rattle.write_history.specs.declared.entry.Entry.{Entry}
use Rattle.write_history.specs.declared.entry.Write.TheVariants.{Remove}
use Rattle.write_history.specs.Histories.{IsOf, first_digit}
use Rattle.write_history.specs.Rules.{HasHistory}
use Rattle.write_history.specs.Signers.{WroteIf}
use Rattle.versions.specs.Map.{without}
use Rattle.stripe.specs.Contents.{Content}
use Rattle.stripe.proofs.Telling as telling
use Rattle.stripe.proofs.stripe.Stripe.remove_where.Goals.{then-change, else-change}
use Rattle.stripe.proofs.stripe.Stripe.remove_where.Goals as goal

pub write-requires-clause-digit : goal.write-requires-clause-digit
write-requires-clause-digit g c =
    let path = g.K.PathKey.path_of in
    let s = c.self.inside in
    let k = g.Q.Sought.key_of c.args.key in
    let mine : first_digit path k ≡ s.first_digit = c.requires.place ∙ sym (ap (λ (x : Content _ _). x.digit) c.self.view_is) in
    subst (λ (e : Entry _ _). HasHistory g.J.Naming.book → (d : ℕ) × (s.part.digit ≡ Some d) × IsOf path d e.write) (sym c.removing-intent.ensures)
    (telling.may_add g.K.Ord.cmp path g.P.Keeps.holds g.J.Naming.book s.first_digit s.version s.part c.self.invariant (Remove k) (subst (λ d. d < fan_out) mine (telling.digit_low path k)) mine)

pub invariant_of-self-then-change : goal.invariant_of-self-then-change
invariant_of-self-then-change g c =
    let R = g.K.Ord.cmp in
    let path = g.K.PathKey.path_of in
    let s = c.self.inside in
    let k = g.Q.Sought.key_of c.args.key in
    let is : c.remove_where_along.new.self.entries ≡ without R s.version.entries k = subst (λ b. c.remove_where_along.new.self.entries ≡ cond b (without R s.version.entries k) s.version.entries) c.if-change.true c.in_ok-change.ensures.entries in
    telling.stripe_remove R path g.P.Keeps.holds g.J.Naming.book s.first_digit s.version s.part c.self.invariant c.law_of_removal.ensures.value c.remove_where_along.new.self c.write.new.self c.args.author.now k c.removing-intent.result (ap (λ (e : Entry _ _). e.write) c.removing-intent.ensures) c.in_ok-change.ensures.limit is c.write.ensures.digit c.write.ensures.wrote

pub invariant_of-self-else-change : goal.invariant_of-self-else-change
invariant_of-self-else-change g c =
    let R = g.K.Ord.cmp in
    let s = c.self.inside in
    let is : c.remove_where_along.new.self.entries ≡ s.version.entries = subst (λ b. c.remove_where_along.new.self.entries ≡ cond b (without R s.version.entries (g.Q.Sought.key_of c.args.key)) s.version.entries) c.if-change.false c.in_ok-change.ensures.entries in
    telling.stripe_stays R g.K.PathKey.path_of g.P.Keeps.holds g.J.Naming.book s.first_digit s.version s.part c.self.invariant c.remove_where_along.new.self s.part c.in_ok-change.ensures.limit is refl (λ q mine. refl)

pub returns-clause-wrote : goal.returns-clause-wrote
returns-clause-wrote g c = λ named.
    let R = g.K.Ord.cmp in
    let path = g.K.PathKey.path_of in
    let s = c.self.inside in
    let k = g.Q.Sought.key_of c.args.key in
    let signer = c.args.author.now in
    let before = option_map g.S.ValueSlots.value_of c.in_ok-change.change.previous in
    let mine : first_digit path k ≡ s.first_digit = c.requires.place ∙ sym (ap (λ (x : Content _ _). x.digit) c.self.view_is) in
    subst (λ (x : Content _ _). WroteIf R path c.in_ok-change.change.written (Remove k) k before signer x.log c.if-change.self.log) c.self.view_is
    (elim c.if-change.branch [
      | then-change w ↦
          subst (λ b. WroteIf R path b (Remove k) k before signer s.part.log c.if-change.self.log) (sym w.if-change.true)
          (subst (λ l. WroteIf R path true (Remove k) k before signer s.part.log l) (sym (ap (λ (x : Content _ _). x.log) w.self-is))
          (telling.wrote R path g.P.Keeps.holds g.J.Naming.book s.first_digit s.version s.part c.self.invariant k (Remove k) signer before c.removing-intent.result w.write.new.self.log mine c.in_ok-change.ensures.before c.removing-intent.ensures w.write.ensures.wrote named))
      | else-change w ↦
          subst (λ b. WroteIf R path b (Remove k) k before signer s.part.log c.if-change.self.log) (sym w.if-change.false)
          (subst (λ l. WroteIf R path false (Remove k) k before signer s.part.log l) (sym (ap (λ (x : Content _ _). x.log) w.self-is))
          (telling.wrote_nothing R path g.P.Keeps.holds g.J.Naming.book s.first_digit s.version s.part c.self.invariant k (Remove k) signer before mine c.in_ok-change.ensures.before named))
    ])
