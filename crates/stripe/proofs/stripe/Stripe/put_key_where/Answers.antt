use Rattle.std.proofs.Common.{◌≡◌, true, false, cond, [], ◌∷◌, ◌++◌, List, ap, sym, ◌∙◌, subst, option_map, refl}
use Rattle.write_history.specs.declared.entry.Write.TheVariants.{Put}
use Rattle.write_history.specs.Histories.{first_digit}
use Rattle.write_history.specs.Rules.{HasHistory}
use Rattle.write_history.specs.Signers.{WroteIf}
use Rattle.versions.specs.Map.{with_pair}
use Rattle.stripe.specs.Contents.{Content}
use Rattle.stripe.proofs.Telling.{digit_low, may_add, stripe_put, stripe_stays, wrote, wrote_nothing}
use Rattle.stripe.proofs.stripe.Stripe.put_key_where.Goals.{then-change, else-change}
use Rattle.stripe.proofs.stripe.Stripe.put_key_where.Goals as goal

pub write-requires-clause-digit : goal.write-requires-clause-digit
write-requires-clause-digit g c =
    let path = g.K.PathKey.path_of in
    let s = c.self.inside in
    let k = c.args.key in
    let mine : first_digit path k ≡ s.first_digit = c.requires.place ∙ sym (ap (λ (x : Content _ _). x.digit) c.self.view_is) in
    subst (λ (e : Rattle.write_history.specs.declared.entry.Entry.Entry _ _). HasHistory g.J.Naming.book → (d : _) × (s.part.digit ≡ Rattle.std.proofs.Common.Some d) × Rattle.write_history.specs.Histories.IsOf path d e.write) (sym c.putting-intent.ensures)
    (may_add g.K.Ord.cmp path g.P.Keeps.holds g.J.Naming.book s.first_digit s.version s.part c.self.invariant (Put k (g.S.ValueSlots.value_of c.args.value)) (subst (λ d. Rattle.std.proofs.Common.◌<◌ d Rattle.hash_path.specs.Digits.fan_out) mine (digit_low path k)) mine)

pub invariant_of-self-then-change : goal.invariant_of-self-then-change
invariant_of-self-then-change g c =
    let told : c.putting-intent.result ≡ record { by = c.args.author.now.by; write = Put c.args.key (g.S.ValueSlots.value_of c.args.value) } = subst (λ (x : g.row.V.Denot). c.putting-intent.result ≡ record { by = c.args.author.now.by; write = Put c.args.key x }) c.lend_value.ensures c.putting-intent.ensures in
    let R = g.K.Ord.cmp in
    let path = g.K.PathKey.path_of in
    let s = c.self.inside in
    let k = c.args.key in
    let v = (g.S.ValueSlots.value_of c.args.value) in
    let mine : first_digit path k ≡ s.first_digit = c.requires.place ∙ sym (ap (λ (x : Content _ _). x.digit) c.self.view_is) in
    let is : c.put_key_where_along.new.self.entries ≡ with_pair R s.version.entries k v = subst (λ b. c.put_key_where_along.new.self.entries ≡ cond b (with_pair R s.version.entries k v) s.version.entries) c.if-change.true c.in_ok-change.ensures.entries in
    stripe_put R path g.P.Keeps.holds g.J.Naming.book s.first_digit s.version s.part c.self.invariant c.law_of_put.ensures.value g.met.K.PathKey.exact c.put_key_where_along.new.self c.write.new.self c.args.author.now k v c.putting-intent.result (ap (λ (e : Rattle.write_history.specs.declared.entry.Entry.Entry _ _). e.write) told) c.in_ok-change.ensures.limit is c.requires.rule mine c.write.ensures.digit c.write.ensures.wrote

pub returns-clause-wrote : goal.returns-clause-wrote
returns-clause-wrote g c = λ named.
    let told : c.putting-intent.result ≡ record { by = c.args.author.now.by; write = Put c.args.key (g.S.ValueSlots.value_of c.args.value) } = subst (λ (x : g.row.V.Denot). c.putting-intent.result ≡ record { by = c.args.author.now.by; write = Put c.args.key x }) c.lend_value.ensures c.putting-intent.ensures in
    let R = g.K.Ord.cmp in
    let path = g.K.PathKey.path_of in
    let s = c.self.inside in
    let k = c.args.key in
    let v = (g.S.ValueSlots.value_of c.args.value) in
    let signer = c.args.author.now in
    let before = option_map g.S.ValueSlots.value_of c.in_ok-change.change.previous in
    let mine : first_digit path k ≡ s.first_digit = c.requires.place ∙ sym (ap (λ (x : Content _ _). x.digit) c.self.view_is) in
    subst (λ (x : Content _ _). WroteIf R path c.in_ok-change.change.written (Put k v) k before signer x.log c.if-change.self.log) c.self.view_is
    (elim c.if-change.branch [
      | then-change w ↦
          subst (λ b. WroteIf R path b (Put k v) k before signer s.part.log c.if-change.self.log) (sym w.if-change.true)
          (subst (λ l. WroteIf R path true (Put k v) k before signer s.part.log l) (sym (ap (λ (x : Content _ _). x.log) w.self-is))
          (wrote R path g.P.Keeps.holds g.J.Naming.book s.first_digit s.version s.part c.self.invariant k (Put k v) signer before c.putting-intent.result w.write.new.self.log mine c.in_ok-change.ensures.before told w.write.ensures.wrote named))
      | else-change w ↦
          subst (λ b. WroteIf R path b (Put k v) k before signer s.part.log c.if-change.self.log) (sym w.if-change.false)
          (subst (λ l. WroteIf R path false (Put k v) k before signer s.part.log l) (sym (ap (λ (x : Content _ _). x.log) w.self-is))
          (wrote_nothing R path g.P.Keeps.holds g.J.Naming.book s.first_digit s.version s.part c.self.invariant k (Put k v) signer before mine c.in_ok-change.ensures.before named))
    ])

pub invariant_of-self-else-change : goal.invariant_of-self-else-change
invariant_of-self-else-change g c =
    let R = g.K.Ord.cmp in
    let s = c.self.inside in
    let is : c.put_key_where_along.new.self.entries ≡ s.version.entries = subst (λ b. c.put_key_where_along.new.self.entries ≡ cond b (with_pair R s.version.entries c.args.key (g.S.ValueSlots.value_of c.args.value)) s.version.entries) c.if-change.false c.in_ok-change.ensures.entries in
    stripe_stays R g.K.PathKey.path_of g.P.Keeps.holds g.J.Naming.book s.first_digit s.version s.part c.self.invariant c.put_key_where_along.new.self s.part c.in_ok-change.ensures.limit is refl (λ q mine. refl)
