use Rattle.std.proofs.Common.{◌≡◌, ℕ, List, ap, sym, ◌∙◌, subst}
use mathlib.Core.List.{IsPrefix}
use Rattle.hash_path.specs.Digits.{digit}
use Rattle.stripe.specs.Rules.{first_digit}
use Rattle.stripe.specs.Contents.{Content}
use Rattle.write_history.specs.declared.entry.Entry.{Entry}
use Rattle.map_session.specs.Sessions.{Seen}
use Rattle.map_session.proofs.Refusals.{is_full, says_full}
use Rattle.map_session.proofs.session.Session.write.Goals as goal

pub returns-in-Ok-clause-full : goal.returns-in-Ok-clause-full
returns-in-Ok-clause-full g c =
    let found = c.in-Ok.ensures.full in
    let here : c.deref_mut.result.now.digit ≡ first_digit g.K.PathKey.path_of (g.S.KeySlots.key_of c.args.key) = ap (λ (x : Content _ _). x.digit) c.deref_mut.ensures.value ∙ (c.stripe_at-stripe.ensures ∙ ap (λ (n : ℕ). digit n 0) c.requires.path) in
    let log : c.self.inside.front ≡ c.args.self.now.log = ap (λ (x : Seen _ _). x.log) c.self.view_is in
    (found.0, found.1, subst (λ (l : List (Entry _ _)). IsPrefix l found.0) log found.2, (λ q mine. found.3 q (mine ∙ sym here)), found.4)

pub returns-clause-full : goal.returns-clause-full
returns-clause-full g c =
    let found = c.in-Err.ensures.full in
    let here : c.deref_mut.result.now.digit ≡ first_digit g.K.PathKey.path_of (g.S.KeySlots.key_of c.args.key) = ap (λ (x : Content _ _). x.digit) c.deref_mut.ensures.value ∙ (c.stripe_at-stripe.ensures ∙ ap (λ (n : ℕ). digit n 0) c.requires.path) in
    let log : c.self.inside.front ≡ c.args.self.now.log = ap (λ (x : Seen _ _). x.log) c.self.view_is in
    says_full c.put_behind.result c.of.result c.in-Err.refusal _ c.of.ensures.full.0
    (λ is. (found.0, found.1, subst (λ (l : List (Entry _ _)). IsPrefix l found.0) log found.2, (λ q mine. found.3 q (mine ∙ sym here)), is_full c.put_behind.result c.in-Err.refusal _ found.4 is))
