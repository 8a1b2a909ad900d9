use Rattle.std.proofs.Common.{◌≡◌, ℕ, ap, ◌∙◌}
use Rattle.hash_path.specs.Digits.{digit}
use Rattle.stripe.specs.Rules.{first_digit}
use Rattle.stripe.specs.Contents.{Content}
use Rattle.map_session.specs.Sessions.{Seen}
use Rattle.map_session.proofs.Refusals.{found_there, is_full, says_full}
use Rattle.map_session.proofs.session.Session.put_shared.Goals as goal

pub returns-in-Ok-clause-full : goal.returns-in-Ok-clause-full
returns-in-Ok-clause-full g c =
    let path = g.K.PathKey.path_of in
    let here : c.deref_mut.result.now.digit ≡ first_digit path c.args.key = ap (λ (x : Content _ _). x.digit) c.deref_mut.ensures.value ∙ (c.stripe_at-stripe.ensures ∙ ap (λ (n : ℕ). digit n 0) c.path-path.ensures) in
    let log : c.self.inside.front ≡ c.args.self.now.log = ap (λ (x : Seen _ _). x.log) c.self.view_is in
    found_there g.K.Ord.cmp path _ _ _ _ _ _ here log (λ pairs holds. holds) c.in-Ok.ensures.full

pub returns-clause-full : goal.returns-clause-full
returns-clause-full g c =
    let path = g.K.PathKey.path_of in
    let here : c.deref_mut.result.now.digit ≡ first_digit path c.args.key = ap (λ (x : Content _ _). x.digit) c.deref_mut.ensures.value ∙ (c.stripe_at-stripe.ensures ∙ ap (λ (n : ℕ). digit n 0) c.path-path.ensures) in
    let log : c.self.inside.front ≡ c.args.self.now.log = ap (λ (x : Seen _ _). x.log) c.self.view_is in
    says_full c.put_key_behind.result c.of.result c.in-Err.refusal _ c.of.ensures.full.0
    (λ is. found_there g.K.Ord.cmp path _ _ _ _ _ _ here log (λ pairs holds. is_full c.put_key_behind.result c.in-Err.refusal _ holds is) c.in-Err.ensures.full)
