use Rattle.std.proofs.Common.{◌≡◌, ◌||◌, ℕ, is_some, ap, ◌∙◌}
use Rattle.hash_path.specs.Digits.{digit}
use Rattle.stripe.specs.Rules.{first_digit}
use Rattle.stripe.specs.Contents.{Content}
use Rattle.map_session.specs.Sessions.{Seen}
use Rattle.map_session.proofs.Refusals.{found_there, is_full, says_full}
use Rattle.map_session.proofs.Updated.{if_err, read_by, told_by}
use Rattle.std.proofs.lemmas.Result.{IfOk-weaker}
use Rattle.std.specs.Prelude.{option_map}
use Rattle.map_session.proofs.session.Session.try_update.Goals as goal

pub returns-in-Ok-clause-full : goal.returns-in-Ok-clause-full
returns-in-Ok-clause-full g c =
    let R = g.K.Ord.cmp in
    let path = g.K.PathKey.path_of in
    let told = c.in-Ok.ensures.full in
    let here : c.deref_mut.result.now.digit ≡ first_digit path c.args.key = ap (λ (x : Content _ _). x.digit) c.deref_mut.ensures.value ∙ (c.stripe_at-stripe.ensures ∙ ap (λ (n : ℕ). digit n 0) c.path-path.ensures) in
    let log : c.self.inside.front ≡ c.args.self.now.log = ap (λ (x : Seen _ _). x.log) c.self.view_is in
    (told.0, found_there R path _ _ _ _ _ _ here log (λ pairs holds. holds) told.1)

pub returns-clause-full : goal.returns-clause-full
returns-clause-full g c =
    let R = g.K.Ord.cmp in
    let path = g.K.PathKey.path_of in
    let told = c.in-Err.ensures.full in
    let here : c.deref_mut.result.now.digit ≡ first_digit path c.args.key = ap (λ (x : Content _ _). x.digit) c.deref_mut.ensures.value ∙ (c.stripe_at-stripe.ensures ∙ ap (λ (n : ℕ). digit n 0) c.path-path.ensures) in
    let log : c.self.inside.front ≡ c.args.self.now.log = ap (λ (x : Seen _ _). x.log) c.self.view_is in
    says_full c.try_update_behind.result c.of.result c.in-Err.refusal _ c.of.ensures.full.0
    (λ is. (told.0, found_there R path _ _ _ _ _ _ here log (λ pairs holds. (holds.0, is_full c.try_update_behind.result c.in-Err.refusal _ holds.1 is)) told.1))

pub returns-in-Ok-clause-wrote : goal.returns-in-Ok-clause-wrote
returns-in-Ok-clause-wrote g c =
    let now : Seen g.row.K.Denot g.row.V.Denot = record { log = c.try_update_behind.new.front; signer = c.try_update_behind.new.author } in
    IfOk-weaker c.in-Ok.done _ _
    (λ before told.
    let all = told_by g.K.Ord.cmp g.K.PathKey.path_of c.args.key c.self.inside.author c.self.inside.front c.args.self.now now c.self.view_is (is_some told.0 || is_some before) told.0 (option_map g.S.ValueSlots.value_of before) told.2 told.3 in
    (told.0, told.1, all.0, all.1))
    c.in-Ok.ensures.made

pub returns-in-Ok-clause-failed : goal.returns-in-Ok-clause-failed
returns-in-Ok-clause-failed g c =
    let now : Seen g.row.K.Denot g.row.V.Denot = record { log = c.try_update_behind.new.front; signer = c.try_update_behind.new.author } in
    if_err c.in-Ok.done
    (λ error told.
    let all = read_by g.K.Ord.cmp g.K.PathKey.path_of c.args.key c.self.inside.author c.self.inside.front c.args.self.now now c.self.view_is told.0 told.1 told.3 in
    (told.0, all.0, told.2, all.1))
    c.in-Ok.ensures.failed
