use Rattle.std.proofs.Common.{◌≡◌, [], refl, ap, sym, ◌∙◌, arith}
use Rattle.versions.specs.Map.{value_at}
use Rattle.stripe.specs.Contents.{Content}
use Rattle.stripe.specs.Told.{Tells}
use Rattle.stripes.proofs.Moments.{digit_low, prefix_self}
use Rattle.stripes.proofs.Tallies.{leaves_from}
use Rattle.stripes.proofs.stripes.Stripes.+count_from.Goals as goal

pub returns-then-digit-eq-STRIPES-clause-seen : goal.returns-then-digit-eq-STRIPES-clause-seen
returns-then-digit-eq-STRIPES-clause-seen g t c = prefix_self c.args.front.now

pub returns-then-digit-eq-STRIPES-clause-count : goal.returns-then-digit-eq-STRIPES-clause-count
returns-then-digit-eq-STRIPES-clause-count g t c =
    ([], (refl, (λ q low. refl), (λ q from. absurd (let low = digit_low g.K.PathKey.path_of q in omega (arith, from, low)))), refl)

pub returns-clause-count : goal.returns-clause-count
returns-clause-count g t c =
    let R = g.K.Ord.cmp in
    let path = g.K.PathKey.path_of in
    let seen = c.count_from-rest.new.front in
    let now = c.deref.result.now in
    let behind = c.count_from-rest.ensures.count in
    let digit : c.deref_mut-2.result.now.digit ≡ c.args.digit = ap (λ (s : Content _ _). s.digit) c.deref_mut-2.ensures.value ∙ (c.see.ensures.digit ∙ (ap (λ (s : Content _ _). s.digit) c.deref_mut.ensures.value ∙ c.locked-stripe.ensures)) in
    let tells : Tells R path c.args.digit now.entries seen = λ q here. ap (λ (s : Content _ _). value_at R s.entries q) (c.deref.ensures ∙ c.stands.ensures.same) ∙ c.stands.ensures.tells c.law.ensures q (here ∙ sym digit) in
    let made = c.with_rest.ensures.map behind.0 behind.1.0 behind.1.1 behind.2 in
    (made.0, leaves_from R path c.args.digit now.entries behind.0 made.0 seen behind.1 tells made.1 made.2 made.3 made.4, made.5)
