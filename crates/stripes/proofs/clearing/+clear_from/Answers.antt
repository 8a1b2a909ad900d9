use Rattle.std.proofs.Common.{ℕ, ◌<◌, ◌∷◌, List, Some, drop, length, slice_get, rules, arith, ap, sym, ◌∙◌}
use Rattle.std.specs.Sync.Mutex.{mutex_guard_value}
use Rattle.hash_path.specs.Digits.{fan_out}
use Rattle.stripe.specs.Contents.{Content}
use Rattle.stripes.specs.Stripes.{up_to}
use Rattle.stripes.proofs.Lending.{from_next, last_digit, length_snoc, one_longer, rest_digits}
use Rattle.stripes.proofs.clearing.+clear_from.Goals as goal

pub clear-requires : goal.clear-requires
clear-requires g t c =
    let rest = c.pop.new.self.items in
    let longer = one_longer mutex_guard_value c.args.held.items rest c.in-Some.stripe c.in-Some.ensures.items in
    let at = ap (λ (x : Content _ _). x.digit) c.deref_mut.ensures.value ∙ last_digit mutex_guard_value c.args.held.items rest c.in-Some.stripe c.in-Some.ensures.items c.requires.digits in
    omega (arith, at, longer, c.requires.few)

pub clear_from-cleared-requires : goal.clear_from-cleared-requires
clear_from-cleared-requires g t c κs within =
    let rest = c.pop.new.self.items in
    let longer = one_longer mutex_guard_value c.args.held.items rest c.in-Some.stripe c.in-Some.ensures.items in
    let at = ap (λ (x : Content _ _). x.digit) c.deref_mut.ensures.value ∙ last_digit mutex_guard_value c.args.held.items rest c.in-Some.stripe c.in-Some.ensures.items c.requires.digits in
    let fewer = ap length c.in-Some-pop.ensures.items ∙ length_snoc c.pop-in-Some.new.self.items c.in-Some-pop.empty in
    let low : length rest < fan_out = omega (arith, longer, c.requires.few) in
    let digits = rest_digits mutex_guard_value c.args.held.items rest c.in-Some.stripe c.in-Some.ensures.items c.requires.digits in
    (omega (arith, longer), (search rules, (search rules, (search rules, (search rules, (search rules, (search rules, (search rules, (digits, (omega (arith, longer, c.requires.few), (omega (arith, longer, fewer, c.requires.maps), (λ named. c.clear.ensures.lent named ∙ (ap (λ (d : ℕ). d ∷ c.args.all.digits) at ∙ (ap (λ (ds : List ℕ). length rest ∷ ds) (c.requires.behind named ∙ ap (λ (k : ℕ). drop k (up_to fan_out)) longer) ∙ sym (from_next fan_out (length rest) low)))))))))))))))

pub settle-requires-clause-small : goal.settle-requires-clause-small
settle-requires-clause-small g t c =
    let rest = c.pop.new.self.items in
    let longer = one_longer mutex_guard_value c.args.held.items rest c.in-Some.stripe c.in-Some.ensures.items in
    let at = c.first_digit-digit.ensures ∙ (ap (λ (x : Content _ _). x.digit) c.deref.ensures ∙ last_digit mutex_guard_value c.args.held.items rest c.in-Some.stripe c.in-Some.ensures.items c.requires.digits) in
    omega (arith, at, longer, c.requires.few)

pub settle-requires-clause-next : goal.settle-requires-clause-next
settle-requires-clause-next g t c = λ named.
    let rest = c.pop.new.self.items in
    let longer = one_longer mutex_guard_value c.args.held.items rest c.in-Some.stripe c.in-Some.ensures.items in
    let at = c.first_digit-digit.ensures ∙ (ap (λ (x : Content _ _). x.digit) c.deref.ensures ∙ last_digit mutex_guard_value c.args.held.items rest c.in-Some.stripe c.in-Some.ensures.items c.requires.digits) in
    let low : length rest < fan_out = omega (arith, longer, c.requires.few) in
    ap (λ (ds : List ℕ). slice_get ds 0) (c.clear_from-cleared.ensures.rest named ∙ from_next fan_out (length rest) low) ∙ ap Some (sym at)

pub returns-in-Some-pop-clause-rest : goal.returns-in-Some-pop-clause-rest
returns-in-Some-pop-clause-rest g t c = λ named.
    let rest = c.pop.new.self.items in
    let longer = one_longer mutex_guard_value c.args.held.items rest c.in-Some.stripe c.in-Some.ensures.items in
    let low : length rest < fan_out = omega (arith, longer, c.requires.few) in
    c.settle.ensures.rest ∙ (ap (λ (ds : List ℕ). drop 1 ds) (c.clear_from-cleared.ensures.rest named ∙ from_next fan_out (length rest) low) ∙ ap (λ (k : ℕ). drop k (up_to fan_out)) (sym longer))
