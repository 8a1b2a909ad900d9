use Rattle.std.proofs.Common.{◌≡◌, ◌+◌, ◌-◌, ◌/◌, ◌<◌, ℕ, suc, ◌∷◌, length, get_or, sym, ap, ◌∙◌, subst, arith}
use Rattle.hash_path.specs.Digits.{fan_out}
use Rattle.trie_shape.specs.Tree.{digits_from}
use Rattle.splitter.proofs.Rows.{digits_at_start, set_next, unset_next}
use Rattle.splitter.proofs.digits.nth_digit.Goals.{then-rest-eq1+else-left-eq0, else-rest-eq1}
use Rattle.splitter.proofs.digits.nth_digit.Goals as goal

pub loop-digit-init : goal.loop-digit-init
loop-digit-init c =
    let start = digits_at_start c.args.bitmap in
    record { same = ap (λ ds. get_or ds c.args.n 0) start; within = subst (λ ds. c.args.n < length ds) start c.requires }

pub loop-digit-preserved : goal.loop-digit-preserved
loop-digit-preserved c =
    let l = c.loop-digit in
    let k : ℕ = fan_out - (l.digit + 1) in
    let more : fan_out - l.digit ≡ suc k = omega (arith, c.loop-digit-test.true) in
    let here = ap (λ n. digits_from n l.digit l.rest) more in
    elim c.if-rest-eq1.branch [
      | then-rest-eq1+else-left-eq0 w ↦
          let all = here ∙ set_next k l.digit l.rest w.if-rest-eq1.true in
          let left = c.if-rest-eq1.left in
          let one : l.left ≡ suc left = omega (arith, w.left-is, w.if-left-eq0.false) in
          record {
            same = l.invariant.same ∙ ap (λ ds. get_or ds l.left 0) all ∙ ap (λ n. get_or (l.digit ∷ digits_from k (l.digit + 1) (l.rest / 2)) n 0) one;
            within = omega (arith, l.invariant.within, ap length all, one);
          }
      | else-rest-eq1 w ↦
          let all = here ∙ unset_next k l.digit l.rest w.if-rest-eq1.false in
          record {
            same = l.invariant.same ∙ ap (λ ds. get_or ds l.left 0) all ∙ ap (λ n. get_or (digits_from k (l.digit + 1) (l.rest / 2)) n 0) (sym w.left-is);
            within = omega (arith, l.invariant.within, ap length all, w.left-is);
          }
    ]
