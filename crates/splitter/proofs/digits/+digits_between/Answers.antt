use Rattle.std.proofs.Common.{sym, subst}
use Rattle.splitter.proofs.Between.{IsBetween, none_below, none_of_none}
use Rattle.splitter.proofs.digits.+digits_between.Goals.{then-to-eq0-via-then-to-eq0, then-to-eq0-via-else-to-eq0+then-bitmap-eq0}
use Rattle.splitter.proofs.digits.+digits_between.Goals as goal

pub returns-then-to-eq0-clause-digits : goal.returns-then-to-eq0-clause-digits
returns-then-to-eq0-clause-digits t c =
    elim c.then-to-eq0.branch [
      | then-to-eq0-via-then-to-eq0 w ↦ subst (λ n. IsBetween c.args.from n c.args.bitmap 0) (sym w.if-to-eq0.true) (none_below c.args.from c.args.bitmap)
      | then-to-eq0-via-else-to-eq0+then-bitmap-eq0 w ↦ subst (λ n. IsBetween c.args.from c.args.to n 0) (sym w.if-bitmap-eq0.true) (none_of_none c.args.from c.args.to)
    ]
