use Rattle.std.proofs.Common.{◌/◌, ◌%◌, ◌∙◌, sym}
use Rattle.splitter.proofs.SharedDigits.{digit_of_base}
use Rattle.splitter.proofs.digits.shared_digit.Goals as goal

pub returns-clause-digit : goal.returns-clause-digit
returns-clause-digit c word deep small less last same =
    let laws = c.shared_digits_are_interval.ensures in
    digit_of_base laws.step word laws.interval small c.args.level deep c.args.base less last same
    ∙ (λ n. c.args.base / sym c.weight_at.ensures n % sym c.from.ensures n)
