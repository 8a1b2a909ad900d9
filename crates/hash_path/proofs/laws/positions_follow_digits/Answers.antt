use Rattle.hash_path.proofs.WordLaws.{position-order, position-digit_order}
use Rattle.hash_path.proofs.laws.positions_follow_digits.Goals as goal

pub returns-clause-whole : goal.returns-clause-whole
returns-clause-whole c = position-order

pub returns-clause-at_level : goal.returns-clause-at_level
returns-clause-at_level c = position-digit_order
