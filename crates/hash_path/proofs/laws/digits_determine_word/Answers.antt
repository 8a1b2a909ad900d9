use Rattle.hash_path.proofs.WordLaws.{spelled-prefix, shared-digits, word_of-spelled, spelled-injective}
use Rattle.hash_path.proofs.laws.digits_determine_word.Goals as goal

pub returns-clause-prefix : goal.returns-clause-prefix
returns-clause-prefix c = spelled-prefix

pub returns-clause-shared : goal.returns-clause-shared
returns-clause-shared c = shared-digits

pub returns-clause-back : goal.returns-clause-back
returns-clause-back c = word_of-spelled

pub returns-clause-injective : goal.returns-clause-injective
returns-clause-injective c = spelled-injective
