use Rattle.journal_text.proofs.HeardLemmas.{front_read}
use Rattle.journal_text.proofs.asked.behind.Goals as goal

pub returns : goal.returns
returns c = front_read (λ x. x.now) c.strip_prefix.result c.args.text.now c.args.front.now c.strip_prefix.ensures.cases
