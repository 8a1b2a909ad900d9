use Rattle.audit.proofs.ReplyPartLemmas.{key_parted}
use Rattle.audit.proofs.pairs.key_in_reply.Goals as goal

pub returns : goal.returns
returns c = key_parted (λ f. f.now) c.args.reply.now c.in_ok-pair.pair.now c.front_of.result c.in_ok-pair.ensures.cases.0 c.in_ok-pair.ensures.cases.1 c.front_of.ensures
