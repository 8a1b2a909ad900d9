use Rattle.audit.proofs.ReplyPartLemmas.{pair_read}
use Rattle.audit.proofs.reply_parts.pair_in_reply.Goals as goal

pub returns : goal.returns
returns c = pair_read c.args.query.now c.args.test.now c.args.view.now c.in-Some.key.now c.args.reply.now c.pair_at.result c.requires c.in-Some.ensures c.pair_at.ensures
