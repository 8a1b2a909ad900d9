use Rattle.batch_cli.proofs.Filing.{answer_filed}
use Rattle.batch_cli.proofs.events.served.Goals as goal

pub returns : goal.returns
returns g c = answer_filed _ _ _ c.call-answer.result c.reply_of-reply.result c.call-answer.ensures.adds c.reply_of-reply.ensures.filed c.reply_of-reply.ensures.shown
