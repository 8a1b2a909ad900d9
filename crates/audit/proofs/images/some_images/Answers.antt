use Rattle.audit.proofs.ReplyPartLemmas.{made_of}
use Rattle.audit.proofs.images.some_images.Goals as goal

pub returns-clause-image : goal.returns-clause-image
returns-clause-image c =
    made_of c.args._mapping.now c.requires.0 c.args.query.now c.args.view.now c.in_ok-part.part c.conclude-made.result.1 c.in-Some.map c.requires.1 c.in_ok-part.ensures c.conclude-made.ensures.map c.in-Some.is
