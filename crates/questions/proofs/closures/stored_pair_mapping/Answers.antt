use Rattle.arguments.specs.Questions.{image_of}
use Rattle.questions.proofs.closures.stored_pair_mapping.Goals as goal

pub new-requires : goal.new-requires
new-requires c = (image_of c.args.mapping, λ key value image is. is)
