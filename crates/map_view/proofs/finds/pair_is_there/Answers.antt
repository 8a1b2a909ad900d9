use Rattle.map_view.proofs.Finding.{is_there}
use Rattle.map_view.proofs.finds.pair_is_there.Goals as goal

pub returns : goal.returns
returns g c = is_there
