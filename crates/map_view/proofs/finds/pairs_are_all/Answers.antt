use Rattle.map_view.proofs.Finding.{are_all}
use Rattle.map_view.proofs.finds.pairs_are_all.Goals as goal

pub returns : goal.returns
returns g c = are_all
