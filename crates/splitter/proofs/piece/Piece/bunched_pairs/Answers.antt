use Rattle.std.proofs.Common.{◌≤◌, length, subst}
use Rattle.splitter.specs.Portion.{Portion}
use Rattle.versions.specs.declared.version.TheConstants.{MOST_PAIRS}
use Rattle.splitter.proofs.piece.Piece.bunched_pairs.Goals as goal

-- the piece's map is that of its view
pub returns-clause-few : goal.returns-clause-few
returns-clause-few g c = subst (λ (p : Portion g.row.K.Denot g.row.V.Denot). length p.map ≤ MOST_PAIRS) c.self.view_is c.len.ensures.few
