use Rattle.splitter.specs.Cuts.{cut_point}
use Rattle.core_steps.proofs.KeptBoards.{cuts_within, board_kept, first_is_board}
use Rattle.core_steps.proofs.laws.law_of_boards.Goals as goal

pub returns : goal.returns
returns g c =
    let path = g.K.PathKey.path_of in
    record {
      first = λ workers some. first_is_board workers some;
      kept = λ m grain workers size settled b x there is. board_kept (λ i. cut_point path m i grain) (cuts_within path c.law_of_cuts.ensures.divide m grain) workers size settled b x there is;
    }
