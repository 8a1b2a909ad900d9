use Rattle.splitter.proofs.CutLaws.{cuts_divide, uncut_is_small}
use Rattle.splitter.proofs.laws.law_of_cuts.Goals as goal

pub returns : goal.returns
returns g c =
    let path = g.K.PathKey.path_of in
    let order = c.positions_follow_digits.ensures.at_level in
    let interval = c.shared_digits_are_interval.ensures.interval in
    let shared = c.digits_determine_word.ensures.shared in
    record {
      divide = cuts_divide path order interval shared g.met.K.PathKey.small c.intervals_tile.ensures.cut;
      small = uncut_is_small path order interval shared g.met.K.PathKey.small c.intervals_tile.ensures.cut;
    }
