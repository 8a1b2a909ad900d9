use Rattle.std.specs.FinMap.{is_sorted}
use Rattle.std.proofs.lemmas.Float.{T_from_true}
use Rattle.iter.specs.Intervals.{parts}
use Rattle.iter.proofs.Parts.{true_of, part_is_parts, find_parts, parts_map, parts_by_cover, parts_apart, parts_union, tiles_all}
use Rattle.iter.proofs.laws.parts_follow_intervals.Goals as goal

pub returns : goal.returns
returns g c =
    let R = g.K.Ord.cmp in
    let path = g.K.PathKey.path_of in
    let exact = g.met.K.PathKey.exact in
    let united = c.union_of_maps.ensures in
    record {
      one = part_is_parts path;
      value = find_parts path R exact;
      map = λ m is h. true_of (is_sorted R (parts path m is)) (parts_map path R exact m is (T_from_true (is_sorted R m) h));
      cover = parts_by_cover path;
      apart = parts_apart path R exact;
      union = λ m is js h. parts_union path R exact united.value united.map g.met.K.Ord.total m is js (T_from_true (is_sorted R m) h);
      whole = tiles_all path c.position_is_bijection.ensures.below g.met.K.PathKey.small;
    }
