use Rattle.std.proofs.Common.{◌≡◌}
use Rattle.arguments.specs.Questions.{image_of}
use Rattle.audit.proofs.ImageLemmas.{IsWalked}
use Rattle.audit.proofs.images.with_read.Given as goal

-- what the walk has done so far
abbrev pub invariant-loop-key : goal.invariant-loop-key
invariant-loop-key l = record {
  next : goal.iterator-loop-key.can_next l.key-iterator;
  finite : goal.iterator-loop-key.is_finite l.key-iterator;
  walked : IsWalked (image_of l.fn.mapping) l.fn.view l.fn.read.entries l.key-iterator.rest l.map.entries;
  limit : l.map.limit ≡ l.fn.some.limit;
  stamp : l.map.stamp ≡ l.fn.some.stamp;
}
