use Rattle.std.proofs.Common.{◌+◌, ◌-◌, length, arith, ap, sym, subst}
use Rattle.trie_shape.specs.View.{tree}
use Rattle.iter.specs.Stacks.{Descend}
use Rattle.iter.specs.Subtries.{AllStand}
use Rattle.iter.proofs.Subtries.{children_stand}
use Rattle.iter.proofs.ahead.Ahead.below.Goals as goal

pub returns-clause-sound : goal.returns-clause-sound
returns-clause-sound g c =
    let R = g.K.Ord.cmp in
    let path = g.K.PathKey.path_of in
    let t = tree c.args.branch.now in
    let stand = children_stand R path c.args.level c.args.from c.args.to t (λ u n lt e. c.trie_follows_digits.ensures.below t u c.args.level n c.requires.trie lt e) in
    let none = ap length c.new.ensures.items in
    record {
      deep = omega (arith, none);
      low = omega (arith, c.requires.level);
      room = omega (arith, c.new.ensures.capacity);
      within = c.between.ensures.within;
      here = subst (AllStand R path (c.args.level + 1)) (sym c.between.ensures.trees) stand;
      above = subst (Descend R path (c.args.level + 1 - length c.new.result.items)) (sym c.new.ensures.items) tt;
    }
