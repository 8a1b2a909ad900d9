use Rattle.std.proofs.Common.{rules, arith}
use Rattle.trie_lookups.proofs.way.+find_from.Goals as goal

pub find_from-requires : goal.find_from-requires
find_from-requires g t c κs within =
    let leads = c.in-Child.ensures in
    (omega (arith, leads.0), (search rules, (search rules, (search rules, (search rules, (search rules, (search rules, (leads.1, c.requires.path))))))))
