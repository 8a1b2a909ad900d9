use Rattle.std.proofs.Common.{Option, sym, subst}
use Rattle.std.specs.Prelude.{option_map}
use Rattle.stripe.specs.Updates.{MayMake}
use Rattle.map_view.proofs.Keeping.{mapped_keeps}
use Rattle.trie_map.proofs.trie_map.TrieMap.update_with.Goals as goal

pub returns-in-Ok-clause-made : goal.returns-in-Ok-clause-made
returns-in-Ok-clause-made g c =
    let made = c.in-Ok.ensures.made in
    let before = c.in-Ok.field-0-0 in
    let old : Option g.row.V.Denot = option_map g.S.ValueSlots.value_of before in
    let at_old = subst (λ (o : Option g.row.V.Denot). MayMake g.F.FnOnce c.args.change o (made.0, made.1)) (sym c.in-Ok.ensures.before) made.2 in
    (old, made.0, mapped_keeps g.S.ValueSlots.value_of (g.P.Keeps.holds c.args.key) before c.in-Ok.ensures.kept, subst (λ (answer : g.row.T.Denot). MayMake g.F.FnOnce c.args.change old (made.0, answer)) (sym made.4) at_old)
