use Rattle.std.proofs.Common.{sym, ◌∙◌, subst}
use Rattle.std.specs.Prelude.{option_map}
use Rattle.stripe.specs.Rules.{AllKeep, Belongs}
use Rattle.stripe.specs.Contents.{Content}
use Rattle.stripe.specs.Updates.{MayMake}
use Rattle.versions.specs.Map.{value_at}
use Rattle.trie_map.proofs.Deciding.{done_made, failed_made}
use Rattle.map_view.proofs.Keeping.{some_keeps}
use Rattle.trie_map.proofs.trie_map.TrieMap.try_update.Goals as goal

pub returns-in-Ok-clause-failed : goal.returns-in-Ok-clause-failed
returns-in-Ok-clause-failed g c =
    let R = g.K.Ord.cmp in
    let H = g.P.Keeps.holds in
    let made = c.in-Ok.ensures.made in
    let stripe = c.deref_mut.result.now in
    let old = value_at R stripe.entries c.args.key in
    let law : AllKeep R (Belongs g.K.PathKey.path_of H stripe.digit) stripe.entries =
    subst (λ (s : Content g.row.K.Denot g.row.V.Denot). AllKeep R (Belongs g.K.PathKey.path_of H s.digit) s.entries) (c.deref.ensures ∙ sym c.deref_mut.ensures.value) c.law.ensures.pairs
    in
    failed_made R _ _ _ _ made.0 c.in-Ok.done made.2 (λ e is. (old, some_keeps (H c.args.key) old (λ v found. (law c.args.key v found).0), subst (MayMake g.F.FnOnce c.args.change old) is made.1))

pub returns-in-Ok-clause-made : goal.returns-in-Ok-clause-made
returns-in-Ok-clause-made g c =
    let made = c.in-Ok.ensures.made in
    let old = value_at g.K.Ord.cmp c.deref_mut.result.now.entries c.args.key in
    done_made g.K.Ord.cmp _ _ _ (option_map g.S.ValueSlots.value_of) old (MayMake g.F.FnOnce c.args.change) made.0 c.in-Ok.done made.2 c.in-Ok.ensures.before made.1
