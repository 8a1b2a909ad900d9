use Rattle.std.proofs.Common.{sym, ◌∙◌, subst}
use Rattle.std.proofs.lemmas.Result.{IfOk-weaker}
use Rattle.stripe.specs.Rules.{AllKeep, Belongs}
use Rattle.stripe.specs.Contents.{Content}
use Rattle.stripe.specs.Updates.{MayPass}
use Rattle.versions.specs.Map.{value_at}
use Rattle.trie_map.proofs.Deciding.{removed_passes, removed_where}
use Rattle.map_view.proofs.Keeping.{some_keeps}
use Rattle.trie_map.proofs.trie_map.TrieMap.remove_where.Goals as goal

pub returns-clause-tested : goal.returns-clause-tested
returns-clause-tested g c =
    let R = g.K.Ord.cmp in
    let H = g.P.Keeps.holds in
    let key = g.Q.Sought.key_of c.args.key in
    let stripe = c.deref_mut.result.now in
    let here = value_at R stripe.entries key in
    let law : AllKeep R (Belongs g.K.PathKey.path_of H stripe.digit) stripe.entries =
    subst (λ (s : Content g.row.K.Denot g.row.V.Denot). AllKeep R (Belongs g.K.PathKey.path_of H s.digit) s.entries) (c.deref.ensures ∙ sym c.deref_mut.ensures.value) c.law.ensures.pairs
    in
    let told = c.remove_passing.ensures.removed in
    IfOk-weaker c.remove_passing.result _ _
    (λ removed is. (here, some_keeps (H key) here (λ v found. (law key v found).0), subst (MayPass g.F.FnOnce c.args.test here) (removed_where g.F.FnOnce c.args.test g.S.ValueSlots.value_of here told.0 removed told.1 is) told.1))
    told.3

pub returns-clause-removed : goal.returns-clause-removed
returns-clause-removed g c =
    let told = c.remove_passing.ensures.removed in
    let here = value_at g.K.Ord.cmp c.deref_mut.result.now.entries (g.Q.Sought.key_of c.args.key) in
    IfOk-weaker c.remove_passing.result _ _ (λ removed is. removed_passes g.F.FnOnce c.args.test g.S.ValueSlots.value_of here told.0 removed told.1 is) told.3
