use Rattle.std.proofs.lemmas.Result.{IfOk-weaker}
use Rattle.trie_map.proofs.trie_map.TrieMap.par_group_fold.Goals as goal

pub returns : goal.returns
returns g c =
    IfOk-weaker c.par_group_fold-answer.result _ _ (λ sums fold. (c.in_ok-view.view, c.in_ok-view.ensures, fold)) c.par_group_fold-answer.ensures
