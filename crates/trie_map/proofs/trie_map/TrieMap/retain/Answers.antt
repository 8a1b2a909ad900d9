use Rattle.trie_map.proofs.BothClauses.{if_ok_both}
use Rattle.trie_map.proofs.trie_map.TrieMap.retain.Goals as goal

pub returns-clause-few : goal.returns-clause-few
returns-clause-few g c =
    if_ok_both c.remove_all_failing-removed.result (λ removed means few. (c.in_ok-view.view, c.in_ok-view.ensures, means, few)) c.remove_all_failing-removed.ensures.means c.remove_all_failing-removed.ensures.few
