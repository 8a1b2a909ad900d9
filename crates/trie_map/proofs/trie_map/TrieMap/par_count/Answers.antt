use Rattle.trie_map.proofs.BothClauses.{if_ok_both}
use Rattle.trie_map.proofs.trie_map.TrieMap.par_count.Goals as goal

pub returns : goal.returns
returns g c =
    if_ok_both c.par_count-answer.result (λ count counted few. (c.in_ok-view.view, c.in_ok-view.ensures, counted, few)) c.par_count-answer.ensures.count c.par_count-answer.ensures.few
