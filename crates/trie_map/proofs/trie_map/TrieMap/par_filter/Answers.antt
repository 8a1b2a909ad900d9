use Rattle.trie_map.proofs.BothClauses.{if_ok_both}
use Rattle.trie_map.proofs.trie_map.TrieMap.par_filter.Goals as goal

pub returns-clause-entries : goal.returns-clause-entries
returns-clause-entries g c =
    if_ok_both c.par_filter-answer.result (λ made entries chosen. (c.in_ok-view.view, c.in_ok-view.ensures, entries, chosen)) c.par_filter-answer.ensures.entries c.par_filter-answer.ensures.chosen
