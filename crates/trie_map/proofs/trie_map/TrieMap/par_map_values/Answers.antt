use Rattle.trie_map.proofs.BothClauses.{if_ok_both}
use Rattle.trie_map.proofs.trie_map.TrieMap.par_map_values.Goals as goal

pub returns-clause-entries : goal.returns-clause-entries
returns-clause-entries g c =
    if_ok_both c.par_map_values-answer.result (λ made entries given. (c.in_ok-view.view, c.in_ok-view.ensures, entries, given)) c.par_map_values-answer.ensures.entries c.par_map_values-answer.ensures.given
