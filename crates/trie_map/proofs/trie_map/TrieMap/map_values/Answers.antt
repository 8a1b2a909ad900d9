use Rattle.trie_map.proofs.BothClauses.{if_ok_both}
use Rattle.trie_map.proofs.trie_map.TrieMap.map_values.Goals as goal

pub returns-clause-entries : goal.returns-clause-entries
returns-clause-entries g c =
    if_ok_both c.map_values-made.result (λ made entries few. (c.in_ok-view.view, c.in_ok-view.ensures, entries, few)) c.map_values-made.ensures.entries c.map_values-made.ensures.few
