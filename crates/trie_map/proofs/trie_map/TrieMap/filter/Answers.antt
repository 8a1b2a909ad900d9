use Rattle.trie_map.proofs.BothClauses.{if_ok_both}
use Rattle.trie_map.proofs.trie_map.TrieMap.filter.Goals as goal

pub returns-clause-entries : goal.returns-clause-entries
returns-clause-entries g c =
    if_ok_both c.filter-2.result (λ made entries few. (c.in_ok-view.field-0, c.in_ok-view.ensures, entries, few)) c.filter-2.ensures.entries c.filter-2.ensures.few
