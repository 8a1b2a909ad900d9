use Rattle.std.proofs.lemmas.Result.{IfOk-weaker}
use Rattle.trie_map.proofs.trie_map.TrieMap.replace_all.Goals as goal

pub returns : goal.returns
returns g c = record {
  few = IfOk-weaker c.replace_each-given.result _ _ (λ given few. (c.in_ok-view.view, c.in_ok-view.ensures, few)) c.replace_each-given.ensures.few;
}
