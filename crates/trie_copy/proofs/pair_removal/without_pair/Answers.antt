use Rattle.std.proofs.Common.{◌≡◌, ◌++◌, ◌-◌, ◌+◌, map, take, drop, length, sym, ap, ◌∙◌, append-nil, subst, IfOk}
use Rattle.trie_shape.specs.Tree.{bucket}
use Rattle.trie_shape.specs.View.{tree, pair_values}
use Rattle.trie_shape.proofs.Shortened.{parts_remove}
use Rattle.trie_copy.proofs.pair_removal.without_pair.Goals as goal

pub returns : goal.returns
returns g c =
    let a = c.args in
    let cs = a.pairs.now in
    let front = map pair_values (take a.at cs) in
    let back = map pair_values (take (length cs - (a.at + 1)) (drop (a.at + 1) cs)) in
    let first = c.in_ok-push_pairs.ensures ∙ ap (λ ps. map pair_values ps ++ front) c.in_ok-rest.ensures.items in
    let e = c.in_ok-push_pairs-2.ensures ∙ ap (λ ps. ps ++ back) (first ∙ sym (append-nil front)) ∙ parts_remove pair_values cs a.at c.requires.within in
    subst (λ xs. IfOk c.make_bucket.result (λ n. tree n ≡ bucket a.stamp.0 xs)) e c.make_bucket.ensures
