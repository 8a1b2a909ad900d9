use Rattle.std.proofs.Common.{[], ◌∷◌, ◌++◌, length, sym, ap, ◌∙◌}
use Rattle.trie_shape.proofs.Ones.{ones_single}
use Rattle.splitter.proofs.subtrie_root.branch_above.Goals as goal

pub make_branch-requires : goal.make_branch-requires
make_branch-requires g c =
    ap length c.as_mut_slice.ensures.value
    ∙ ap length c.in_ok-push.ensures.items
    ∙ ap (λ xs. length (xs ++ c.args.node ∷ [])) c.in_ok-row.ensures.items
    ∙ sym (ones_single c.args.digit c.requires.digit)
