use Rattle.std.proofs.Common.{◌<◌, ◌^◌, [], ◌∷◌, get_or, ap, arith}
use Rattle.std.proofs.lemmas.Bool.{leb-true, le-leb}
use Rattle.hash_path.specs.Digits.{word_bits}
use Rattle.tests_trie_memory.proofs.tests.words.is_under_last_child.Goals as goal

-- the words whose digit 0 is 31 share it with the word 31
pub returns : goal.returns
returns c =
    let small : c.args.word < 2 ^ word_bits = omega (arith, c.ranges.word) in
    let interval = c.shared_digits_are_interval.ensures.interval 1 31 c.args.word (omega arith) (omega arith) small in (
      λ h.
          ap (λ ds. get_or ds 0 0)
          (interval.1 (omega (arith, leb-true _ _ h, c.position.ensures), omega (arith, c.position.type_inv, c.position.ensures))),
      λ h. le-leb _ _ (omega (arith, (interval.0 (ap (λ d. d ∷ []) h)).0, c.position.ensures)),
    )
