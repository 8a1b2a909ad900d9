use Rattle.std.proofs.Common.{◌≡◌, [], ◌++◌, Some, ap, map, subst, sym, ◌∙◌}
use Rattle.trie_shape.specs.Tree.{entries}
use Rattle.trie_shape.specs.View.{pair_values, tree}
use Rattle.iter.specs.Bunches.{held, pairs_at, pairs_held, unread_pairs}
use Rattle.iter.specs.Stacks.{subtries}
use Rattle.iter.specs.Subtries.{pairs_of_all}
use Rattle.iter.proofs.Bunches.{all_held, empty_of, front_pushed, held_pairs}
use Rattle.iter.proofs.unread_pairs.UnreadPairs.next_bunch.Goals as goal
use Rattle.iter.proofs.unread_pairs.UnreadPairs.next_bunch.Goals.{then-is_empty+in-Some-Bucket, else-is_empty}

-- the bucket is at its end, and the subtrie is the next
pub returns-in-Some-Few-clause-pairs : goal.returns-in-Some-Few-clause-pairs
returns-in-Some-Few-clause-pairs g c =
    let old = c.args.self.now in
    let places = c.push_subtrie.new.bunch.items in
    let ps = entries (tree c.in-Some-Few.node.now) in
    let before = pairs_of_all (subtries old.ahead) in
    let after = pairs_of_all (subtries c.next_few.new.self) in
    let none : old.bucket.now ≡ [] = empty_of old.bucket.now c.is_empty.result c.is_empty.ensures c.if-is_empty.true in
    let pushed : map held places ≡ map Some ps = c.push_subtrie.ensures ∙ ap (λ xs. map held xs ++ map Some ps) c.clear.ensures in
    let next : before ≡ ps ++ after = subst (λ s. before ≡ pairs_at s ++ after) c.in-Some-Few.field-0-is c.in-Some-Few.ensures.some in
    ap (λ xs. map pair_values xs ++ before) none ∙ next ∙ ap (λ ys. ys ++ after) (sym (held_pairs places ps pushed)) ∙ ap (λ xs. pairs_held places ++ (map pair_values xs ++ after)) (sym none)

pub returns-in-Some-Few-clause-held : goal.returns-in-Some-Few-clause-held
returns-in-Some-Few-clause-held g c =
    let ps = entries (tree c.in-Some-Few.node.now) in
    all_held c.push_subtrie.new.bunch.items ps (c.push_subtrie.ensures ∙ ap (λ xs. map held xs ++ map Some ps) c.clear.ensures)

-- of a bucket the front is pushed
pub returns-clause-pairs : goal.returns-clause-pairs
returns-clause-pairs g c =
    let old = c.args.self.now in
    let new = c.if-is_empty.self in
    let front = c.split_at.result.0.now in
    let back = c.split_at.result.1.now in
    let places = c.push_pairs.new.bunch.items in
    let bucket = new.bucket.now in
    let left = pairs_of_all (subtries new.ahead) in
    let pushed : map held places ≡ map Some (map pair_values front) = c.push_pairs.ensures ∙ ap (λ xs. map held xs ++ map Some (map pair_values front)) c.clear.ensures in
    let here : unread_pairs old ≡ unread_pairs new = elim c.if-is_empty.branch [
      | then-is_empty+in-Some-Bucket w ↦
          let none : old.bucket.now ≡ [] = empty_of old.bucket.now c.is_empty.result c.is_empty.ensures w.if-is_empty.true in
          let before = pairs_of_all (subtries old.ahead) in
          let next = subst (λ s. before ≡ pairs_at s ++ pairs_of_all (subtries w.next_few.new.self)) w.in-Some-Bucket.field-0-is w.in-Some-Bucket.ensures.some in
          ap (λ xs. map pair_values xs ++ before) none ∙ next ∙ ap (unread_pairs {K = g.row.K.Denot} {V = g.row.V.Denot}) (sym w.self-is)
      | else-is_empty w ↦ ap (unread_pairs {K = g.row.K.Denot} {V = g.row.V.Denot}) (sym w.self-is)
    ] in
    here ∙ front_pushed places bucket front back left pushed c.split_at.ensures.by_index.0

pub returns-clause-held : goal.returns-clause-held
returns-clause-held g c =
    let front = map pair_values c.split_at.result.0.now in
    all_held c.push_pairs.new.bunch.items front (c.push_pairs.ensures ∙ ap (λ xs. map held xs ++ map Some front) c.clear.ensures)
