use Rattle.std.proofs.Common.{◌≡◌, ◌+◌, ◌<◌, length, arith}
use Rattle.trie_shape.specs.Outline.{children}
use Rattle.trie_shape.specs.View.{tree}
use Rattle.splitter.proofs.Alone.{leaf_rises, pairs_of_only, two_of_branch, two_of_many}
use Rattle.splitter.proofs.place.Spot.lone.Goals as goal
use Rattle.splitter.proofs.place.Spot.lone.Goals.{then-self-eq0-via-then-self-eq0, then-self-eq0-via-else-self-eq0+then-self-gt1}

pub returns-then-self-eq0 : goal.returns-then-self-eq0
returns-then-self-eq0 g c =
    let s = c.args.self.now in
    elim c.then-self-eq0.branch [
      | then-self-eq0-via-then-self-eq0 w ↦ λ up. absurd (omega (arith, up, w.if-self-eq0.true))
      | then-self-eq0-via-else-self-eq0+then-self-gt1 w ↦ λ up. two_of_many g.K.Ord.cmp g.K.PathKey.path_of s.level g.met.K.Ord.total g.met.K.PathKey.exact (tree s.branch.now) s.bitmap s.from s.to c.requires.trie c.requires.shown (omega (arith, w.if-self-gt1.true)) c.requires.within
    ]

pub returns-in-Branch : goal.returns-in-Branch
returns-in-Branch g c up =
    let R = g.K.Ord.cmp in
    let path = g.K.PathKey.path_of in
    let s = c.args.self.now in
    let t = tree s.branch.now in
    let u = tree c.child-only.result.now in
    let there : s.from < length (children t) = omega (arith, c.requires.some, c.requires.within) in
    let only : s.to ≡ s.from + 1 = omega (arith, c.requires.some, c.if-self-gt1.false) in
    let trie = (c.trie_follows_digits.ensures.below t u s.level s.from c.requires.trie there c.child-only.ensures).0 in
    two_of_branch R path s.level t u c.in-Branch.field-0 s.from s.to trie c.in-Branch.ensures (pairs_of_only R path s.level t u s.from s.to only there c.child-only.ensures)

pub returns-in-Pairs : goal.returns-in-Pairs
returns-in-Pairs g c =
    let R = g.K.Ord.cmp in
    let path = g.K.PathKey.path_of in
    let s = c.args.self.now in
    let t = tree s.branch.now in
    let u = tree c.child-only.result.now in
    let there : s.from < length (children t) = omega (arith, c.requires.some, c.requires.within) in
    let only : s.to ≡ s.from + 1 = omega (arith, c.requires.some, c.if-self-gt1.false) in
    let trie = (c.trie_follows_digits.ensures.below t u s.level s.from c.requires.trie there c.child-only.ensures).0 in
    (omega (arith, c.if-self-eq0.false), leaf_rises R path s.level u c.in-Pairs.field-0 trie c.in-Pairs.ensures, pairs_of_only R path s.level t u s.from s.to only there c.child-only.ensures)
