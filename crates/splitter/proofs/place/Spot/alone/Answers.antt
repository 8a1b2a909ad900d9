use Rattle.std.proofs.Common.{◌≡◌, drop, length, map, take, sym, ap, ◌∙◌}
use Rattle.std.proofs.lemmas.Result.{IfOk-weaker}
use Rattle.hash_path.specs.Digits.{fan_out}
use Rattle.iter.specs.Subtries.{children_between, pairs_of_all}
use Rattle.trie_shape.specs.Tree.{IsTrie, digits_of, entries}
use Rattle.trie_shape.specs.View.{tree}
use Rattle.splitter.proofs.Alone.{alone_long, alone_trie}
use Rattle.splitter.proofs.Rows.{digits_at_start}
use Rattle.splitter.proofs.place.Spot.alone.Goals as goal

pub make_branch-requires : goal.make_branch-requires
make_branch-requires g c =
    let R = g.K.Ord.cmp in
    let path = g.K.PathKey.path_of in
    let s = c.args.self.now in
    let t = tree s.branch.now in
    let bits = c.digits_between-bitmap in
    let digits : digits_of bits.result ≡ drop s.from (take s.to (digits_of s.bitmap)) = digits_at_start bits.result ∙ bits.ensures.digits fan_out 0 ∙ ap (λ ds. drop s.from (take s.to ds)) (sym (digits_at_start s.bitmap)) in
    ap length c.as_mut_slice.ensures.value ∙ alone_long R path s.level t s.bitmap s.from s.to bits.result c.in_ok-row.row.items c.requires.trie c.requires.shown bits.ensures.few digits c.in_ok-row.ensures

pub returns-clause-trie : goal.returns-clause-trie
returns-clause-trie g c =
    let R = g.K.Ord.cmp in
    let path = g.K.PathKey.path_of in
    let s = c.args.self.now in
    let t = tree s.branch.now in
    let bits = c.digits_between-bitmap in
    let digits : digits_of bits.result ≡ drop s.from (take s.to (digits_of s.bitmap)) = digits_at_start bits.result ∙ bits.ensures.digits fan_out 0 ∙ ap (λ ds. drop s.from (take s.to ds)) (sym (digits_at_start s.bitmap)) in
    let deep = c.trie_follows_digits.ensures.branch t s.level s.bitmap c.requires.trie c.requires.shown in
    IfOk-weaker c.make_branch.result _ (λ n. IsTrie R path s.level (tree n))
    (λ n is. (alone_trie R path s.level t (tree n) s.bitmap s.from s.to c.args.count bits.result (map tree c.as_mut_slice.result.now) c.requires.trie c.requires.shown bits.ensures.few digits c.requires.count c.requires.two deep (ap (map tree) c.as_mut_slice.ensures.value ∙ c.in_ok-row.ensures) is).0) c.make_branch.ensures

pub returns-clause-entries : goal.returns-clause-entries
returns-clause-entries g c =
    let R = g.K.Ord.cmp in
    let path = g.K.PathKey.path_of in
    let s = c.args.self.now in
    let t = tree s.branch.now in
    let bits = c.digits_between-bitmap in
    let digits : digits_of bits.result ≡ drop s.from (take s.to (digits_of s.bitmap)) = digits_at_start bits.result ∙ bits.ensures.digits fan_out 0 ∙ ap (λ ds. drop s.from (take s.to ds)) (sym (digits_at_start s.bitmap)) in
    let deep = c.trie_follows_digits.ensures.branch t s.level s.bitmap c.requires.trie c.requires.shown in
    IfOk-weaker c.make_branch.result _ (λ n. entries (tree n) ≡ pairs_of_all (children_between t s.from s.to))
    (λ n is. (alone_trie R path s.level t (tree n) s.bitmap s.from s.to c.args.count bits.result (map tree c.as_mut_slice.result.now) c.requires.trie c.requires.shown bits.ensures.few digits c.requires.count c.requires.two deep (ap (map tree) c.as_mut_slice.ensures.value ∙ c.in_ok-row.ensures) is).1) c.make_branch.ensures
