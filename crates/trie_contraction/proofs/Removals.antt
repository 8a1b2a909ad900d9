-- What is left of a trie by a removal is a trie.
use Rattle.std.proofs.Common.{◌≡◌, ℕ, zero, suc, ◌+◌, ◌<◌, Bool, true, false, cond, List, [], ◌∷◌, length, Option, Some, None, is_some, refl, sym, ap, ◌∙◌, subst, arith, length-append, get_or, set, ◌==◌, ◌&&◌, ◌%◌, ◌^◌, ◌*◌}
use Rattle.std.specs.List.{remove}
use Rattle.std.specs.Int.{bit_at, bit_not, w32}
use Rattle.std.specs.Int.RustNames.{count_ones, bit_and}
use mathlib.Core.Bool.{false≢true}
use Rattle.std.proofs.lemmas.List.{append-nil}
use Rattle.std.proofs.lemmas.List.Elements.{All-tail}
use Rattle.std.specs.declared.cmp.Ordering.{Ordering}
use Rattle.std.specs.declared.cmp.Ordering.TheVariants.{Equal}
use Rattle.std.specs.Ordering.{eq_by_cmp}
use Rattle.std.specs.Cmp.{IsTotalOrder}
use Rattle.std.specs.FinMap.{find}
use Rattle.hash_path.specs.Digits.{digit, fan_out}
use Rattle.trie_shape.specs.Tree.{Tree, branch, bucket, Trees, no_trees, more_trees, trees, entries, entries_of_all, IsTrie, AreTries, digits_of, HasTwoWords}
use Rattle.trie_shape.specs.Shape.{nodes_below, nodes_of_all, IsRestamped, Restamps}
use Rattle.trie_shape.specs.Roots.{word_of}
use Rattle.trie_copy.specs.Writes.{Writes}
use Rattle.trie_copy.specs.Removals.{is_removable, IsTaken, IsOnly, Leaves}
use Rattle.trie_shape.specs.Drawn.{drawn_up}
use Rattle.trie_shape.proofs.Bits.{IsOnceEach, once_each}
use Rattle.trie_shape.proofs.Finds.{found_first, tied}
use Rattle.trie_shape.proofs.Passing.{found_before, found_after}
use Rattle.trie_copy.proofs.Branches.{Changes, writes_of_two, changes_replaced, changes_dropped}
use Rattle.trie_shape.proofs.Tries.{no_child, one_child}

module _ {K V : Type 0} (R : K → K → Ordering) (path : K → ℕ) (total : IsTotalOrder R) (exact : (x y : K) → R x y ≡ Equal → x ≡ y) where
  -- in a trie below the root a key is found
  some_found : (level : ℕ) (t : Tree K V) → IsTrie R path level t → 0 < level → (q : K) × (is_some (find R q (entries t)) ≡ true)
  some_found level (branch stamp size bitmap ts) h up = let two = h.4 up in (two.0, two.1.1.0)
  some_found level (bucket stamp []) h up = absurd (omega (arith, h.1))
  some_found level (bucket stamp (e ∷ es)) h up = (e.0, ap is_some (found_first R total exact e es))

  -- below two children keys of two words are found
  two_children : (level : ℕ) (ds : List ℕ) (t u : Tree K V) (ts : Trees K V) → IsOnceEach ds → AreTries R path level ds (more_trees t (more_trees u ts)) → HasTwoWords R path (entries_of_all (more_trees t (more_trees u ts)))
  two_children level [] t u ts once h = absurd h
  two_children level (d ∷ []) t u ts once h = absurd h.2
  two_children level (d ∷ e ∷ ds) t u ts once h =
      let q = some_found (level + 1) t h.1 (omega arith) in
      let r = some_found (level + 1) u h.2.1 (omega arith) in (
        q.0,
        (
          r.0,
          (
            found_before R path total q.0 (entries t) (entries_of_all (more_trees u ts)) q.1,
            found_after R path total r.0 (entries t) (entries_of_all (more_trees u ts)) (found_before R path total r.0 (entries u) (entries_of_all ts) r.1),
            λ same. once.0.0 (sym (h.2.0 r.0 r.1) ∙ ap (λ w. digit w level) (sym same) ∙ h.0 q.0 q.1),
          ),
        ),
      )

  -- and below an only child that is a branch
  only_branch : (level : ℕ) (ds : List ℕ) (stamp size bitmap : ℕ) (ts : Trees K V) → AreTries R path level ds (more_trees (branch stamp size bitmap ts) no_trees) → HasTwoWords R path (entries_of_all (more_trees (branch stamp size bitmap ts) no_trees))
  only_branch level [] stamp size bitmap ts h = absurd h
  only_branch level (d ∷ ds) stamp size bitmap ts h = subst (HasTwoWords R path) (sym (append-nil (entries_of_all ts))) (h.1.4 (omega arith))

  -- of two words one is left
  one_left : (k : K) (old new : List (K × V)) → HasTwoWords R path old → ((q : K) → find R q new ≡ cond (eq_by_cmp R q k) None (find R q old)) → (q : K) × (is_some (find R q new) ≡ true)
  one_left k old new h finds = of_first (eq_by_cmp R h.0 k) refl
    where
      other : (q : K) → is_some (find R q old) ≡ true → eq_by_cmp R q k ≡ false → is_some (find R q new) ≡ true
      other q found e = ap is_some (finds q) ∙ ap (λ b. is_some (cond b None (find R q old))) e ∙ found

      of_second : (b : Bool) → eq_by_cmp R h.0 k ≡ true → eq_by_cmp R h.1.0 k ≡ b → (q : K) × (is_some (find R q new) ≡ true)
      of_second true e f = absurd (h.1.1.2 (ap path (exact h.0 k (tied (R h.0 k) e) ∙ sym (exact h.1.0 k (tied (R h.1.0 k) f)))))
      of_second false e f = (h.1.0, other h.1.0 h.1.1.1 f)

      of_first : (b : Bool) → eq_by_cmp R h.0 k ≡ b → (q : K) × (is_some (find R q new) ≡ true)
      of_first true e = of_second (eq_by_cmp R h.1.0 k) e refl
      of_first false e = (h.0, other h.0 h.1.1.0 e)

  -- a leaf or bucket has one name wherever it stands
  only_nodes : (level : ℕ) (p ds : List ℕ) (stamp : ℕ) (es : List (K × V)) → AreTries R path level ds (more_trees (bucket stamp es) no_trees) →
      nodes_of_all (word_of path) p ds (more_trees (bucket stamp es) no_trees) ≡ nodes_below (word_of path) p (bucket stamp es)
  only_nodes level p [] stamp es h = absurd h
  only_nodes level p (d ∷ []) stamp [] h = refl
  only_nodes level p (d ∷ []) stamp (e ∷ es) h = refl
  only_nodes level p (d ∷ x ∷ ds) stamp es h = absurd h.2

  only_trie : (level : ℕ) (ds : List ℕ) (t : Tree K V) → AreTries R path level ds (more_trees t no_trees) → IsTrie R path (level + 1) t
  only_trie level [] t h = absurd h
  only_trie level (d ∷ ds) t h = h.1

  -- the only child of a branch takes its place
  draws_up : (level stamp : ℕ) (k : K) (given : Option V) (old : Tree K V) (stamp1 size bitmap stamp2 : ℕ) (es : List (K × V)) → 0 < level →
      Changes R path level stamp k given old (branch stamp1 size bitmap (more_trees (bucket stamp2 es) no_trees)) → Writes R path level stamp k given old (bucket stamp2 es)
  draws_up level stamp k given old stamp1 size bitmap stamp2 es up c =
      let trie = only_trie level (digits_of bitmap) (bucket stamp2 es) c.near.3 in
      record {
        trie = (up, trie.1, trie.2, trie.3);
        finds = λ q. ap (find R q) (sym (append-nil es)) ∙ c.finds q;
        least = omega (arith, c.least, length-append es []);
        most = omega (arith, c.most, length-append es []);
        stamps = λ p deep on. subst (Restamps stamp (word_of path k) (nodes_below (word_of path) p old)) (only_nodes level p (digits_of bitmap) stamp2 es c.near.3)
            (All-tail (IsRestamped stamp (word_of path k) (nodes_below (word_of path) p old)) (p, stamp1) (nodes_of_all (word_of path) p (digits_of bitmap) (more_trees (bucket stamp2 es) no_trees)) (c.stamps p deep on));
      }

  -- a branch without a key, drawn up where that is needed
  pub removes_drawn_up : (level stamp : ℕ) (k : K) (old new : Tree K V) → (0 < level → HasTwoWords R path (entries old)) → Changes R path level stamp k None old new → Writes R path level stamp k None old (drawn_up level new)
  removes_drawn_up zero stamp k old new two c = writes_of_two R path total exact zero stamp k None old new c (λ up. absurd (omega arith))
  removes_drawn_up (suc level) stamp k old (bucket stamp1 es) two c = absurd c.near
  removes_drawn_up (suc level) stamp k old (branch stamp1 size bitmap no_trees) two c =
      let left = one_left k (entries old) [] (two (omega arith)) c.finds in
      absurd (false≢true left.1)
  removes_drawn_up (suc level) stamp k old (branch stamp1 size bitmap (more_trees (bucket stamp2 es) no_trees)) two c = draws_up (suc level) stamp k None old stamp1 size bitmap stamp2 es (omega arith) c
  removes_drawn_up (suc level) stamp k old (branch stamp1 size bitmap (more_trees (branch stamp2 size2 bitmap2 us) no_trees)) two c =
      writes_of_two R path total exact (suc level) stamp k None old _ c (λ up. only_branch (suc level) (digits_of bitmap) stamp2 size2 bitmap2 us c.near.3)
  removes_drawn_up (suc level) stamp k old (branch stamp1 size bitmap (more_trees (bucket stamp2 es) (more_trees u ts))) two c =
      writes_of_two R path total exact (suc level) stamp k None old _ c (λ up. two_children (suc level) (digits_of bitmap) (bucket stamp2 es) u ts (once_each bitmap) c.near.3)
  removes_drawn_up (suc level) stamp k old (branch stamp1 size bitmap (more_trees (branch stamp2 size2 bitmap2 us) (more_trees u ts))) two c =
      writes_of_two R path total exact (suc level) stamp k None old _ c (λ up. two_children (suc level) (digits_of bitmap) (branch stamp2 size2 bitmap2 us) u ts (once_each bitmap) c.near.3)

  -- a branch has as many pairs drawn up as not
  length_drawn_up : (level : ℕ) (t : Tree K V) → length (entries (drawn_up level t)) ≡ length (entries t)
  length_drawn_up zero t = refl
  length_drawn_up (suc level) (bucket stamp es) = refl
  length_drawn_up (suc level) (branch stamp size bitmap no_trees) = refl
  length_drawn_up (suc level) (branch stamp size bitmap (more_trees (branch stamp2 size2 bitmap2 us) no_trees)) = refl
  length_drawn_up (suc level) (branch stamp size bitmap (more_trees (branch stamp2 size2 bitmap2 us) (more_trees u ts))) = refl
  length_drawn_up (suc level) (branch stamp size bitmap (more_trees (bucket stamp2 es) no_trees)) = omega (arith, length-append es [])
  length_drawn_up (suc level) (branch stamp size bitmap (more_trees (bucket stamp2 es) (more_trees u ts))) = refl

  some_length : (k : K) (v : V) (es : List (K × V)) → find R k es ≡ Some v → 0 < length es
  some_length k v [] e = absurd (false≢true (ap is_some e))
  some_length k v (e ∷ es) f = omega arith

  module _ (level stamp : ℕ) (k : K) (holds : Option V → Bool) (d : ℕ) (here : digit (path k) level ≡ d) (below : d < fan_out) (before size bitmap : ℕ) (ts : List (Tree K V)) (old : Tree K V) (is : old ≡ branch before size bitmap (trees ts)) (trie : IsTrie R path level old) where
    -- nothing is removed where no child has the digit
    pub removes_absent : (bit_at bitmap d == 1) ≡ false → (None ≡ find R k (entries old)) × (is_removable R k holds (entries old) ≡ false)
    removes_absent lacks =
        let ok = subst (IsTrie R path level) is trie in
        let none : find R k (entries old) ≡ None = ap (λ t. find R k (entries t)) is ∙ no_child R path level bitmap d below ts ok.3 exact k here lacks in
        (sym none, ap (λ o. is_some o && holds o) none)

    module _ (has : (bit_at bitmap d == 1) ≡ true) (t : Tree K V) (at : t ≡ get_or ts (count_ones (bitmap % 2 ^ d)) t) where
      -- what is found of the key is found below the child of its digit
      find_below_child : find R k (entries old) ≡ find R k (entries t)
      find_below_child =
          let ok = subst (IsTrie R path level) is trie in
          ap (λ x. find R k (entries x)) is ∙ ((one_child R path level bitmap d below ts ok.3 exact k here has).child t at).1

      -- nothing is removed where nothing is below the child
      pub removes_nothing : (found : Option V) → (found ≡ find R k (entries t)) × (is_removable R k holds (entries t) ≡ false) → (found ≡ find R k (entries old)) × (is_removable R k holds (entries old) ≡ false)
      removes_nothing found h = (h.0 ∙ sym find_below_child, ap (λ o. is_some o && holds o) find_below_child ∙ h.1)

      taken_below : (v : V) → IsTaken R k holds t v → IsTaken R k holds old v
      taken_below v h = (find_below_child ∙ h.0, h.1)

      -- there is a pair where one is removed
      pub some_size : (v : V) → IsTaken R k holds t v → 0 < size
      some_size v h =
          let ok = subst (IsTrie R path level) is trie in
          omega (arith, ok.2, some_length k v (entries_of_all (trees ts)) (ap (λ x. find R k (entries x)) (sym is) ∙ (taken_below v h).0))

      two_words : 0 < level → HasTwoWords R path (entries old)
      two_words up = subst (λ x. HasTwoWords R path (entries x)) (sym is) ((subst (IsTrie R path level) is trie).4 up)

      leaves : (v : V) → IsTaken R k holds t v → (size2 narrower : ℕ) (us : List (Tree K V)) → size2 + 1 ≡ size → Changes R path level stamp k None old (branch stamp size2 narrower (trees us)) →
          Leaves R path level stamp k holds old v (drawn_up level (branch stamp size2 narrower (trees us)))
      leaves v taken size2 narrower us sized c =
          let ok = subst (IsTrie R path level) is trie in
          record {
            taken = taken_below v taken;
            writes = removes_drawn_up level stamp k old (branch stamp size2 narrower (trees us)) two_words c;
            fewer = omega (arith, length_drawn_up level (branch stamp size2 narrower (trees us)), c.near.2, sized, ok.2, ap (λ x. length (entries x)) is);
          }

      -- the child of the digit was all that had the key
      pub removes_gone : (v : V) → IsTaken R k holds t v → IsOnly R k t → (size2 : ℕ) → size2 + 1 ≡ size →
          Leaves R path level stamp k holds old v (drawn_up level (branch stamp size2 (bit_and bitmap (bit_not w32 (1 * 2 ^ d % 2 ^ 32))) (trees (remove ts (count_ones (bitmap % 2 ^ d))))))
      removes_gone v taken only size2 sized =
          leaves v taken size2 _ _ sized (changes_dropped R path total exact level stamp k None d here below before size bitmap ts old is trie has t at only.finds only.one size2 _ sized refl)

      -- something is left of the child of the digit
      pub removes_left : (v : V) (u : Tree K V) → Leaves R path (level + 1) stamp k holds t v u → (size2 : ℕ) → size2 + 1 ≡ size →
          Leaves R path level stamp k holds old v (drawn_up level (branch stamp size2 bitmap (trees (set ts (count_ones (bitmap % 2 ^ d)) u))))
      removes_left v u left size2 sized =
          leaves v left.taken size2 _ _ sized (changes_replaced R path total exact level stamp k None d here below before size bitmap ts old is trie has t u at left.writes size2 _ (omega (arith, sized, left.fewer)) refl)
