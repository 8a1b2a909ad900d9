-- What is left of a subtrie, and of a root.
use Rattle.std.proofs.Common.{◌≡◌, ℕ, ◌+◌, ◌<◌, ◌≤◌, Bool, true, List, [], ◌∷◌, ◌++◌, length, map, Option, is_some, refl, sym, ap, ◌∙◌, subst, arith}
use Rattle.std.proofs.lemmas.Bool.{eq-eqb, eqb-true}
use Rattle.std.proofs.lemmas.List.{append-nil, length-append, length-map}
use Rattle.std.proofs.lemmas.List.Elements.{All-weaker}
use Rattle.std.specs.Prelude.{All, IfSome}
use Rattle.std.specs.declared.cmp.Ordering.{Ordering}
use Rattle.std.specs.declared.cmp.Ordering.TheVariants.{Equal}
use Rattle.std.specs.Cmp.{IsTotalOrder}
use Rattle.std.specs.FinMap.{find}
use Rattle.std.specs.Int.RustNames.{count_ones}
use Rattle.hash_path.specs.Digits.{digit, last_level}
use Rattle.std.specs.Borrow.{Bor}
use Rattle.trie_merging.specs.Merges.{StampsPass, pairs_of}
use Rattle.trie_merging.proofs.StampTests.{pass_listed}
use Rattle.trie_shape.specs.Looks.{ShowsBitmap, ShowsPairs}
use Rattle.trie_shape.specs.Roots.{map_of, word_of}
use Rattle.trie_shape.specs.Shape.{nodes}
use Rattle.trie_shape.specs.Tree.{Tree, branch, bucket, Trees, no_trees, more_trees, trees, digits_of, entries, entries_of_all, HasTwoWords, IsTrie, AreTries}
use Rattle.trie_shape.specs.View.{pair_values, tree}
use Rattle.trie_shape.specs.declared.node.Node.{Node}
use Rattle.trie_shape.proofs.Apart.{apart}
use Rattle.trie_shape.proofs.Bits.{IsOnceEach, length-digits_of, once_each}
use Rattle.trie_shape.proofs.Finds.{found_first}
use Rattle.trie_shape.proofs.Passing.{found_after, found_before}
use Rattle.trie_shape.proofs.Ways.{are_tries_long}
use Rattle.trie_filter.specs.Passing.{AreChosen, EachHasPairs, IsLeft, IsRow, PairsLeft, drawn_up, is_stamp, pairs_node}
use Rattle.trie_filter.proofs.Chosen.{found_chosen, listed_chosen, sorted_chosen}

module _ {K V : Type 0} (R : K → K → Ordering) (path : K → ℕ) (total : IsTotalOrder R) (exact : (x y : K) → R x y ≡ Equal → x ≡ y) where
  first_key : (es : List (K × V)) → 0 < length es → (q : K) × (is_some (find R q es) ≡ true)
  first_key [] some = absurd (omega (arith, some))
  first_key (e ∷ es) some = (e.0, ap is_some (found_first R total exact e es))

  -- two children have two words
  two_words : (level : ℕ) (ds : List ℕ) → IsOnceEach ds → (t u : Tree K V) (ts : Trees K V) → AreTries R path level ds (more_trees t (more_trees u ts)) → EachHasPairs (more_trees t (more_trees u ts)) → HasTwoWords R path (entries_of_all (more_trees t (more_trees u ts)))
  two_words level [] once t u ts h some = absurd h
  two_words level (d ∷ []) once t u ts h some = absurd h.2
  two_words level (d ∷ e ∷ ds) once t u ts h some =
      let q = first_key (entries t) some.0 in
      let r = first_key (entries u) some.1.0 in (
        q.0,
        (
          r.0,
          (
            found_before R path total q.0 (entries t) (entries u ++ entries_of_all ts) q.1,
            found_after R path total r.0 (entries t) (entries u ++ entries_of_all ts) (found_before R path total r.0 (entries u) (entries_of_all ts) r.1),
            λ same. once.0.0 (sym (h.2.0 r.0 r.1) ∙ ap (λ w. digit w level) (sym same) ∙ h.0 q.0 q.1),
          ),
        ),
      )

  -- an only child is a trie
  only_trie : (level : ℕ) (ds : List ℕ) (t : Tree K V) → AreTries R path level ds (more_trees t no_trees) → IsTrie R path (level + 1) t
  only_trie level [] t h = absurd h
  only_trie level (d ∷ ds) t h = h.1

  module _ (gives : K → V → Bool → Type 0) (level stamp : ℕ) where
    own_stamp : is_stamp stamp stamp ≡ true
    own_stamp = eq-eqb stamp stamp refl

    some_first : (t : Tree K V) (ts : Trees K V) → EachHasPairs (more_trees t ts) → 0 < length (entries t ++ entries_of_all ts)
    some_first t ts some = omega (arith, some.0, length-append (entries t) (entries_of_all ts))

    -- 1. What is left of the children of a branch below the root.
    children_left : 0 < level → level ≤ last_level → (t : Tree K V) (b size : ℕ) (row : List (Tree K V)) → IsRow R path gives level stamp (entries t) b size row → IsLeft R path gives level stamp t (drawn_up stamp size b row)
    children_left up depth t b size [] h = (h.chosen, tt)
    children_left up depth t b size (bucket old es ∷ []) h =
        let trie = only_trie level (digits_of b) (bucket old es) h.tries in
        (subst (AreChosen gives (entries t)) (append-nil es) h.chosen, ((up, trie.1, trie.2, trie.3), h.some.0, h.stamped.0))
    children_left up depth t b size (branch s n bitmap ts ∷ []) h =
        let child : Tree K V = branch s n bitmap ts in
        let two = (only_trie level (digits_of b) child h.tries).4 (omega arith) in (
          h.chosen,
          (
            (depth, h.small, h.counted, h.tries, λ _. subst (HasTwoWords R path) (sym (append-nil (entries child))) two),
            some_first child no_trees h.some,
            (own_stamp, h.stamped),
          ),
        )
    children_left up depth t b size (u ∷ v ∷ ts) h = (
      h.chosen,
      (
        (depth, h.small, h.counted, h.tries, λ _. two_words level (digits_of b) (once_each b) u v (trees ts) h.tries h.some),
        some_first u (more_trees v (trees ts)) h.some,
        (own_stamp, h.stamped),
      ),
    )

    pub drawn_left : 0 < level → level ≤ last_level → (t : Tree K V) (b size : ℕ) (row : List (Tree K V)) → IsRow R path gives level stamp (entries t) b size row → (o : Option (Tree K V)) → o ≡ drawn_up stamp size b row → IsLeft R path gives level stamp t o
    drawn_left up depth t b size row h o is = subst (IsLeft R path gives level stamp t) (sym is) (children_left up depth t b size row h)

    -- 2. What is left of a leaf or bucket.
    node_left : (old : ℕ) (es fs : List (K × V)) → IsTrie R path level (bucket old es) → AreChosen gives es fs → IfSome (pairs_node stamp fs) (λ u. IsTrie R path level u × (0 < length (entries u)) × StampsPass (is_stamp stamp) u)
    node_left old es [] trie h = tt
    node_left old es (x ∷ fs) trie h = (
      (trie.0, omega arith, (trie.2.0, λ q found. trie.2.1 q (found_chosen gives R q es (x ∷ fs) h found)), sorted_chosen gives R es (x ∷ fs) h trie.3),
      omega arith,
      own_stamp,
    )

    pub pairs_left : (ps : Bor (List (K × V))) (t : Tree K V) (o : Option (Tree K V)) → ShowsPairs ps.now t → IsTrie R path level t → PairsLeft gives stamp (map pair_values ps.now) o → IsLeft R path gives level stamp t o
    pairs_left ps (branch s n bitmap ts) o shown trie h = absurd shown
    pairs_left ps (bucket old es) o shown trie h =
        let chosen : AreChosen gives es (pairs_of o) = subst (λ xs. AreChosen gives xs (pairs_of o)) shown h.0 in
        (chosen, subst (λ x. IfSome x (λ u. IsTrie R path level u × (0 < length (entries u)) × StampsPass (is_stamp stamp) u)) (sym h.1) (node_left old es (pairs_of o) trie chosen))

  -- where a branch stands, and where no leaf or bucket does
  pub branch_depth : (level : ℕ) (t : Tree K V) (b : ℕ) → ShowsBitmap b t → IsTrie R path level t → level ≤ last_level
  branch_depth level (branch s n bitmap ts) b shown trie = trie.0
  branch_depth level (bucket s es) b shown trie = absurd shown

  pub pairs_depth : (t : Tree K V) (ps : Bor (List (K × V))) → ShowsPairs ps.now t → IsTrie R path 0 t → ⊥
  pairs_depth (branch s n bitmap ts) ps shown trie = absurd shown
  pairs_depth (bucket s es) ps shown trie = omega (arith, trie.0)

  -- 3. A row has a child for each digit of its bitmap.
  pub row_counted : {S X Y : Type 0} (gives : K → V → Bool → Type 0) (level stamp : ℕ) (es : List (K × V)) (b size : ℕ) (ns : List (Node K V S X Y)) → IsRow R path gives level stamp es b size (map tree ns) → length ns ≡ count_ones b
  row_counted gives level stamp es b size ns h = sym (length-map ns tree) ∙ are_tries_long R path level (digits_of b) (map tree ns) h.tries ∙ length-digits_of b h.small

  -- 4. The root.
  module _ (gives : K → V → Bool → Type 0) (stamp : ℕ) where
    pub root_left : (t u : Tree K V) (b size : ℕ) (row : List (Tree K V)) → IsRow R path gives 0 stamp (entries t) b size row → u ≡ branch stamp size b (trees row) → IsTrie R path 0 u
    root_left t u b size row h is = subst (IsTrie R path 0) (sym is) (omega arith, h.small, h.counted, h.tries, λ up. absurd (omega (arith, up)))

    pub map_left : (t u : Tree K V) (b size : ℕ) (row : List (Tree K V)) → IsTrie R path 0 t → IsRow R path gives 0 stamp (entries t) b size row → u ≡ branch stamp size b (trees row) → AreChosen gives (map_of R t) (map_of R u)
    map_left t u b size row trie h is =
        listed_chosen gives R total exact (entries t) (entries u) (apart R path exact total 0 t trie) (subst (λ x. AreChosen gives (entries t) (entries x)) (sym is) h.chosen)

    pub stamps_left : (t u : Tree K V) (b size : ℕ) (row : List (Tree K V)) → IsRow R path gives 0 stamp (entries t) b size row → u ≡ branch stamp size b (trees row) → All (λ node. node.1 ≡ stamp) (nodes (word_of path) u)
    stamps_left t u b size row h is =
        let pass : StampsPass (is_stamp stamp) u = subst (StampsPass (is_stamp stamp)) (sym is) (own_stamp gives 0 stamp, h.stamped) in
        All-weaker (λ n. is_stamp stamp n.1 ≡ true) (λ n. n.1 ≡ stamp) (λ n same. eqb-true n.1 stamp same) (nodes (word_of path) u) (pass_listed R path (is_stamp stamp) [] u pass)
