-- Some children of a branch as a branch of their own.
use Rattle.std.proofs.Common.{◌≡◌, ℕ, zero, suc, ◌+◌, ◌^◌, ◌<◌, ◌≤◌, true, List, [], ◌∷◌, ◌++◌, length, map, get_or, take, drop, is_some, refl, sym, ap, ◌∙◌, subst, arith, length-drop, length-take}
use Rattle.std.proofs.lemmas.List.{append-nil, length-map}
use Rattle.std.specs.declared.cmp.Ordering.{Ordering}
use Rattle.std.specs.declared.cmp.Ordering.TheVariants.{Equal}
use Rattle.std.specs.Cmp.{IsTotalOrder}
use Rattle.std.specs.FinMap.{find}
use Rattle.std.specs.Int.RustNames.{count_ones}
use Rattle.hash_path.specs.Digits.{digit, fan_out, last_level}
use Rattle.trie_shape.specs.Looks.{ShowsBitmap, ShowsPairs}
use Rattle.trie_shape.specs.Outline.{children, list_of}
use Rattle.trie_shape.specs.Tree.{Tree, branch, bucket, Trees, no_trees, more_trees, trees, entries, entries_of_all, digits_of, AreTries, IsTrie, HasTwoWords}
use Rattle.trie_shape.specs.View.{tree}
use Rattle.trie_shape.specs.declared.node.Node.{Node}
use Rattle.trie_shape.proofs.Bits.{length-digits_of}
use Rattle.trie_shape.proofs.Counts.{has_pair}
use Rattle.trie_shape.proofs.Finds.{found_first}
use Rattle.trie_shape.proofs.Passing.{found_before, found_after}
use Rattle.trie_shape.proofs.Ways.{are_tries_long}
use Rattle.iter.specs.Subtries.{children_between, pairs_of_all}
use Rattle.splitter.proofs.Divisions.{one_of}
use Rattle.splitter.proofs.Rows.{Rises, digits_of_rise, rises_drop, rises_take}
use denote.Ref.{Bor}

listed : {K V : Type 0} (ts : Trees K V) → trees (list_of ts) ≡ ts
listed no_trees = refl
listed (more_trees t ts) = ap (more_trees t) (listed ts)

pairs_listed : {K V : Type 0} (ts : List (Tree K V)) → entries_of_all (trees ts) ≡ pairs_of_all ts
pairs_listed [] = refl
pairs_listed (t ∷ ts) = ap (λ es. entries t ++ es) (pairs_listed ts)

module _ {K V : Type 0} (R : K → K → Ordering) (path : K → ℕ) (level : ℕ) where
  tries_take : (n : ℕ) (ds : List ℕ) (ts : List (Tree K V)) → AreTries R path level ds (trees ts) → AreTries R path level (take n ds) (trees (take n ts))
  tries_take zero ds ts h = tt
  tries_take (suc n) [] [] h = tt
  tries_take (suc n) [] (t ∷ ts) h = absurd h
  tries_take (suc n) (d ∷ ds) [] h = absurd h
  tries_take (suc n) (d ∷ ds) (t ∷ ts) h = (h.0, h.1, tries_take n ds ts h.2)

  tries_drop : (n : ℕ) (ds : List ℕ) (ts : List (Tree K V)) → AreTries R path level ds (trees ts) → AreTries R path level (drop n ds) (trees (drop n ts))
  tries_drop zero ds ts h = h
  tries_drop (suc n) [] [] h = tt
  tries_drop (suc n) [] (t ∷ ts) h = absurd h
  tries_drop (suc n) (d ∷ ds) [] h = absurd h
  tries_drop (suc n) (d ∷ ds) (t ∷ ts) h = tries_drop n ds ts h.2

  -- some children, each with its digit
  tries_between : (t : Tree K V) (b from to : ℕ) → IsTrie R path level t → ShowsBitmap b t → AreTries R path level (drop from (take to (digits_of b))) (trees (children_between t from to))
  tries_between (bucket stamp es) b from to trie shown = absurd shown
  tries_between (branch stamp size bitmap ts) b from to trie shown =
      let all : AreTries R path level (digits_of b) (trees (list_of ts)) = subst (AreTries R path level (digits_of b)) (sym (listed ts)) (subst (λ n. AreTries R path level (digits_of n) ts) (sym shown) trie.3) in
      tries_drop from (take to (digits_of b)) (take to (list_of ts)) (tries_take to (digits_of b) (list_of ts) all)

  bitmap_small : (t : Tree K V) (b : ℕ) → IsTrie R path level t → ShowsBitmap b t → b < 2 ^ fan_out
  bitmap_small (branch stamp size bitmap ts) b trie shown = omega (arith, trie.1, shown)
  bitmap_small (bucket stamp es) b trie shown = absurd shown

  -- a branch of these children alone
  pub alone_trie : {stamp : ℕ} (t u : Tree K V) (b from to size bits : ℕ) (us : List (Tree K V)) → IsTrie R path level t → ShowsBitmap b t → bits ≤ b → digits_of bits ≡ drop from (take to (digits_of b)) → size ≡ length (pairs_of_all (children_between t from to))
      → (0 < level → HasTwoWords R path (pairs_of_all (children_between t from to))) → level ≤ last_level → us ≡ children_between t from to → u ≡ branch stamp size bits (trees us) → IsTrie R path level u × (entries u ≡ pairs_of_all (children_between t from to))
  alone_trie t u b from to size bits us trie shown few digits count two deep children is =
      let all = pairs_listed us ∙ ap pairs_of_all children in
      let row = subst (λ ds. AreTries R path level ds (trees us)) (sym digits) (subst (λ xs. AreTries R path level (drop from (take to (digits_of b))) (trees xs)) (sym children) (tries_between t b from to trie shown)) in (
        subst (IsTrie R path level) (sym is) (deep, omega (arith, few, bitmap_small t b trie shown), count ∙ sym (ap length all), row, λ up. subst (HasTwoWords R path) (sym all) (two up)),
        ap entries is ∙ all,
      )

  -- as many as the bitmap of their digits has
  pub alone_long : {S X Y : Type 0} (t : Tree K V) (b from to bits : ℕ) (ns : List (Node K V S X Y)) → IsTrie R path level t → ShowsBitmap b t → bits ≤ b → digits_of bits ≡ drop from (take to (digits_of b)) → map tree ns ≡ children_between t from to → length ns ≡ count_ones bits
  alone_long t b from to bits ns trie shown few digits same =
      let row = subst (λ ds. AreTries R path level ds (trees (children_between t from to))) (sym digits) (tries_between t b from to trie shown) in
      sym (length-map ns tree) ∙ ap length same ∙ are_tries_long R path level (digits_of bits) (children_between t from to) row ∙ length-digits_of bits (omega (arith, few, bitmap_small t b trie shown))

  module _ (total : IsTotalOrder R) (exact : (x y : K) → R x y ≡ Equal → x ≡ y) where
    a_key : (t : Tree K V) → IsTrie R path (level + 1) t → (q : K) × (is_some (find R q (entries t)) ≡ true)
    a_key t trie = first (entries t) (has_pair R path (level + 1) t trie (omega arith))
      where
        first : (es : List (K × V)) → 0 < length es → (q : K) × (is_some (find R q es) ≡ true)
        first [] some = absurd (omega arith)
        first (e ∷ es) some = (e.0, ap is_some (found_first R total exact e es))

    two_of_row : (low high : ℕ) (ds : List ℕ) (ts : List (Tree K V)) → Rises low high ds → AreTries R path level ds (trees ts) → 1 < length ts → HasTwoWords R path (entries_of_all (trees ts))
    two_of_row low high ds [] rise h many = absurd (omega arith)
    two_of_row low high ds (t ∷ []) rise h many = absurd (omega arith)
    two_of_row low high [] (t ∷ u ∷ ts) rise h many = absurd h
    two_of_row low high (d ∷ []) (t ∷ u ∷ ts) rise h many = absurd h.2
    two_of_row low high (d ∷ e ∷ ds) (t ∷ u ∷ ts) rise h many =
        let q = a_key t h.1 in
        let r = a_key u h.2.1 in (
          q.0,
          (
            r.0,
            (
              found_before R path total q.0 (entries t) (entries_of_all (trees (u ∷ ts))) q.1,
              found_after R path total r.0 (entries t) (entries_of_all (trees (u ∷ ts))) (found_before R path total r.0 (entries u) (entries_of_all (trees ts)) r.1),
              λ same. omega (arith, rise.2.0, h.2.0 r.0 r.1, ap (λ w. digit w level) same, h.0 q.0 q.1),
            ),
          ),
        )

    -- two children or more have two words
    pub two_of_many : (t : Tree K V) (b from to : ℕ) → IsTrie R path level t → ShowsBitmap b t → from + 1 < to → to ≤ length (children t) → HasTwoWords R path (pairs_of_all (children_between t from to))
    two_of_many t b from to trie shown many within =
        let cs = children_between t from to in
        let long : 1 < length cs = omega (arith, within, many, length-drop from (take to (children t)), length-take to (children t)) in
        let rise = rises_drop 0 fan_out from (take to (digits_of b)) (rises_take 0 fan_out to (digits_of b) (digits_of_rise b)) in
        subst (HasTwoWords R path) (pairs_listed cs) (two_of_row 0 fan_out (drop from (take to (digits_of b))) cs rise (tries_between t b from to trie shown) long)

  -- the pairs of an only child
  pub pairs_of_only : (t u : Tree K V) (from to : ℕ) → to ≡ from + 1 → from < length (children t) → u ≡ get_or (children t) from u → entries u ≡ pairs_of_all (children_between t from to)
  pairs_of_only t u from to only there is =
      sym (ap (λ k. pairs_of_all (drop from (take k (children t)))) only ∙ ap pairs_of_all (one_of (children t) from u there is) ∙ append-nil (entries u))

  -- an only child that is a branch has two words
  pub two_of_branch : (t u : Tree K V) (b from to : ℕ) → IsTrie R path (level + 1) u → ShowsBitmap b u → entries u ≡ pairs_of_all (children_between t from to) → HasTwoWords R path (pairs_of_all (children_between t from to))
  two_of_branch t (branch stamp size bitmap ts) b from to trie shown same = subst (HasTwoWords R path) same (trie.4 (omega arith))
  two_of_branch t (bucket stamp es) b from to trie shown same = absurd shown

  -- and one that is a leaf or bucket may hang from a root
  pub leaf_rises : (u : Tree K V) (ps : Bor (List (K × V))) → IsTrie R path (level + 1) u → ShowsPairs ps.now u → IsTrie R path 1 u
  leaf_rises (branch stamp size bitmap ts) ps trie shown = absurd shown
  leaf_rises (bucket stamp es) ps trie shown = (omega arith, trie.1, trie.2, trie.3)
