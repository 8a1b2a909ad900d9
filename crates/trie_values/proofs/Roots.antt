-- A root with new values is a root, whatever they are.
use Rattle.std.proofs.Common.{◌≡◌, ℕ, ◌+◌, ◌<◌, ◌≤◌, ◌^◌, T, List, [], ◌∷◌, ◌++◌, length, sym, subst, ◌∙◌, arith}
use Rattle.std.proofs.lemmas.List.Elements.{All-nil, All-cons, All-append, All-weaker}
use Rattle.std.proofs.lemmas.Slice.Zip.{AllZip-long}
use Rattle.std.specs.Prelude.{All}
use Rattle.std.specs.declared.cmp.Ordering.{Ordering}
use Rattle.std.specs.declared.cmp.Ordering.TheVariants.{Equal}
use Rattle.std.specs.Cmp.{IsTotalOrder}
use Rattle.hash_path.specs.Digits.{fan_out, word_bits}
use Rattle.trie_shape.specs.Roots.{IsRoot, map_of}
use Rattle.trie_shape.specs.Shape.{NoneAbove, nodes, nodes_below, nodes_of_all}
use Rattle.trie_shape.specs.Tree.{Tree, branch, bucket, Trees, no_trees, more_trees, digits_of, entries, entries_of_all, HasTwoWords, IsTrie, AreTries}
use Rattle.trie_shape.proofs.Roots.{root_is_trie, trie_is_root}
use Rattle.trie_values.specs.Values.{AreGiven, AreMade, IsGiven, IsMade}
use Rattle.trie_values.proofs.Given.{find_given, listed_given, sorted_given}
use Rattle.trie_values.proofs.Made.{entries_made, entries_of_all_made}

module _ {K V W : Type 0} (gives : K → V → W → Type 0) (stamp : ℕ) where
  long_given : (es : List (K × V)) (fs : List (K × W)) → AreGiven gives es fs → length fs ≡ length es
  long_given es fs h = AllZip-long (IsGiven gives) es fs h

  -- 1. What makes a trie is said of keys alone.
  module _ (R : K → K → Ordering) (path : K → ℕ) where
    words_given : (es : List (K × V)) (fs : List (K × W)) → AreGiven gives es fs → HasTwoWords R path es → HasTwoWords R path fs
    words_given es fs h (q, (r, (q_is, r_is, apart))) = (q, (r, (find_given gives R q es fs h ∙ q_is, find_given gives R r es fs h ∙ r_is, apart)))

    mutual
      trie_made : (level : ℕ) (t : Tree K V) (u : Tree K W) → IsMade gives stamp t u → IsTrie R path level t → IsTrie R path level u
      trie_made level (branch old n bitmap ts) (branch new m b us) h trie =
          let given = entries_of_all_made gives stamp ts us h.3 in (
            trie.0,
            subst (λ x. x < 2 ^ fan_out) (sym h.2) trie.1,
            h.1 ∙ trie.2 ∙ sym (long_given (entries_of_all ts) (entries_of_all us) given),
            subst (λ x. AreTries R path level (digits_of x) us) (sym h.2) (tries_made level (digits_of bitmap) ts us h.3 trie.3),
            λ below. words_given (entries_of_all ts) (entries_of_all us) given (trie.4 below),
          )
      trie_made level (branch old n bitmap ts) (bucket new fs) h trie = absurd h
      trie_made level (bucket old es) (branch new m b us) h trie = absurd h
      trie_made level (bucket old es) (bucket new fs) h trie = (
        trie.0,
        subst (λ n. 0 < n) (sym (long_given es fs h.1)) trie.1,
        (trie.2.0, λ q is. trie.2.1 q (sym (find_given gives R q es fs h.1) ∙ is)),
        subst T (sym (sorted_given gives R es fs h.1)) trie.3,
      )

      tries_made : (level : ℕ) (ds : List ℕ) (ts : Trees K V) (us : Trees K W) → AreMade gives stamp ts us → AreTries R path level ds ts → AreTries R path level ds us
      tries_made level [] no_trees no_trees h trie = tt
      tries_made level [] no_trees (more_trees u us) h trie = absurd h
      tries_made level [] (more_trees t ts) us h trie = absurd trie
      tries_made level (d ∷ ds) no_trees us h trie = absurd trie
      tries_made level (d ∷ ds) (more_trees t ts) no_trees h trie = absurd h
      tries_made level (d ∷ ds) (more_trees t ts) (more_trees u us) h trie = (
        λ q is. trie.0 q (sym (find_given gives R q (entries t) (entries u) (entries_made gives stamp t u h.0)) ∙ is),
        trie_made (level + 1) t u h.0 trie.1,
        tries_made level ds ts us h.1 trie.2,
      )

    module _ (total : IsTotalOrder R) (exact : (x y : K) → R x y ≡ Equal → x ≡ y) where
      -- 2. The map has the same keys, each with a value that is given.
      pub map_made : (t : Tree K V) (u : Tree K W) → IsMade gives stamp t u → AreGiven gives (map_of R t) (map_of R u)
      map_made t u h = listed_given gives R total exact (entries t) (entries u) (entries_made gives stamp t u h)

      pub length_made : (t : Tree K V) (u : Tree K W) → IsMade gives stamp t u → length (map_of R u) ≡ length (map_of R t)
      length_made t u h = long_given (map_of R t) (map_of R u) (map_made t u h)

      -- 3. It is a root.
      pub root_made : (small : (k : K) → path k < 2 ^ word_bits) (t : Tree K V) (u : Tree K W) → IsMade gives stamp t u → IsRoot R path t → IsRoot R path u
      root_made small t u h root = trie_is_root R path total exact small u (trie_made 0 t u h (root_is_trie R path total exact small t root))

  -- 4. All its nodes have the stamp.
  module _ (word : K → List ℕ) where
    abbrev HasStamp : List ℕ × ℕ → Type 0
    HasStamp n = n.1 ≡ stamp

    mutual
      pub stamps_made : (p : List ℕ) (t : Tree K V) (u : Tree K W) → IsMade gives stamp t u → All HasStamp (nodes_below word p u)
      stamps_made p (branch old n bitmap ts) (branch new m b us) h =
          All-cons HasStamp (p, new) (nodes_of_all word p (digits_of b) us) h.0 (all_stamps_made p (digits_of b) ts us h.3)
      stamps_made p (branch old n bitmap ts) (bucket new fs) h = absurd h
      stamps_made p (bucket old es) (branch new m b us) h = absurd h
      stamps_made p (bucket old es) (bucket new []) h = All-nil HasStamp
      stamps_made p (bucket old es) (bucket new (y ∷ fs)) h = All-cons HasStamp (word y.0, new) [] h.0 (All-nil HasStamp)

      all_stamps_made : (p ds : List ℕ) (ts : Trees K V) (us : Trees K W) → AreMade gives stamp ts us → All HasStamp (nodes_of_all word p ds us)
      all_stamps_made p [] ts us h = All-nil HasStamp
      all_stamps_made p (d ∷ ds) ts no_trees h = All-nil HasStamp
      all_stamps_made p (d ∷ ds) no_trees (more_trees u us) h = absurd h
      all_stamps_made p (d ∷ ds) (more_trees t ts) (more_trees u us) h =
          All-append HasStamp (nodes_below word (p ++ d ∷ []) u) (nodes_of_all word p ds us) (stamps_made (p ++ d ∷ []) t u h.0) (all_stamps_made p ds ts us h.1)

    pub none_above : (t : Tree K V) (u : Tree K W) → IsMade gives stamp t u → NoneAbove stamp (nodes word u)
    none_above t u h = All-weaker HasStamp (λ n. n.1 ≤ stamp) (λ n is. omega (arith, is)) (nodes word u) (stamps_made [] t u h)
