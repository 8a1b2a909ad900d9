-- A subtrie with new values, from its children or its pairs.
use Rattle.std.proofs.Common.{◌≡◌, ℕ, List, [], ◌∷◌, length, get_or, map, arith, refl, sym, subst, ◌∙◌}
use Rattle.std.specs.List.{AllZip}
use Rattle.trie_shape.specs.Looks.{ShowsBitmap}
use Rattle.trie_shape.specs.Outline.{children, list_of}
use Rattle.trie_shape.specs.Shape.{Fits}
use Rattle.trie_shape.specs.Tree.{Tree, branch, bucket, Trees, no_trees, more_trees, trees, entries, entries_of_all}
use Rattle.trie_shape.specs.View.{pair_values, tree}
use Rattle.trie_shape.specs.declared.node.Node.{Node}
use Rattle.trie_values.specs.Values.{AreGiven, AreMade, IsGiven, IsMade}
use Rattle.trie_values.proofs.Given.{appended}

-- 1. The pairs of a bucket.
module _ {K V W : Type 0} (gives : K → V → W → Type 0) where
  all_given : (ps : List (K × V)) (qs : List (K × W)) → AllZip (λ p q. IsGiven gives (pair_values p) (pair_values q)) ps qs → AreGiven gives (map pair_values ps) (map pair_values qs)
  all_given [] [] h = tt
  all_given [] (q ∷ qs) h = absurd h
  all_given (p ∷ ps) [] h = absurd h
  all_given (p ∷ ps) (q ∷ qs) h = (h.0, all_given ps qs h.1)

-- 2. Nodes.
module _ {K V W : Type 0} (gives : K → V → W → Type 0) (stamp : ℕ) where
  each_made : {S X Y : Type 0} (ts : Trees K V) (ns : List (Node K W S X Y)) → AllZip (λ t n. IsMade gives stamp t (tree n)) (list_of ts) ns → AreMade gives stamp ts (trees (map tree ns))
  each_made no_trees [] h = tt
  each_made no_trees (n ∷ ns) h = absurd h
  each_made (more_trees t ts) [] h = absurd h
  each_made (more_trees t ts) (n ∷ ns) h = (h.0, each_made ts ns h.1)

  -- a branch of the children with new values
  pub branch_made : {S X Y : Type 0} (t : Tree K V) (u : Tree K W) (b size : ℕ) (ns : List (Node K W S X Y)) → ShowsBitmap b t → Fits t → size ≡ length (entries t) → AllZip (λ t n. IsMade gives stamp t (tree n)) (children t) ns → u ≡ branch stamp size b (trees (map tree ns)) → IsMade gives stamp t u
  branch_made (branch old n bitmap ts) u b size ns shows fits long h is =
      subst (IsMade gives stamp (branch old n bitmap ts)) (sym is) (refl, long ∙ sym fits.2, shows, each_made ts ns h)
  branch_made (bucket old es) u b size ns shows fits long h is = absurd shows

  -- a leaf of the pair with a new value, whose old parts are read one by one
  pub leaf_made : (ps : List (K × V)) (d e : K × V) (y : K × W) (u : Tree K W) → length ps ≡ 1 → IsGiven gives ((get_or ps 0 d).0, (get_or ps 0 e).1) y → u ≡ bucket stamp (y ∷ []) → IsMade gives stamp (bucket stamp (map pair_values ps)) u
  leaf_made [] d e y u one h is = absurd (omega (arith, one))
  leaf_made (p ∷ []) d e y u one h is = subst (IsMade gives stamp (bucket stamp (pair_values p ∷ []))) (sym is) (refl, (h, tt))
  leaf_made (p ∷ q ∷ ps) d e y u one h is = absurd (omega (arith, one))

  -- a bucket of the pairs with new values
  pub bucket_made : (ps : List (K × V)) (qs : List (K × W)) (u : Tree K W) → AllZip (λ p q. IsGiven gives (pair_values p) (pair_values q)) ps qs → u ≡ bucket stamp (map pair_values qs) → IsMade gives stamp (bucket stamp (map pair_values ps)) u
  bucket_made ps qs u h is = subst (IsMade gives stamp (bucket stamp (map pair_values ps))) (sym is) (refl, all_given gives ps qs h)

  mutual
    -- its pairs are the old ones with new values
    pub entries_made : (t : Tree K V) (u : Tree K W) → IsMade gives stamp t u → AreGiven gives (entries t) (entries u)
    entries_made (branch old n bitmap ts) (branch new m b us) h = entries_of_all_made ts us h.3
    entries_made (branch old n bitmap ts) (bucket new fs) h = absurd h
    entries_made (bucket old es) (branch new m b us) h = absurd h
    entries_made (bucket old es) (bucket new fs) h = h.1

    pub entries_of_all_made : (ts : Trees K V) (us : Trees K W) → AreMade gives stamp ts us → AreGiven gives (entries_of_all ts) (entries_of_all us)
    entries_of_all_made no_trees no_trees h = tt
    entries_of_all_made no_trees (more_trees u us) h = absurd h
    entries_of_all_made (more_trees t ts) no_trees h = absurd h
    entries_of_all_made (more_trees t ts) (more_trees u us) h =
        appended (IsGiven gives) (entries t) (entries u) (entries_of_all ts) (entries_of_all us) (entries_made t u h.0) (entries_of_all_made ts us h.1)
