-- What is left of a tree where a test chooses its pairs.
use Rattle.std.specs.Prelude.{◌≡◌, ◌⊎◌, ℕ, ◌<◌, ◌^◌, ◌==◌, Bool, true, false, List, [], ◌∷◌, length, Option, Some, None, IfSome}
use Rattle.std.specs.declared.cmp.Ordering.{Ordering}
use Rattle.hash_path.specs.Digits.{fan_out}
use Rattle.trie_merging.specs.Merges.{AllStampsPass, StampsPass, pairs_of}
use Rattle.trie_shape.specs.Tree.{Tree, branch, bucket, Trees, no_trees, more_trees, trees, digits_of, entries, entries_of_all, IsTrie, AreTries}

module _ {K V : Type 0} where
  -- no tree of these is without pairs
  abbrev pub EachHasPairs : Trees K V → Type 0
  EachHasPairs no_trees = Unit {0}
  EachHasPairs (more_trees t ts) = (0 < length (entries t)) × EachHasPairs ts

  -- the subtrie of some children below the root: no children are none, and an only leaf or bucket takes the branch's place
  abbrev pub drawn_up : ℕ → ℕ → ℕ → List (Tree K V) → Option (Tree K V)
  drawn_up stamp size bitmap [] = None
  drawn_up stamp size bitmap (bucket old es ∷ []) = Some (bucket old es)
  drawn_up stamp size bitmap (branch s n b ts ∷ []) = Some (branch stamp size bitmap (more_trees (branch s n b ts) no_trees))
  drawn_up stamp size bitmap (t ∷ u ∷ ts) = Some (branch stamp size bitmap (more_trees t (more_trees u (trees ts))))

  -- the leaf or bucket of some pairs: none, where there are no pairs
  abbrev pub pairs_node : ℕ → List (K × V) → Option (Tree K V)
  pairs_node stamp [] = None
  pairs_node stamp (x ∷ es) = Some (bucket stamp (x ∷ es))

-- whether a stamp is this one
abbrev pub is_stamp : ℕ → ℕ → Bool
is_stamp stamp s = s == stamp

module _ {K V : Type 0} (gives : K → V → Bool → Type 0) where
  -- some of the pairs in the same order: true may be answered at each of these, and false at each that is left out
  abbrev pub AreChosen : List (K × V) → List (K × V) → Type 0
  AreChosen [] fs = fs ≡ []
  AreChosen (x ∷ es) fs = (gives x.0 x.1 false × AreChosen es fs) ⊎ ((rest : List (K × V)) × ((fs ≡ x ∷ rest) × gives x.0 x.1 true × AreChosen es rest))

  -- the leaf or bucket of some of the pairs
  abbrev pub PairsLeft : ℕ → List (K × V) → Option (Tree K V) → Type 0
  PairsLeft stamp es o = AreChosen es (pairs_of o) × (o ≡ pairs_node stamp (pairs_of o))

module _ {K V : Type 0} (R : K → K → Ordering) (path : K → ℕ) (gives : K → V → Bool → Type 0) (level stamp : ℕ) where
  -- what is left of a subtrie is a subtrie of the same place with some of its pairs, or nothing
  abbrev pub IsLeft : Tree K V → Option (Tree K V) → Type 0
  IsLeft t o = AreChosen gives (entries t) (pairs_of o) × IfSome o (λ u. IsTrie R path level u × (0 < length (entries u)) × StampsPass (is_stamp stamp) u)

  -- children with some of the pairs, their bitmap and how many pairs they have
  pub record IsRow (es : List (K × V)) (bitmap size : ℕ) (row : List (Tree K V)) : Type 0 where
    pub small : bitmap < 2 ^ fan_out
    pub chosen : AreChosen gives es (entries_of_all (trees row))
    pub tries : AreTries R path level (digits_of bitmap) (trees row)
    pub counted : size ≡ length (entries_of_all (trees row))
    pub some : EachHasPairs (trees row)
    pub stamped : AllStampsPass (is_stamp stamp) (trees row)
