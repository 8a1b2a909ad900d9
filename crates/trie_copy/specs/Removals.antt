-- What a removal leaves of a subtree.
use Rattle.std.specs.Prelude.{◌≡◌, ℕ, ◌+◌, ◌<◌, Bool, true, false, ◌&&◌, cond, List, [], length, Option, Some, None, is_some, option_map, get_or}
use Rattle.std.specs.declared.cmp.Ordering.{Ordering}
use Rattle.std.specs.Ordering.{eq_by_cmp}
use Rattle.std.specs.FinMap.{find}
use Rattle.trie_copy.specs.declared.removal_outcome.Removal.{Removal}
use Rattle.trie_copy.specs.declared.removal_outcome.Removal.TheVariants.{Nothing, Gone, Left}
use Rattle.trie_shape.specs.Tree.{Tree, entries}
use Rattle.trie_shape.specs.View.{tree}
use Rattle.trie_copy.specs.Writes.{Writes}

-- the pair at the place i is that of k
pub record IsAt {K V : Type 0} (R : K → K → Ordering) (k : K) (i : ℕ) (es : List (K × V)) : Type 0 where
  pub within : i < length es
  pub key : (d : K × V) → k ≡ (get_or es i d).0
  pub value : (d : K × V) → find R k es ≡ Some (get_or es i d).1

module _ {K V : Type 0} (R : K → K → Ordering) where
  -- whether there is something to remove
  abbrev pub is_removable : K → (Option V → Bool) → List (K × V) → Bool
  is_removable k holds es = is_some (find R k es) && holds (find R k es)

  -- k had the value v, and the condition holds of it
  abbrev pub IsTaken : K → (Option V → Bool) → Tree K V → V → Type 0
  IsTaken k holds old v = (find R k (entries old) ≡ Some v) × (holds (Some v) ≡ true)

  -- the pair of k is the only one
  pub record IsOnly (k : K) (old : Tree K V) : Type 0 where
    pub finds : (q : K) → find R q [] ≡ cond (eq_by_cmp R q k) None (find R q (entries old))
    pub one : length (entries old) ≡ 1

  -- a removal of k, which had the value v, has left the new subtree
  pub record Leaves (path : K → ℕ) (level stamp : ℕ) (k : K) (holds : Option V → Bool) (old : Tree K V) (v : V) (new : Tree K V) : Type 0 where
    pub taken : IsTaken k holds old v
    pub writes : Writes R path level stamp k None old new
    pub fewer : length (entries new) + 1 ≡ length (entries old)

  -- what the removal of k from a subtree answers: nothing removed, nothing left, or what is left
  abbrev pub Removes : {S X Y : Type 0} → (K → ℕ) → ℕ → ℕ → K → (Option V → Bool) → Tree K V → Removal K V S X Y → Type 0
  Removes path level stamp k holds old (Nothing found) = (option_map (λ p. p.now.1) found ≡ find R k (entries old)) × (is_removable k holds (entries old) ≡ false)
  Removes path level stamp k holds old (Gone p) = IsTaken k holds old p.now.1 × IsOnly k old × (0 < level)
  Removes path level stamp k holds old (Left node p) = Leaves path level stamp k holds old p.now.1 (tree node)
