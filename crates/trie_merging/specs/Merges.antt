-- What the merging of two subtries makes. A subtrie may be absent on a side, which then has no pairs there.
use Rattle.std.specs.Prelude.{◌≡◌, ℕ, ◌+◌, ◌*◌, ◌%◌, ◌^◌, ◌<◌, ◌≤◌, ◌||◌, ◌==◌, Bool, true, cond, if◌then◌else◌, List, [], ◌∷◌, length, Option, Some, None, is_some, IfSome}
use Rattle.std.specs.Option.{option_or}
use Rattle.std.specs.declared.cmp.Ordering.{Ordering}
use Rattle.std.specs.FinMap.{find}
use Rattle.std.specs.List.{All}
use Rattle.hash_path.specs.Digits.{word_digits, digit_bits}
use Rattle.trie_shape.specs.Shape.{Nodes}
use Rattle.trie_shape.specs.Tree.{Tree, branch, bucket, Trees, no_trees, more_trees, entries, digits_of, IsTrie}

-- the stamp of each node passes the test
abbrev pub EachStampPasses : (ℕ → Bool) → Nodes → Type 0
EachStampPasses test ns = All (λ n. test n.1 ≡ true) ns

module _ {K V : Type 0} where
  -- the subtrie of a digit
  abbrev pub child_among : List ℕ → Trees K V → ℕ → Option (Tree K V)
  child_among [] ts d = None
  child_among (x ∷ xs) no_trees d = None
  child_among (x ∷ xs) (more_trees t ts) d = if x == d then Some t else child_among xs ts d

  -- the child of a branch that has the digit, if there is one
  abbrev pub child_at : Tree K V → ℕ → Option (Tree K V)
  child_at (branch stamp size bitmap ts) d = child_among (digits_of bitmap) ts d
  child_at (bucket stamp es) d = None

  -- the pairs of a subtrie, if there is one
  abbrev pub pairs_of : Option (Tree K V) → List (K × V)
  pairs_of (Some t) = entries t
  pairs_of None = []

  abbrev mutual
    -- the same of a tree
    pub StampsPass : (ℕ → Bool) → Tree K V → Type 0
    StampsPass test (branch stamp size bitmap ts) = (test stamp ≡ true) × AllStampsPass test ts
    StampsPass test (bucket stamp es) = test stamp ≡ true

    -- the same of several trees
    pub AllStampsPass : (ℕ → Bool) → Trees K V → Type 0
    AllStampsPass test no_trees = Unit {0}
    AllStampsPass test (more_trees t ts) = StampsPass test t × AllStampsPass test ts

-- what a key has once a value, if there is one, was put where the test holds of what it had
abbrev pub written_over : {V : Type 0} → (Option V → Bool) → Option V → Option V → Option V
written_over holds None found = found
written_over holds (Some v) found = cond (holds found) (Some v) found

module _ {K V : Type 0} (R : K → K → Ordering) (path : K → ℕ) (level : ℕ) where
  -- the words of the keys of both agree in the digits below the level
  abbrev pub WordsAgree : List (K × V) → List (K × V) → Type 0
  WordsAgree es fs = (q r : K) → is_some (find R q es) ≡ true → is_some (find R r fs) ≡ true → path q % 2 ^ (digit_bits * level) ≡ path r % 2 ^ (digit_bits * level)

  -- two subtries that can stand at one place of a trie
  pub record CanMerge (left right : Option (Tree K V)) : Type 0 where
    pub depth : level ≤ word_digits
    pub left_trie : IfSome left (IsTrie R path level)
    pub right_trie : IfSome right (IsTrie R path level)
    pub agree : WordsAgree (pairs_of left) (pairs_of right)
    pub room : length (pairs_of left) + length (pairs_of right) < 2 ^ 63

  -- the new subtrie has the pairs of both, where the left value wins, and each node has the stamp or one of theirs
  pub record Merges (stamp : ℕ) (left right new : Option (Tree K V)) : Type 0 where
    pub there : is_some new ≡ (is_some left || is_some right)
    pub trie : IfSome new (IsTrie R path level)
    pub finds : (q : K) → find R q (pairs_of new) ≡ option_or (find R q (pairs_of left)) (find R q (pairs_of right))
    pub most : length (pairs_of new) ≤ length (pairs_of left) + length (pairs_of right)
    pub stamps : (test : ℕ → Bool) → test stamp ≡ true → IfSome left (StampsPass test) → IfSome right (StampsPass test) → IfSome new (StampsPass test)

  -- the new subtrie is the old one with each of the pairs put where the test holds of what its key has
  pub record PutsEach (stamp : ℕ) (holds : Option V → Bool) (es : List (K × V)) (old new : Tree K V) : Type 0 where
    pub trie : IsTrie R path level new
    pub finds : (q : K) → find R q (entries new) ≡ written_over holds (find R q es) (find R q (entries old))
    pub most : length (entries new) ≤ length es + length (entries old)
    pub stamps : (test : ℕ → Bool) → test stamp ≡ true → StampsPass test old → StampsPass test new
