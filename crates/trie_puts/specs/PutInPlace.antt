-- What a put does to a node where it stands.
use Rattle.std.specs.Prelude.{◌≡◌, ◌≤◌, ℕ, Bool, true, false, List, length, Option, Some, None, is_some, ◌||◌}
use Rattle.std.specs.List.{insert}
use Rattle.std.specs.declared.cmp.Ordering.{Ordering}
use Rattle.std.specs.FinMap.{find}
use Rattle.std.specs.FinMap.Entries.{put}
use Rattle.trie_shape.specs.Tree.{Tree, entries}
use Rattle.trie_copy.specs.Writes.{Writes}

-- the old tree has become the new one by a put of k under a condition; previous is the value that k had
pub record PutsIn {K V : Type 0} (R : K → K → Ordering) (path : K → ℕ) (level : ℕ) (stamp : ℕ) (k : K) (v : V) (holds : Option V → Bool) (old : Tree K V) (previous : Option V) (written : Bool) (new : Tree K V) : Type 0 where
  pub previous_is : previous ≡ find R k (entries old)
  pub written_is : written ≡ holds (find R k (entries old))
  pub writes : written ≡ true → Writes R path level stamp k (Some v) old new
  pub kept : written ≡ false → new ≡ old

-- whether a put in place may be refused: it takes place, or the key has a value, on which a handle is given
abbrev pub is_refusable : {V : Type 0} → (Option V → Bool) → Option V → Bool
is_refusable holds found = holds found || is_some found

-- k is absent, and i is the place where a pair of it goes
pub record GoesTo {K V : Type 0} (R : K → K → Ordering) (k : K) (i : ℕ) (es : List (K × V)) : Type 0 where
  pub within : i ≤ length es
  pub absent : find R k es ≡ None
  pub puts : (v : V) → put R k v es ≡ insert es i (k, v)
