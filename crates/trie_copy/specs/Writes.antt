-- What a write of one key does to a subtree.
use Rattle.std.specs.Prelude.{◌≡◌, ℕ, Bool, true, cond, List, length, nat_eq, Option, is_some, IfSome, ◌≤◌, ◌+◌, ◌*◌, ◌%◌, ◌^◌}
use Rattle.std.specs.declared.cmp.Ordering.{Ordering}
use Rattle.std.specs.Ordering.{eq_by_cmp}
use Rattle.std.specs.FinMap.{find}
use Rattle.std.specs.List.{starts_with}
use Rattle.hash_path.specs.Digits.{digit_bits}
use Rattle.trie_shape.specs.Tree.{Tree, entries, IsTrie}
use Rattle.trie_shape.specs.Shape.{nodes_below, Restamps}
use Rattle.trie_shape.specs.Roots.{word_of}

-- the new tree is the old one with k mapped to what is given, or without k where none is;
-- the stamp is on the nodes of the key's path, and on no other that did not have it
pub record Writes {K V : Type 0} (R : K → K → Ordering) (path : K → ℕ) (level : ℕ) (stamp : ℕ) (k : K) (given : Option V) (old new : Tree K V) : Type 0 where
  pub trie : IsTrie R path level new
  pub finds : (q : K) → find R q (entries new) ≡ cond (eq_by_cmp R q k) given (find R q (entries old))
  pub least : length (entries old) ≤ length (entries new) + 1
  pub most : length (entries new) ≤ length (entries old) + 1
  pub stamps : (p : List ℕ) → length p ≡ level → starts_with nat_eq (word_of path k) p ≡ true → Restamps stamp (word_of path k) (nodes_below (word_of path) p old) (nodes_below (word_of path) p new)

-- what a write under a condition answers: the value that k had, and the new tree where the condition holds of it
pub record WritesWhere {K V : Type 0} (R : K → K → Ordering) (path : K → ℕ) (level : ℕ) (stamp : ℕ) (k : K) (given : Option V) (holds : Option V → Bool) (old : Tree K V) (previous : Option V) (new : Option (Tree K V)) : Type 0 where
  pub previous_is : previous ≡ find R k (entries old)
  pub written : is_some new ≡ holds (find R k (entries old))
  pub writes : IfSome new (λ t. Writes R path level stamp k given old t)

-- the words of the keys that are found begin with the digits below a level that w has
abbrev pub KeysAgree : {K V : Type 0} → (K → K → Ordering) → (K → ℕ) → ℕ → ℕ → List (K × V) → Type 0
KeysAgree R path level w es = (q : _) → is_some (find R q es) ≡ true → path q % 2 ^ (digit_bits * level) ≡ w % 2 ^ (digit_bits * level)
