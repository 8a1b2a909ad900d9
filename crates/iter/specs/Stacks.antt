-- What a walk keeps of the path that it is on.
use Rattle.std.specs.Prelude.{ℕ, suc, ◌-◌, ◌^◌, ◌<◌, ◌≤◌, List, [], ◌∷◌, ◌++◌, length, Option, Some, None}
use Rattle.std.specs.declared.cmp.Ordering.{Ordering}
use Rattle.hash_path.specs.Digits.{word_digits}
use Rattle.trie_shape.specs.Outline.{children}
use Rattle.trie_shape.specs.Tree.{Tree}
use Rattle.trie_shape.specs.View.{tree}
use Rattle.trie_shape.specs.declared.node.Node.{Node}
use Rattle.iter.specs.Subtries.{children_between, AllStand}
use Rattle.iter.specs.declared.children.Children.{Children}
use Rattle.iter.specs.declared.ahead.Ahead.{Ahead}
use denote.Ref.{Bor}

module _ {K V : Type 0} where
  -- the children of a node that is lent, from one number on and below another; no node has none
  abbrev pub children_of : {S X Y : Type 0} → Option (Bor (Node K V S X Y)) → ℕ → ℕ → List (Tree K V)
  children_of None from to = []
  children_of (Some node) from to = children_between (tree node.now) from to

  -- how many children a node that is lent has
  abbrev pub child_count : {S X Y : Type 0} → Option (Bor (Node K V S X Y)) → ℕ
  child_count None = 0
  child_count (Some node) = length (children (tree node.now))

  -- the children that are still to be entered
  abbrev pub trees_of : {S X Y : Type 0} → Children K V S X Y → List (Tree K V)
  trees_of c = children_of c.branch c.next c.end

  -- their numbers are those of children
  abbrev pub IsWithin : {S X Y : Type 0} → Children K V S X Y → Type 0
  IsWithin c = (c.next ≤ c.end) × (c.end < 2 ^ 32) × (c.end ≤ child_count c.branch)

  -- what is left of the branches of a path, the lowest of which stands last and is walked first
  abbrev pub unwalked : {S X Y : Type 0} → List (Children K V S X Y) → List (Tree K V)
  unwalked [] = []
  unwalked (c ∷ below) = unwalked below ++ trees_of c

  -- the subtries that are still to be entered, in order
  abbrev pub subtries : {S X Y : Type 0} → Ahead K V S X Y → List (Tree K V)
  subtries a = trees_of a.here ++ unwalked a.above.items

module _ {K V : Type 0} (R : K → K → Ordering) (path : K → ℕ) where
  -- what is left of the branches of a path stands one level lower from one branch to the next
  abbrev pub Descend : {S X Y : Type 0} → ℕ → List (Children K V S X Y) → Type 0
  Descend level [] = Unit {0}
  Descend level (c ∷ below) = IsWithin c × AllStand R path level (trees_of c) × Descend (suc level) below

  -- the subtries stand where the levels say, and there is room for a whole path
  pub record IsSound {S X Y : Type 0} (a : Ahead K V S X Y) : Type 0 where
    pub deep : length a.above.items < a.level
    pub low : a.level ≤ word_digits
    pub room : word_digits ≤ a.above.capacity
    pub within : IsWithin a.here
    pub here : AllStand R path a.level (trees_of a.here)
    pub above : Descend (a.level - length a.above.items) a.above.items
