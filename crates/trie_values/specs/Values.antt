-- What a tree with new values is, where a closure gives them.
use Rattle.std.specs.Prelude.{◌≡◌, ℕ, List, map}
use Rattle.std.specs.Fn.{Shared}
use Rattle.std.specs.List.{AllZip}
use Rattle.trie_shape.specs.Tree.{Tree, branch, bucket, Trees, no_trees, more_trees}
use denote.Ref.{Bor}

-- a call of the closure f at the pair may answer w
abbrev pub MayAnswer : {F K V W : Type 0} → Shared F (Bor K × (Bor V × Unit {0})) W → F → K → V → W → Type 0
MayAnswer {F} {K} {V} calls f k v w = (a : Bor K) × (b : Bor V) × (a.now ≡ k) × (b.now ≡ v) × calls.post f (a, (b, tt)) w

-- each value that is given for a pair is what the meaning f says of the pair
abbrev pub Means : {K V W : Type 0} → (K → V → W → Type 0) → (K → V → W) → Type 0
Means {K} {V} {W} gives f = (k : K) (v : V) (w : W) → gives k v w → w ≡ f k v

-- the same keys, each with what f makes of its pair
abbrev pub with_values : {K V W : Type 0} → (K → V → W) → List (K × V) → List (K × W)
with_values f es = map (λ x. (x.0, f x.0 x.1)) es

module _ {K V W : Type 0} (gives : K → V → W → Type 0) where
  -- the same key, with a value that is given for the pair
  abbrev pub IsGiven : K × V → K × W → Type 0
  IsGiven x y = (y.0 ≡ x.0) × gives x.0 x.1 y.1

  -- the same keys in the same order, each with a value that is given for its pair
  abbrev pub AreGiven : List (K × V) → List (K × W) → Type 0
  AreGiven es fs = AllZip IsGiven es fs

  abbrev mutual
    -- the tree of the same shape, whose nodes all have the stamp, with values that are given
    pub IsMade : ℕ → Tree K V → Tree K W → Type 0
    IsMade stamp (branch old size bitmap ts) (branch new n b us) = (new ≡ stamp) × (n ≡ size) × (b ≡ bitmap) × AreMade stamp ts us
    IsMade stamp (branch old size bitmap ts) (bucket new fs) = ⊥
    IsMade stamp (bucket old es) (branch new n b us) = ⊥
    IsMade stamp (bucket old es) (bucket new fs) = (new ≡ stamp) × AreGiven es fs

    -- the same of several trees
    pub AreMade : ℕ → Trees K V → Trees K W → Type 0
    AreMade stamp no_trees no_trees = Unit {0}
    AreMade stamp no_trees (more_trees u us) = ⊥
    AreMade stamp (more_trees t ts) no_trees = ⊥
    AreMade stamp (more_trees t ts) (more_trees u us) = IsMade stamp t u × AreMade stamp ts us
