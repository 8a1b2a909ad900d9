-- A code of a tree: how the logic stores a tree as the value of a struct with a model.
use Rattle.std.specs.Prelude.{◌≡◌, ◌⊎◌, ℕ, List}
use Rattle.std.specs.Coded.{Coded, coded_ℕ, coded_list, coded×, coded⊎}
use Rattle.trie_shape.specs.Tree.{Tree, Trees}
use Rattle.trie_shape.specs.Tree.Tree.{branch, bucket}
use Rattle.trie_shape.specs.Tree.Trees.{no_trees, more_trees}
use base.Stored.{Gv, coded_unit}
use denote.Struct.Codes.{itself}
use mathlib.Core.Logic.{inl, inr}
use mathlib.Core.Path.{ap, ◌∙◌, subst}

-- what a value on the left, or on the right, holds, and another one where it stands on the other side
abbrev left_or : {A B : Type 0} → A → A ⊎ B → A
left_or d (inl a) = a
left_or d (inr b) = d

abbrev right_or : {A B : Type 0} → B → A ⊎ B → B
right_or d (inl a) = d
right_or d (inr b) = b

abbrev IsLeft : {A B : Type 0} → A ⊎ B → Type 0
IsLeft (inl a) = Unit {0}
IsLeft (inr b) = ⊥

abbrev IsRight : {A B : Type 0} → A ⊎ B → Type 0
IsRight (inl a) = ⊥
IsRight (inr b) = Unit {0}

-- a branch's stamp, size and bitmap
abbrev pub Head : Type 0
Head = ℕ × (ℕ × ℕ)

module _ {K V : Type 0} (k : Coded K) (v : Coded V) where
  -- a branch's head and the code of its children, or a bucket's stamp and pairs
  abbrev pub node_code : Coded ((Head × Gv) ⊎ (ℕ × List (K × V)))
  node_code = coded⊎ (coded× (coded× coded_ℕ (coded× coded_ℕ coded_ℕ)) itself) (coded× coded_ℕ (coded_list (coded× k v)))

  -- no trees, or the codes of the first one and of the others
  abbrev pub row_code : Coded (Unit {0} ⊎ (Gv × Gv))
  row_code = coded⊎ coded_unit (coded× itself itself)

  abbrev mutual
    -- a branch's head and the code of its children, or a bucket's stamp and pairs
    pub parts : Tree K V → (Head × Gv) ⊎ (ℕ × List (K × V))
    parts (branch stamp size bitmap ts) = inl ((stamp, (size, bitmap)), row_code.code (parts_of_all ts))
    parts (bucket stamp es) = inr (stamp, es)

    -- nothing, or the codes of the first tree and of the others
    pub parts_of_all : Trees K V → Unit {0} ⊎ (Gv × Gv)
    parts_of_all no_trees = inl tt
    parts_of_all (more_trees t ts) = inr (node_code.code (parts t), row_code.code (parts_of_all ts))

  mutual
    -- trees with the same parts are one tree
    pub same : (t u : Tree K V) → parts t ≡ parts u → t ≡ u
    same (branch s n b ts) (branch s' n' b' us) e =
        let p = ap (left_or ((s, (n, b)), row_code.code (parts_of_all ts))) e in
        ap (λ (h : Head). branch h.0 h.1.0 h.1.1 ts) (ap (λ q. q.0) p)
        ∙ ap (λ rest. branch s' n' b' rest) (same_all ts us (row_code.inj _ _ (ap (λ q. q.1) p)))
    same (branch s n b ts) (bucket s' es) e = absurd (subst IsLeft e tt)
    same (bucket s es) (branch s' n' b' us) e = absurd (subst IsRight e tt)
    same (bucket s es) (bucket s' es') e = ap (λ q. bucket q.0 q.1) (ap (right_or (s, es)) e)

    -- the same of several trees
    pub same_all : (ts us : Trees K V) → parts_of_all ts ≡ parts_of_all us → ts ≡ us
    same_all no_trees no_trees e = λ i. no_trees
    same_all no_trees (more_trees u us) e = absurd (subst IsLeft e tt)
    same_all (more_trees t ts) no_trees e = absurd (subst IsRight e tt)
    same_all (more_trees t ts) (more_trees u us) e =
        let p = ap (right_or (node_code.code (parts t), row_code.code (parts_of_all ts))) e in
        ap (λ first. more_trees first ts) (same t u (node_code.inj _ _ (ap (λ q. q.0) p)))
        ∙ ap (λ rest. more_trees u rest) (same_all ts us (row_code.inj _ _ (ap (λ q. q.1) p)))

  -- the code of a tree
  abbrev pub tree_code : Coded (Tree K V)
  tree_code = record { code = λ t. node_code.code (parts t); inj = λ t u e. same t u (node_code.inj _ _ e) }
