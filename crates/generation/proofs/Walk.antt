-- A walk over a trie's nodes.
use Rattle.std.proofs.Common.{◌≡◌, ℕ, zero, suc, ◌+◌, ◌<◌, ◌≤◌, ◌==◌, Bool, true, false, cond, List, [], ◌∷◌, ◌++◌, length, get_or, take, sum_by, refl, sym, ap, ◌∙◌, arith}
use Rattle.std.proofs.lemmas.List.{take_more, take_all}
use Rattle.std.proofs.lemmas.List.Sums.{sum_by-cons, sum_by-append, sum_by_push, sum_by-take-le}
use Rattle.trie_shape.specs.Tree.{Tree, branch, bucket, Trees, no_trees, more_trees, digits_of}
use Rattle.trie_shape.specs.Shape.{Fits, AllFit, count_of, nodes_below, nodes_of_all, Nodes, own_count}
use Rattle.trie_shape.specs.Outline.{children, list_of, stamp_of}
use Rattle.trie_shape.specs.Counts.{node_count, count_of_all, HasPairs, AllHavePairs}
use Rattle.generation.specs.Owned.{own_below, own_of_all}

bit_le : (b : Bool) → cond b 1 0 ≤ 1
bit_le true = omega arith
bit_le false = omega arith

own_append : (own : ℕ) (xs ys : Nodes) → own_count own (xs ++ ys) ≡ own_count own xs + own_count own ys
own_append own xs ys = sum_by-append (λ (n : List ℕ × ℕ). cond (n.1 == own) 1 0) xs ys

own_cons : (own stamp : ℕ) (name : List ℕ) (ns : Nodes) → own_count own ((name, stamp) ∷ ns) ≡ cond (stamp == own) 1 0 + own_count own ns
own_cons own stamp name ns = sum_by-cons (λ (n : List ℕ × ℕ). cond (n.1 == own) 1 0) (name, stamp) ns

module _ {K V : Type 0} where
  own_of_all-sum : (own : ℕ) (ts : Trees K V) → own_of_all own ts ≡ sum_by (own_below own) (list_of ts)
  own_of_all-sum own no_trees = refl
  own_of_all-sum own (more_trees t ts) = ap (λ k. own_below own t + k) (own_of_all-sum own ts) ∙ sym (sum_by-cons (own_below own) t (list_of ts))

  mutual
    pub own_le_count : (own : ℕ) (t : Tree K V) → own_below own t ≤ node_count t
    own_le_count own (branch stamp size bitmap ts) = omega (arith, bit_le (stamp == own), own_of_all_le own ts)
    own_le_count own (bucket stamp es) = bit_le (stamp == own)

    own_of_all_le : (own : ℕ) (ts : Trees K V) → own_of_all own ts ≤ count_of_all ts
    own_of_all_le own no_trees = omega arith
    own_of_all_le own (more_trees t ts) = omega (arith, own_le_count own t, own_of_all_le own ts)

  -- the nodes of a trie are its root and those of its children
  pub own_whole : (own : ℕ) (t : Tree K V) → own_below own t ≡ cond (stamp_of t == own) 1 0 + sum_by (own_below own) (children t)
  own_whole own (branch stamp size bitmap ts) = ap (λ k. cond (stamp == own) 1 0 + k) (own_of_all-sum own ts)
  own_whole own (bucket stamp es) = omega arith

  -- the sum over one more child
  pub own_more : (own : ℕ) (ts : List (Tree K V)) (n : ℕ) (c : Tree K V) → n < length ts → c ≡ get_or ts n c → sum_by (own_below own) (take (n + 1) ts) ≡ sum_by (own_below own) (take n ts) + own_below own c
  own_more own ts n c lt e =
      ap (sum_by (own_below own)) (take_more ts n c lt)
      ∙ sum_by_push (own_below own) (take n ts) (get_or ts n c)
      ∙ ap (λ x. sum_by (own_below own) (take n ts) + own_below own x) (sym e)

  -- a sum over some children is at most the nodes of all
  pub own_within : (own : ℕ) (t : Tree K V) (n : ℕ) → cond (stamp_of t == own) 1 0 + sum_by (own_below own) (take n (children t)) ≤ node_count t
  own_within own t n = omega (arith, own_le_count own t, own_whole own t, sum_by-take-le (own_below own) (children t) n)

  -- the sum over all children
  pub own_all : (own : ℕ) (t : Tree K V) (n : ℕ) → length (children t) ≤ n → cond (stamp_of t == own) 1 0 + sum_by (own_below own) (take n (children t)) ≡ own_below own t
  own_all own t n le = ap (λ ts. cond (stamp_of t == own) 1 0 + sum_by (own_below own) ts) (take_all n (children t) le) ∙ sym (own_whole own t)

  fewer_of_all : (ts : Trees K V) (n : ℕ) (c : Tree K V) → n < length (list_of ts) → c ≡ get_or (list_of ts) n c → node_count c ≤ count_of_all ts
  fewer_of_all no_trees n c lt e = absurd (omega arith)
  fewer_of_all (more_trees t ts) zero c lt e = omega (arith, ap node_count e)
  fewer_of_all (more_trees t ts) (suc n) c lt e = omega (arith, fewer_of_all ts n c (omega arith) e)

  -- a child has fewer nodes
  pub fewer_below : (t : Tree K V) (n : ℕ) (c : Tree K V) → n < length (children t) → c ≡ get_or (children t) n c → node_count c < node_count t
  fewer_below (bucket stamp es) n c lt e = absurd (omega arith)
  fewer_below (branch stamp size bitmap ts) n c lt e = omega (arith, fewer_of_all ts n c lt e)

  mutual
    -- the walk counts what the list of the nodes has
    pub own_nodes_below : (word : K → List ℕ) (own : ℕ) (p : List ℕ) (t : Tree K V) → Fits t → HasPairs t → own_count own (nodes_below word p t) ≡ own_below own t
    own_nodes_below word own p (branch stamp size bitmap ts) fits pairs =
        own_cons own stamp p (nodes_of_all word p (digits_of bitmap) ts)
        ∙ ap (λ k. cond (stamp == own) 1 0 + k) (own_nodes_of_all word own p (digits_of bitmap) ts fits.1 fits.3 pairs)
    own_nodes_below word own p (bucket stamp []) fits pairs = absurd (omega arith)
    own_nodes_below word own p (bucket stamp (e ∷ es)) fits pairs = own_cons own stamp (word e.0) [] ∙ omega arith

    own_nodes_of_all : (word : K → List ℕ) (own : ℕ) (p ds : List ℕ) (ts : Trees K V) → count_of ts ≡ length ds → AllFit ts → AllHavePairs ts → own_count own (nodes_of_all word p ds ts) ≡ own_of_all own ts
    own_nodes_of_all word own p [] no_trees e fit pairs = refl
    own_nodes_of_all word own p [] (more_trees t ts) e fit pairs = absurd (omega arith)
    own_nodes_of_all word own p (d ∷ ds) no_trees e fit pairs = refl
    own_nodes_of_all word own p (d ∷ ds) (more_trees t ts) e fit pairs =
        own_append own (nodes_below word (p ++ d ∷ []) t) (nodes_of_all word p ds ts)
        ∙ ap (λ k. k + own_count own (nodes_of_all word p ds ts)) (own_nodes_below word own (p ++ d ∷ []) t fit.0 pairs.0)
        ∙ ap (λ k. own_below own t + k) (own_nodes_of_all word own p ds ts (omega (arith, e)) fit.1 pairs.1)
