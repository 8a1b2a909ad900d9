-- That each stamp passes a test, said of the tree and of the list of its nodes.
use Rattle.std.proofs.Common.{◌≡◌, ℕ, zero, suc, ◌+◌, ◌≤◌, Bool, true, false, ◌&&◌, List, [], ◌∷◌, ◌++◌, take, get_or, Option, refl, ap, ◌∙◌, arith, nat_eq, leb}
use Rattle.std.specs.Bool.{MatchBool}
use Rattle.std.specs.List.{All, Contains, starts_with}
use Rattle.std.specs.declared.cmp.Ordering.{Ordering}
use Rattle.std.proofs.lemmas.Bool.{eq-eqb, le-leb, leb-true}
use Rattle.std.proofs.lemmas.List.{length-take-le}
use Rattle.std.proofs.lemmas.List.Elements.{All-cons, All-nil, All-append, All-contains}
use Rattle.hash_path.specs.Digits.{word_digits, spelled}
use Rattle.trie_merging.specs.Merges.{EachStampPasses, StampsPass, AllStampsPass}
use Rattle.trie_shape.specs.Roots.{word_of}
use Rattle.trie_shape.specs.Shape.{Nodes, nodes_below, nodes_of_all, NoneAbove, IsRestamped, Restamps}
use Rattle.trie_shape.specs.Tree.{Tree, branch, bucket, Trees, no_trees, more_trees, digits_of, IsTrie, AreTries}
use Rattle.trie_copy.specs.Writes.{Writes}

-- what holds of each element of a list holds of each of its parts
first_all : {X : Type 0} (P : X → Type 0) (x : X) (xs : List X) → All P (x ∷ xs) → P x
first_all P x xs h = h 0 x (omega arith)

rest_all : {X : Type 0} (P : X → Type 0) (x : X) (xs : List X) → All P (x ∷ xs) → All P xs
rest_all P x xs h = λ k d lt. h (suc k) d (omega arith)

left_all : {X : Type 0} (P : X → Type 0) (xs ys : List X) → All P (xs ++ ys) → All P xs
left_all P [] ys h = All-nil P
left_all P (x ∷ xs) ys h = All-cons P x xs (first_all P x (xs ++ ys) h) (left_all P xs ys (rest_all P x (xs ++ ys) h))

right_all : {X : Type 0} (P : X → Type 0) (xs ys : List X) → All P (xs ++ ys) → All P ys
right_all P [] ys h = h
right_all P (x ∷ xs) ys h = right_all P xs ys (rest_all P x (xs ++ ys) h)

-- a list begins with its first elements
begins_taken : (n : ℕ) (xs : List ℕ) → starts_with nat_eq xs (take n xs) ≡ true
begins_taken zero [] = refl
begins_taken zero (x ∷ xs) = refl
begins_taken (suc n) [] = refl
begins_taken (suc n) (x ∷ xs) = ap (λ b. b && starts_with nat_eq xs (take n xs)) (eq-eqb x x refl) ∙ begins_taken n xs

-- a write with a stamp that passes leaves only stamps that pass
pub written_pass : (test : ℕ → Bool) (stamp : ℕ) (w : List ℕ) (old new : Nodes) → test stamp ≡ true → EachStampPasses test old → Restamps stamp w old new → EachStampPasses test new
written_pass test stamp w old new stamped each restamps = λ k d lt. of_rule (get_or new k d) (restamps k d lt)
  where
    of_rule : (n : List ℕ × ℕ) → IsRestamped stamp w old n → test n.1 ≡ true
    of_rule n r = go (starts_with nat_eq w n.0) r
      where
        go : (b : Bool) → MatchBool b (n.1 ≡ stamp) (Contains old n) → test n.1 ≡ true
        go true e = ap test e ∙ stamped
        go false inside = All-contains (λ x. test x.1 ≡ true) old n each inside

-- no stamp is above where each passes the test of being at most as great
pub none_above_pass : (newest : ℕ) (ns : Nodes) → NoneAbove newest ns → EachStampPasses (λ s. leb s newest) ns
none_above_pass newest ns none = λ k d lt. le-leb (get_or ns k d).1 newest (none k d lt)

pub pass_none_above : (newest : ℕ) (ns : Nodes) → EachStampPasses (λ s. leb s newest) ns → NoneAbove newest ns
pass_none_above newest ns each = λ k d lt. leb-true (get_or ns k d).1 newest (each k d lt)

module _ {K V : Type 0} (R : K → K → Ordering) (path : K → ℕ) (test : ℕ → Bool) where
  mutual
    pub pass_listed : (p : List ℕ) (t : Tree K V) → StampsPass test t → EachStampPasses test (nodes_below (word_of path) p t)
    pass_listed p (branch stamp size bitmap ts) h = All-cons (λ n. test n.1 ≡ true) (p, stamp) (nodes_of_all (word_of path) p (digits_of bitmap) ts) h.0 (all_pass_listed p (digits_of bitmap) ts h.1)
    pass_listed p (bucket stamp []) h = All-nil (λ n. test n.1 ≡ true)
    pass_listed p (bucket stamp (e ∷ es)) h = All-cons (λ n. test n.1 ≡ true) (word_of path e.0, stamp) [] h (All-nil (λ n. test n.1 ≡ true))

    all_pass_listed : (p ds : List ℕ) (ts : Trees K V) → AllStampsPass test ts → EachStampPasses test (nodes_of_all (word_of path) p ds ts)
    all_pass_listed p [] ts h = All-nil (λ n. test n.1 ≡ true)
    all_pass_listed p (d ∷ ds) no_trees h = All-nil (λ n. test n.1 ≡ true)
    all_pass_listed p (d ∷ ds) (more_trees t ts) h =
        All-append (λ n. test n.1 ≡ true) (nodes_below (word_of path) (p ++ d ∷ []) t) (nodes_of_all (word_of path) p ds ts) (pass_listed (p ++ d ∷ []) t h.0) (all_pass_listed p ds ts h.1)

  mutual
    pub listed_pass : (level : ℕ) (p : List ℕ) (t : Tree K V) → IsTrie R path level t → EachStampPasses test (nodes_below (word_of path) p t) → StampsPass test t
    listed_pass level p (branch stamp size bitmap ts) trie h = (
      first_all (λ n. test n.1 ≡ true) (p, stamp) (nodes_of_all (word_of path) p (digits_of bitmap) ts) h,
      all_listed_pass level p (digits_of bitmap) ts trie.3 (rest_all (λ n. test n.1 ≡ true) (p, stamp) (nodes_of_all (word_of path) p (digits_of bitmap) ts) h),
    )
    listed_pass level p (bucket stamp []) trie h = absurd (omega (arith, trie.1))
    listed_pass level p (bucket stamp (e ∷ es)) trie h = first_all (λ n. test n.1 ≡ true) (word_of path e.0, stamp) [] h

    all_listed_pass : (level : ℕ) (p ds : List ℕ) (ts : Trees K V) → AreTries R path level ds ts → EachStampPasses test (nodes_of_all (word_of path) p ds ts) → AllStampsPass test ts
    all_listed_pass level p [] no_trees tries h = tt
    all_listed_pass level p [] (more_trees t ts) tries h = absurd tries
    all_listed_pass level p (d ∷ ds) no_trees tries h = tt
    all_listed_pass level p (d ∷ ds) (more_trees t ts) tries h =
        let here = nodes_below (word_of path) (p ++ d ∷ []) t in
        let others = nodes_of_all (word_of path) p ds ts in
        (listed_pass (level + 1) (p ++ d ∷ []) t tries.1 (left_all (λ n. test n.1 ≡ true) here others h), all_listed_pass level p ds ts tries.2 (right_all (λ n. test n.1 ≡ true) here others h))

  -- a write leaves only stamps that pass
  pub written_within : (level stamp : ℕ) (k : K) (given : Option V) (old new : Tree K V) → level ≤ word_digits → test stamp ≡ true → Writes R path level stamp k given old new → StampsPass test old → StampsPass test new
  written_within level stamp k given old new depth stamped w h =
      let p = take level (spelled (path k)) in
      let restamps = w.stamps p (length-take-le level (spelled (path k)) depth) (begins_taken level (spelled (path k))) in
      listed_pass level p new w.trie (written_pass test stamp (word_of path k) (nodes_below (word_of path) p old) (nodes_below (word_of path) p new) stamped (pass_listed p old h) restamps)
