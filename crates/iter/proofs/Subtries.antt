-- Subtries of a trie, one after another.
use Rattle.std.proofs.Common.{◌≡◌, ℕ, zero, suc, ◌+◌, ◌<◌, ◌≤◌, List, [], ◌∷◌, ◌++◌, length, get_or, take, drop, refl, sym, ap, ◌∙◌, arith}
use Rattle.std.specs.Prelude.{All}
use Rattle.std.proofs.lemmas.List.Concat.{flat_map-append}
use Rattle.std.proofs.lemmas.List.Sums.{sum_by-append}
use Rattle.std.proofs.lemmas.List.Elements.{All-nil, All-cons, All-head, All-tail, All-take, All-drop}
use Rattle.std.specs.declared.cmp.Ordering.{Ordering}
use Rattle.trie_shape.specs.Counts.{node_count}
use Rattle.trie_shape.specs.Outline.{children}
use Rattle.trie_shape.specs.Tree.{Tree, IsTrie, entries}
use Rattle.iter.specs.Subtries.{children_between, pairs_of_all, nodes_of_all, AllStand}

module _ {X : Type 0} (P : X → Type 0) where
  -- what is true of each element by its number is true of all
  pub all_by_number : (xs : List X) → ((n : ℕ) (x : X) → n < length xs → x ≡ get_or xs n x → P x) → All P xs
  all_by_number [] h = All-nil P
  all_by_number (x ∷ xs) h = All-cons P x xs (h 0 x (omega arith) refl) (all_by_number xs (λ n y lt e. h (suc n) y (omega arith) e))

empty_left : {X : Type 0} (xs ys : List X) → xs ++ ys ≡ [] → xs ≡ []
empty_left [] ys e = refl
empty_left (x ∷ xs) ys e = cc

-- where the front of a list has been taken its rest begins with the next element
pub drop_first : {X : Type 0} (xs : List X) (n end : ℕ) (x : X) → n < end → end ≤ length xs → x ≡ get_or xs n x → drop n (take end xs) ≡ x ∷ drop (n + 1) (take end xs)
drop_first [] n end x lt le e = absurd (omega arith)
drop_first (y ∷ xs) n zero x lt le e = absurd (omega arith)
drop_first (y ∷ xs) zero (suc end) x lt le e = ap (λ z. z ∷ take end xs) (sym e)
drop_first (y ∷ xs) (suc n) (suc end) x lt le e =
    let next : suc (n + 1) ≡ suc n + 1 = omega arith in
    drop_first xs n end x (omega arith) (omega arith) e ∙ ap (λ k. x ∷ drop k (take (suc end) (y ∷ xs))) next

module _ {K V : Type 0} where
  pub pairs_append : (ts us : List (Tree K V)) → pairs_of_all (ts ++ us) ≡ pairs_of_all ts ++ pairs_of_all us
  pairs_append ts us = flat_map-append entries ts us

  pub nodes_append : (ts us : List (Tree K V)) → nodes_of_all (ts ++ us) ≡ nodes_of_all ts + nodes_of_all us
  nodes_append ts us = sum_by-append node_count ts us

module _ {K V : Type 0} (R : K → K → Ordering) (path : K → ℕ) where
  abbrev pub Stands : ℕ → Tree K V → Type 0
  Stands level t = IsTrie R path level t × (0 < length (entries t))

  pub stands_first : (level : ℕ) (t : Tree K V) (ts : List (Tree K V)) → AllStand R path level (t ∷ ts) → Stands level t
  stands_first level t ts h = All-head (Stands level) t ts h

  pub stand_later : (level : ℕ) (t : Tree K V) (ts : List (Tree K V)) → AllStand R path level (t ∷ ts) → AllStand R path level ts
  stand_later level t ts h = All-tail (Stands level) t ts h

  -- some children of a branch stand one level lower
  pub children_stand : (level from to : ℕ) (t : Tree K V) → ((u : Tree K V) (n : ℕ) → n < length (children t) → u ≡ get_or (children t) n u → Stands (level + 1) u) → AllStand R path (level + 1) (children_between t from to)
  children_stand level from to t below =
      All-drop (Stands (level + 1)) from (take to (children t)) (All-take (Stands (level + 1)) to (children t) (all_by_number (Stands (level + 1)) (children t) (λ n u lt e. below u n lt e)))

  -- subtries that stand and have no pairs are none
  pub none_stand : (level : ℕ) (ts : List (Tree K V)) → AllStand R path level ts → pairs_of_all ts ≡ [] → ts ≡ []
  none_stand level [] h e = refl
  none_stand level (t ∷ ts) h e =
      let some = (stands_first level t ts h).1 in
      let none = ap length (empty_left (entries t) (pairs_of_all ts) e) in
      absurd (omega (arith, some, none))
