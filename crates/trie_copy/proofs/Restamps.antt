-- How the stamp rule goes up through a branch.
use Rattle.std.proofs.Common.{◌≡◌, ℕ, Bool, true, false, List, [], ◌∷◌, ◌++◌, length, refl, sym, ap, ◌∙◌, subst, arith, append_assoc, nat_eq, get_or}
use Rattle.std.specs.Bool.{MatchBool}
use Rattle.std.specs.List.{All, Contains, starts_with}
use Rattle.std.proofs.lemmas.List.Elements.{All-cons, All-append, Contains-get_or, Contains-append_left, Contains-append_right}
use Rattle.trie_shape.specs.Tree.{Tree, trees}
use Rattle.trie_shape.specs.Shape.{Nodes, nodes_below, nodes_of_all, IsRestamped, Restamps}

-- a node is restamped also where there were more nodes before
abbrev Within : Nodes → Nodes → Type 0
Within xs ys = (n : List ℕ × ℕ) → Contains xs n → Contains ys n

more_before : (stamp : ℕ) (w : List ℕ) (xs ys : Nodes) (n : List ℕ × ℕ) → Within xs ys → IsRestamped stamp w xs n → IsRestamped stamp w ys n
more_before stamp w xs ys n inside = go (starts_with nat_eq w n.0)
  where
    go : (b : Bool) → MatchBool b (n.1 ≡ stamp) (Contains xs n) → MatchBool b (n.1 ≡ stamp) (Contains ys n)
    go true h = h
    go false h = inside n h

pub restamps_within : (stamp : ℕ) (w : List ℕ) (xs ys new : Nodes) → Within xs ys → Restamps stamp w xs new → Restamps stamp w ys new
restamps_within stamp w xs ys new inside h = λ k d lt. more_before stamp w xs ys _ inside (h k d lt)

-- nodes that the word does not pass stay
pub restamps_others : (stamp : ℕ) (w : List ℕ) (xs : Nodes) → All (λ n. starts_with nat_eq w n.0 ≡ false) xs → Restamps stamp w xs xs
restamps_others stamp w xs h = λ k d lt. at (get_or xs k d) (h k d lt) (Contains-get_or xs k d lt)
  where
    at : (n : List ℕ × ℕ) → starts_with nat_eq w n.0 ≡ false → Contains xs n → IsRestamped stamp w xs n
    at n e inside = subst (λ b. MatchBool b (n.1 ≡ stamp) (Contains xs n)) (sym e) inside

-- what a write does to one child, it does to the nodes of all children
pub restamps_between : (stamp : ℕ) (w : List ℕ) (xs ys old new : Nodes) → All (λ n. starts_with nat_eq w n.0 ≡ false) xs → All (λ n. starts_with nat_eq w n.0 ≡ false) ys →
    Restamps stamp w old new → Restamps stamp w (xs ++ (old ++ ys)) (xs ++ (new ++ ys))
restamps_between stamp w xs ys old new a b h =
    let rule = IsRestamped stamp w (xs ++ (old ++ ys)) in
    let first : Restamps stamp w (xs ++ (old ++ ys)) xs = restamps_within stamp w xs (xs ++ (old ++ ys)) xs (λ n. Contains-append_left xs (old ++ ys) n) (restamps_others stamp w xs a) in
    let middle : Restamps stamp w (xs ++ (old ++ ys)) new = restamps_within stamp w old (xs ++ (old ++ ys)) new (λ n c. Contains-append_right xs (old ++ ys) n (Contains-append_left old ys n c)) h in
    let last : Restamps stamp w (xs ++ (old ++ ys)) ys = restamps_within stamp w ys (xs ++ (old ++ ys)) ys (λ n c. Contains-append_right xs (old ++ ys) n (Contains-append_right old ys n c)) (restamps_others stamp w ys b) in
    All-append rule xs (new ++ ys) first (All-append rule new ys middle last)

-- and to the branch above, which gets the stamp
pub restamps_branch : (stamp before : ℕ) (w p : List ℕ) (old new : Nodes) → starts_with nat_eq w p ≡ true → Restamps stamp w old new → Restamps stamp w ((p, before) ∷ old) ((p, stamp) ∷ new)
restamps_branch stamp before w p old new on h =
    All-cons (IsRestamped stamp w ((p, before) ∷ old)) (p, stamp) new
    (subst (λ b. MatchBool b (stamp ≡ stamp) (Contains ((p, before) ∷ old) (p, stamp))) (sym on) refl)
    (restamps_within stamp w old ((p, before) ∷ old) new (λ n c. Contains-append_right ((p, before) ∷ []) old n c) h)

module _ {K V : Type 0} (word : K → List ℕ) where
  pub nodes_append : (p bs ds : List ℕ) (xs ys : List (Tree K V)) → length xs ≡ length bs →
      nodes_of_all word p (bs ++ ds) (trees (xs ++ ys)) ≡ nodes_of_all word p bs (trees xs) ++ nodes_of_all word p ds (trees ys)
  nodes_append p [] ds [] ys e = refl
  nodes_append p [] ds (x ∷ xs) ys e = absurd (omega arith)
  nodes_append p (b ∷ bs) ds [] ys e = absurd (omega arith)
  nodes_append p (b ∷ bs) ds (x ∷ xs) ys e =
      ap (λ ns. nodes_below word (p ++ b ∷ []) x ++ ns) (nodes_append p bs ds xs ys (omega arith)) ∙ sym (append_assoc (nodes_below word (p ++ b ∷ []) x) (nodes_of_all word p bs (trees xs)) (nodes_of_all word p ds (trees ys)))
