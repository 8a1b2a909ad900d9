-- A pair taken out of sorted pairs.
use Rattle.std.proofs.Common.{◌≡◌, ℕ, zero, suc, ◌<◌, Bool, true, false, not, cond, T, ◌&&◌, ◌==◌, List, [], ◌∷◌, length, map, drop, drop-cons, get_or, Option, Some, None, is_some, refl, sym, ap, ◌∙◌, subst, arith, nat_eq}
use mathlib.Core.Bool.{false≢true}
use Rattle.std.specs.Bool.{MatchBool}
use Rattle.std.specs.List.{Contains, remove, starts_with}
use Rattle.std.specs.declared.cmp.Ordering.{Ordering}
use Rattle.std.specs.declared.cmp.Ordering.TheVariants.{Less, Equal, Greater}
use Rattle.std.specs.Ordering.{eq_by_cmp, is_eq, is_lt, ordering_index}
use Rattle.std.specs.Cmp.{IsTotalOrder, tied_itself}
use Rattle.std.specs.FinMap.{find, is_sorted}
use Rattle.std.specs.FinMap.Entries.{below_all, where_key, is_sorted-where_key}
use Rattle.std.proofs.lemmas.List.{get_or-map, get_or_default, length-map}
use Rattle.std.proofs.lemmas.List.Edits.{length-remove}
use Rattle.std.proofs.lemmas.List.Elements.{All-cons, All-nil}
use Rattle.trie_shape.specs.Map.{is_other, without}
use Rattle.trie_shape.specs.Tree.{bucket, IsTrie}
use Rattle.trie_shape.specs.Shape.{nodes_below, IsRestamped, Restamps}
use Rattle.trie_shape.specs.Roots.{listed, word_of}
use Rattle.trie_copy.specs.Writes.{Writes}
use Rattle.trie_copy.specs.Removals.{IsAt, IsOnly}
use Rattle.trie_shape.proofs.Shortened.{remove_only}
use Rattle.trie_shape.proofs.InOrder.{left_of, right_of}
use Rattle.trie_shape.proofs.Finds.{found_first, tied}
use Rattle.trie_shape.proofs.Listings.{find_without, find_listed, without_listed}
use Rattle.trie_shape.proofs.Passing.{begins_itself}

not_tied : (r : Ordering) → T (is_lt r) → is_eq r ≡ false
not_tied Less h = refl
not_tied Equal h = absurd h
not_tied Greater h = absurd h

module _ {K V : Type 0} (R : K → K → Ordering) (path : K → ℕ) (total : IsTotalOrder R) (exact : (x y : K) → R x y ≡ Equal → x ≡ y) where
  -- pairs above a key are all of other keys
  where_above : (k : K) (es : List (K × V)) → T (below_all R k es) → where_key R (is_other R k) es ≡ es
  where_above k [] h = refl
  where_above k (e ∷ es) h =
      let other : is_other R k e.0 ≡ true = ap not (not_tied (R k e.0) (left_of (is_lt (R k e.0)) (below_all R k es) h)) in
      ap (λ b. cond b (e ∷ where_key R (is_other R k) es) (where_key R (is_other R k) es)) other ∙ ap (λ xs. e ∷ xs) (where_above k es (right_of (is_lt (R k e.0)) (below_all R k es) h))

  pub below_at : (x : K) (es : List (K × V)) (i : ℕ) (d : K × V) → i < length es → T (below_all R x es) → T (is_lt (R x (get_or es i d).0))
  below_at x [] i d lt h = absurd (omega arith)
  below_at x (e ∷ es) zero d lt h = left_of (is_lt (R x e.0)) (below_all R x es) h
  below_at x (e ∷ es) (suc i) d lt h = below_at x es i d (omega arith) (right_of (is_lt (R x e.0)) (below_all R x es) h)

  -- to take out the pair of a key is to keep the pairs of all others
  where_taken : (k : K) (es : List (K × V)) (i : ℕ) (d : K × V) → T (is_sorted R es) → i < length es → k ≡ (get_or es i d).0 → where_key R (is_other R k) es ≡ remove es i
  where_taken k [] i d sorted lt e = absurd (omega arith)
  where_taken k (x ∷ es) zero d sorted lt e =
      let tie : is_other R k x.0 ≡ false = ap (λ y. not (eq_by_cmp R y x.0)) e ∙ ap (λ r. not (is_eq r)) (tied_itself total x.0) in
      ap (λ b. cond b (x ∷ where_key R (is_other R k) es) (where_key R (is_other R k) es)) tie
      ∙ where_above k es (subst (λ y. T (below_all R y es)) (sym e) (left_of (below_all R x.0 es) (is_sorted R es) sorted))
  where_taken k (x ∷ es) (suc i) d sorted lt e =
      let above : T (is_lt (R x.0 k)) = subst (λ y. T (is_lt (R x.0 y))) (sym e) (below_at x.0 es i d (omega arith) (left_of (below_all R x.0 es) (is_sorted R es) sorted)) in
      let other : is_other R k x.0 ≡ true = ap not (apart (eq_by_cmp R k x.0) refl above) in
      ap (λ b. cond b (x ∷ where_key R (is_other R k) es) (where_key R (is_other R k) es)) other
      ∙ ap (λ xs. x ∷ xs) (where_taken k es i d (right_of (below_all R x.0 es) (is_sorted R es) sorted) (omega arith) e)
    where
      apart : (b : Bool) → eq_by_cmp R k x.0 ≡ b → T (is_lt (R x.0 k)) → eq_by_cmp R k x.0 ≡ false
      apart true tie lt2 = absurd (false≢true (sym (not_tied (R x.0 k) lt2) ∙ ap (λ y. is_eq (R x.0 y)) (exact k x.0 (tied (R k x.0) tie)) ∙ ap is_eq (tied_itself total x.0)))
      apart false tie lt2 = tie

  -- what is found, and the order, after a pair is taken out
  pub find_taken : (k : K) (es : List (K × V)) (i : ℕ) (d : K × V) → T (is_sorted R es) → i < length es → k ≡ (get_or es i d).0 → (q : K) → find R q (remove es i) ≡ cond (eq_by_cmp R q k) None (find R q es)
  find_taken k es i d sorted lt e q = ap (find R q) (sym (where_taken k es i d sorted lt e)) ∙ find_without R total exact es k q

  sorted_taken : (k : K) (es : List (K × V)) (i : ℕ) (d : K × V) → T (is_sorted R es) → i < length es → k ≡ (get_or es i d).0 → T (is_sorted R (remove es i))
  sorted_taken k es i d sorted lt e = subst (λ xs. T (is_sorted R xs)) (where_taken k es i d sorted lt e) (is_sorted-where_key R (is_other R k) es sorted)

  -- a leaf or bucket whose pairs all have the key's word has the stamp
  pub stamped : (stamp : ℕ) (k : K) (p : List ℕ) (olds : List (List ℕ × ℕ)) (es : List (K × V)) → ((q : K) → is_some (find R q es) ≡ true → path q ≡ path k) → Restamps stamp (word_of path k) olds (nodes_below (word_of path) p (bucket stamp es))
  stamped stamp k p olds [] h = All-nil (IsRestamped stamp (word_of path k) olds)
  stamped stamp k p olds (e ∷ es) h =
      let same : path e.0 ≡ path k = h e.0 (ap is_some (found_first R total exact e es)) in
      let begins : starts_with nat_eq (word_of path k) (word_of path e.0) ≡ true = (λ i. starts_with nat_eq (word_of path k) (word_of (λ x. same i) k)) ∙ begins_itself (word_of path k) in
      All-cons (IsRestamped stamp (word_of path k) olds) (word_of path e.0, stamp) []
      (subst (λ b. MatchBool b (stamp ≡ stamp) (Contains {X = List ℕ × ℕ} olds (word_of path e.0, stamp))) (sym begins) refl)
      (All-nil (IsRestamped stamp (word_of path k) olds))

  -- a bucket with one pair less
  pub removes_pair : (level stamp stamp0 : ℕ) (k : K) (es : List (K × V)) (i : ℕ) (d : K × V) → IsTrie R path level (bucket stamp0 es) → 1 < length es → IsAt R k i es → Writes R path level stamp k None (bucket stamp0 es) (bucket stamp (remove es i))
  removes_pair level stamp stamp0 k es i d trie more at =
      let finds = find_taken k es i d trie.3 at.within (at.key d) in
      let found : is_some (find R k es) ≡ true = ap is_some (at.value d) in
      let long = length-remove es i at.within in
      let kept : (q : K) → is_some (find R q (remove es i)) ≡ true → is_some (find R q es) ≡ true = λ q h. still_found (eq_by_cmp R q k) (find R q es) (sym (ap is_some (finds q)) ∙ h) in
      record {
        trie = (trie.0, omega (arith, long), (trie.2.0, λ q h. trie.2.1 q (kept q h)), sorted_taken k es i d trie.3 at.within (at.key d));
        finds = finds;
        least = omega (arith, long);
        most = omega (arith, long);
        stamps = λ p deep on. stamped stamp k p (nodes_below (word_of path) p (bucket stamp0 es)) (remove es i) (λ q h. trie.2.1 q (kept q h) ∙ sym (trie.2.1 k found));
      }
    where
      still_found : (b : Bool) (o : Option V) → is_some (cond b None o) ≡ true → is_some o ≡ true
      still_found true o h = absurd (false≢true h)
      still_found false o h = h

  -- the only pair
  pub takes_only : (level stamp0 : ℕ) (k : K) (es : List (K × V)) (i : ℕ) → IsTrie R path level (bucket stamp0 es) → IsAt R k i es → length es ≡ 1 → IsOnly R k (bucket stamp0 es)
  takes_only level stamp0 k [] i trie at one = absurd (omega (arith, one))
  takes_only level stamp0 k (e ∷ es) i trie at one =
      let none : remove (e ∷ es) i ≡ [] = remove_only (e ∷ es) i one at.within in
      record { finds = λ q. ap (find R q) (sym none) ∙ find_taken k (e ∷ es) i e trie.3 at.within (at.key e) q; one = one }

-- the place at which a search by the order has stopped
pub at_place : {A K V : Type 0} (R : K → K → Ordering) (exact : (x y : K) → R x y ≡ Equal → x ≡ y) (f : A → K × V) (k : K) (xs : List A) (i : ℕ) (x : A) → i < length xs →
    R k (f (get_or xs i x)).0 ≡ Equal → find R k (map f (drop i xs)) ≡ find R k (map f xs) → IsAt R k i (map f xs)
at_place R exact f k xs i x lt tie same =
    let here : (d : _) → get_or (map f xs) i d ≡ f (get_or xs i x) = λ d. get_or_default (map f xs) i d (f x) (omega (arith, length-map xs f)) ∙ get_or-map f xs i x (f x) lt in
    record {
      within = omega (arith, length-map xs f);
      key = λ d. exact k _ tie ∙ ap (λ e. e.0) (sym (here d));
      value = λ d. sym same ∙ ap (λ ys. find R k (map f ys)) (drop-cons xs i x lt) ∙ ap (λ r. cond (is_eq r) (Some (f (get_or xs i x)).1) (find R k (map f (drop (suc i) xs)))) tie ∙ ap (λ e. Some e.1) (sym (here d));
    }

-- the value there
pub value_at_place : {A K V : Type 0} (R : K → K → Ordering) (f : A → K × V) (k : K) (xs : List A) (i : ℕ) (x : A) → IsAt R k i (map f xs) → find R k (map f xs) ≡ Some (f (get_or xs i x)).1
value_at_place R f k xs i x at = at.value (f x) ∙ ap (λ e. Some e.1) (get_or-map f xs i x (f x) (omega (arith, at.within, length-map xs f)))

-- an order that is the second of the three
pub equal_of_index : (r : Ordering) → (ordering_index r == 1) ≡ true → r ≡ Equal
equal_of_index Less e = absurd (false≢true e)
equal_of_index Equal e = refl
equal_of_index Greater e = absurd (false≢true e)

-- there is nothing to remove without a test where the key is absent
pub absent_of : {A : Type 0} (o : Option A) → false ≡ (is_some o && true) → o ≡ None
absent_of (Some x) e = absurd (false≢true e)
absent_of None e = refl

-- a map without a key that is absent is the map
pub without_absent : {K V : Type 0} (R : K → K → Ordering) (total : IsTotalOrder R) (exact : (x y : K) → R x y ≡ Equal → x ≡ y) (es : List (K × V)) (k : K) → find R k (listed R es) ≡ None → listed R es ≡ without R (listed R es) k
without_absent R total exact es k absent = without_listed R total exact es es k (λ q. same q (eq_by_cmp R q k) refl)
  where
    same : (q : _) (b : Bool) → eq_by_cmp R q k ≡ b → find R q es ≡ cond b None (find R q es)
    same q true e = ap (λ x. find R x es) (exact q k (tied (R q k) e)) ∙ sym (find_listed R total es k) ∙ absent
    same q false e = refl
