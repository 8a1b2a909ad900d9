-- Where a group stands or goes among counts in order.
use Rattle.std.proofs.Common.{◌≡◌, ℕ, zero, suc, ◌+◌, ◌<◌, ◌≤◌, T, cond, List, [], ◌∷◌, length, set, get_or, map, Some, None, Result, Ok, Err, IfOk, IfErr, refl, sym, ap, ◌∙◌, subst, inl, inr, arith}
use Rattle.std.specs.List.{insert}
use Rattle.std.specs.List.Sorted.{IsSearchInRange, IsBinarySearchResult, IsNonDecreasingBy}
use Rattle.std.specs.Option.{unwrap_or}
use Rattle.std.specs.declared.sync.Arc.{Arc}
use Rattle.std.specs.declared.alloc.Global.{Global}
use Rattle.std.specs.declared.cmp.Ordering.{Ordering}
use Rattle.std.specs.declared.cmp.Ordering.TheVariants.{Less, Equal, Greater}
use Rattle.std.specs.Ordering.{is_eq, ordering_index, ordering_reverse}
use Rattle.std.specs.Cmp.{IsTotalOrder, alike_right}
use Rattle.std.specs.FinMap.{find, is_sorted}
use Rattle.std.specs.FinMap.Entries.{put, by_order, is_sorted-put}
use Rattle.std.proofs.lemmas.Bool.{cases_eq}
use Rattle.std.proofs.lemmas.List.{get_or-map, length-map, map-set}
use Rattle.versions.specs.Map.{IsMap, Map}
use Rattle.group_counts.specs.Counts.{GoesTo, StandsAt, count_at, row_pair, with_one}
use Rattle.bulk_work.proofs.Unions.{right_of, true_of, truth_of}
use Rattle.trie_copy.proofs.Cases.{map_insert}
use Rattle.group_counts.proofs.Lists.{rises}

index_le : (r s : Ordering) → (s ≡ Less → r ≡ Less) → (s ≡ Equal → r ≡ Less) → ordering_index r ≤ ordering_index s
index_le r Less f g = omega (arith, ap ordering_index (f refl))
index_le r Equal f g = omega (arith, ap ordering_index (g refl))
index_le Less Greater f g = omega arith
index_le Equal Greater f g = omega arith
index_le Greater Greater f g = omega arith

module _ {K : Type 0} (R : K → K → Ordering) (o : IsTotalOrder R) where
  turned : (k x : K) (r : Ordering) → R x k ≡ r → R k x ≡ ordering_reverse r
  turned k x r e = o.antisymm k x ∙ ap ordering_reverse e

module _ {K X : Type 0} (R : K → K → Ordering) (o : IsTotalOrder R) where
  -- the keys rise, so their comparisons with one key do not fall
  pub comparisons_rise : (k : K) (es : List (K × X)) → T (is_sorted R es) → IsNonDecreasingBy (λ e. ordering_index (R e.0 k)) es
  comparisons_rise k es h i j d le within =
      elim (cases_eq i j) [
        | inl same ↦ omega (arith, ap (λ n. ordering_index (R (get_or es n d).0 k)) same)
        | inr other ↦
            let less = rises R es i j d h (omega arith) within in
            index_le (R (get_or es i d).0 k) (R (get_or es j d).0 k) (λ e. o.trans _ _ _ less e) (λ e. sym (alike_right o _ _ _ e) ∙ less)
      ]

  -- the value of a key that ties with the one at a place
  pub value_there : (k : K) (es : List (K × X)) (i : ℕ) (d : K × X) → T (is_sorted R es) → i < length es → R (get_or es i d).0 k ≡ Equal → find R k es ≡ Some (get_or es i d).1
  value_there k [] i d h lt e = absurd (omega arith)
  value_there k (x ∷ es) zero d h lt e = ap (λ r. cond (is_eq r) (Some x.1) (find R k es)) (turned R o k x.0 Equal e)
  value_there k (x ∷ es) (suc i) d h lt e =
      ap (λ r. cond (is_eq r) (Some x.1) (find R k es)) (turned R o k x.0 Less (sym (alike_right o _ _ _ e) ∙ rises R (x ∷ es) zero (suc i) d h (omega arith) lt))
      ∙ value_there k es i d (right_of _ _ h) (omega arith) e

  -- a put of such a key writes there
  pub put_there : (k : K) (v : X) (es : List (K × X)) (i : ℕ) (d : K × X) → T (is_sorted R es) → i < length es → R (get_or es i d).0 k ≡ Equal → put R k v es ≡ set es i ((get_or es i d).0, v)
  put_there k v [] i d h lt e = absurd (omega arith)
  put_there k v (x ∷ es) zero d h lt e = ap (λ r. by_order r ((k, v) ∷ x ∷ es) ((x.0, v) ∷ es) (x ∷ put R k v es)) (turned R o k x.0 Equal e)
  put_there k v (x ∷ es) (suc i) d h lt e =
      ap (λ r. by_order r ((k, v) ∷ x ∷ es) ((x.0, v) ∷ es) (x ∷ put R k v es)) (turned R o k x.0 Less (sym (alike_right o _ _ _ e) ∙ rises R (x ∷ es) zero (suc i) d h (omega arith) lt))
      ∙ ap (λ xs. x ∷ xs) (put_there k v es i d (right_of _ _ h) (omega arith) e)

  -- the keys before the place are below k, and those from it on above
  pub record Parts (k : K) (es : List (K × X)) (i : ℕ) : Type 0 where
    pub before : (j : ℕ) (d : K × X) → j < i → R (get_or es j d).0 k ≡ Less
    pub after : (j : ℕ) (d : K × X) → i ≤ j → j < length es → R (get_or es j d).0 k ≡ Greater

  rest : (k : K) (x : K × X) (es : List (K × X)) (i : ℕ) → Parts k (x ∷ es) (suc i) → Parts k es i
  rest k x es i p = record { before = λ j d lt. p.before (suc j) d (omega arith); after = λ j d le lt. p.after (suc j) d (omega arith) (omega arith) }

  rest_above : (k : K) (x : K × X) (es : List (K × X)) → Parts k (x ∷ es) zero → Parts k es zero
  rest_above k x es p = record { before = λ j d lt. absurd (omega arith); after = λ j d le lt. p.after (suc j) d (omega arith) (omega arith) }

  -- such a key is not found
  pub absent_between : (k : K) (es : List (K × X)) (i : ℕ) → Parts k es i → i ≤ length es → find R k es ≡ None
  absent_between k [] i p le = refl
  absent_between k (x ∷ es) zero p le =
      ap (λ r. cond (is_eq r) (Some x.1) (find R k es)) (turned R o k x.0 Greater (p.after 0 x (omega arith) (omega arith))) ∙ absent_between k es zero (rest_above k x es p) (omega arith)
  absent_between k (x ∷ es) (suc i) p le =
      ap (λ r. cond (is_eq r) (Some x.1) (find R k es)) (turned R o k x.0 Less (p.before 0 x (omega arith))) ∙ absent_between k es i (rest k x es i p) (omega arith)

  -- and a put of it goes between
  pub put_between : (k : K) (v : X) (es : List (K × X)) (i : ℕ) → Parts k es i → i ≤ length es → put R k v es ≡ insert es i (k, v)
  put_between k v [] zero p le = refl
  put_between k v [] (suc i) p le = absurd (omega arith)
  put_between k v (x ∷ es) zero p le = ap (λ r. by_order r ((k, v) ∷ x ∷ es) ((x.0, v) ∷ es) (x ∷ put R k v es)) (turned R o k x.0 Greater (p.after 0 x (omega arith) (omega arith)))
  put_between k v (x ∷ es) (suc i) p le =
      ap (λ r. by_order r ((k, v) ∷ x ∷ es) ((x.0, v) ∷ es) (x ∷ put R k v es)) (turned R o k x.0 Less (p.before 0 x (omega arith)))
      ∙ ap (λ xs. x ∷ xs) (put_between k v es i (rest k x es i p) (omega arith))

-- a binary search among rows, of which each is a count by f
module _ {G A : Type 0} (R : G → G → Ordering) (o : IsTotalOrder R) (f : A → G × ℕ) (g : G) (rows : List A) (m : IsMap R (map f rows)) where
  h : T (is_sorted R (map f rows))
  h = truth_of _ m

  at_row : (i : ℕ) (d : A) → i < length rows → get_or (map f rows) i (f d) ≡ f (get_or rows i d)
  at_row i d lt = get_or-map f rows i d (f d) lt

  rows_rise : IsNonDecreasingBy (λ row. ordering_index (R (f row).0 g)) rows
  rows_rise i j d le within =
      let all = comparisons_rise R o g (map f rows) h i j (f d) le (subst (λ n. j < n) (sym (length-map rows f)) within) in
      subst (λ x. ordering_index (R (f (get_or rows i d)).0 g) ≤ ordering_index (R x.0 g)) (at_row j d within)
      (subst (λ x. ordering_index (R x.0 g) ≤ ordering_index (R (get_or (map f rows) j (f d)).0 g)) (at_row i d (omega arith)) all)

  found_at : (i : ℕ) → i < length rows → ((d : A) → R (f (get_or rows i d)).0 g ≡ Equal) → StandsAt R g i (map f rows)
  found_at i lt e =
      let within : i < length (map f rows) = subst (λ n. i < n) (sym (length-map rows f)) lt in
      record {
        within = within;
        count = λ d. value_there R o g (map f rows) i d h within (at_any d);
        puts = λ n d. put_there R o g n (map f rows) i d h within (at_any d);
      }
    where
      at_any_of : (xs : List A) (i : ℕ) → i < length xs → ((d : A) → R (f (get_or xs i d)).0 g ≡ Equal) → (d : G × ℕ) → R (get_or (map f xs) i d).0 g ≡ Equal
      at_any_of [] i lt e d = absurd (omega arith)
      at_any_of (x ∷ xs) zero lt e d = e x
      at_any_of (x ∷ xs) (suc i) lt e d = at_any_of xs i (omega arith) e d

      at_any : (d : G × ℕ) → R (get_or (map f rows) i d).0 g ≡ Equal
      at_any d = at_any_of rows i lt e d

  parts_at : (i : ℕ) → ((j : ℕ) (d : A) → 0 ≤ j → j < i → R (f (get_or rows j d)).0 g ≡ Less) → ((j : ℕ) (d : A) → i ≤ j → j < length rows → R (f (get_or rows j d)).0 g ≡ Greater) → i ≤ length rows → GoesTo R g i (map f rows)
  parts_at i before after le =
      let within : i ≤ length (map f rows) = subst (λ n. i ≤ n) (sym (length-map rows f)) le in
      record { within = within; absent = absent_between R o g (map f rows) i parts within; puts = λ n. put_between R o g n (map f rows) i parts within }
    where
      any : (xs : List A) (r : Ordering) (j : ℕ) → j < length xs → ((d : A) → R (f (get_or xs j d)).0 g ≡ r) → (d : G × ℕ) → R (get_or (map f xs) j d).0 g ≡ r
      any [] r j lt e d = absurd (omega arith)
      any (x ∷ xs) r zero lt e d = e x
      any (x ∷ xs) r (suc j) lt e d = any xs r j (omega arith) e d

      parts : Parts R o g (map f rows) i
      parts = record {
        before = λ j d lt. any rows Less j (omega arith) (λ a. before j a (omega arith) lt) d;
        after = λ j d from lt. let inside : j < length rows = subst (λ n. j < n) (length-map rows f) lt in any rows Greater j inside (λ a. after j a from inside) d;
      }

  -- ends where the group stands, or where it goes
  pub searched : (r : Result ℕ ℕ) → IsSearchInRange r (length rows) → IsBinarySearchResult (λ row. R (f row).0 g) rows r → record { found : IfOk r (λ at. StandsAt R g at (map f rows)); absent : IfErr r (λ at. GoesTo R g at (map f rows)) }
  searched (Ok at) within equal = record { found = found_at at within equal; absent = tt }
  searched (Err at) within parted = record { found = tt; absent = let p = parted rows_rise in parts_at at p.0 p.1 within }

-- rows and the counts that they are
module _ {G : Type 0} (R : G → G → Ordering) (o : IsTotalOrder R) (rows : List (Arc G Global × ℕ)) (counts : Map G ℕ) (are : map row_pair rows ≡ counts) (g : G) where
  -- the pair of a row that was read
  row_read : (at : ℕ) (row : Arc G Global × ℕ) → at < length counts → row ≡ get_or rows at row → get_or counts at (row_pair row) ≡ row_pair row
  row_read at row lt read =
      let within : at < length rows = subst (λ n. at < n) (ap length (sym are) ∙ length-map rows row_pair) lt in
      ap (λ es. get_or es at (row_pair row)) (sym are) ∙ get_or-map row_pair rows at row (row_pair row) within ∙ ap row_pair (sym read)

  -- the count of a row where the group stands
  pub count_read : (at : ℕ) (row : Arc G Global × ℕ) → StandsAt R g at counts → row ≡ get_or rows at row → row.1 ≡ count_at R counts g
  count_read at row stands read =
      sym (ap (λ n. unwrap_or n 0) (stands.count (row_pair row)) ∙ ap (λ x. x.1) (row_read at row stands.within read))

  -- a new count of a group that stands at a place
  pub written : (at : ℕ) (row : Arc G Global × ℕ) (n : ℕ) → StandsAt R g at counts → row ≡ get_or rows at row → map row_pair (set rows at (row.0, n)) ≡ put R g n counts
  written at row n stands read =
      map-set row_pair rows at (row.0, n)
      ∙ ap (λ es. set es at (row.0.value, n)) are
      ∙ ap (λ (x : G × ℕ). set counts at (x.0, n)) (sym (row_read at row stands.within read))
      ∙ sym (stands.puts n (row_pair row))

  -- one pair more of it
  pub raised : (at : ℕ) (row : Arc G Global × ℕ) → StandsAt R g at counts → row ≡ get_or rows at row → map row_pair (set rows at (row.0, row.1 + 1)) ≡ with_one R counts g
  raised at row stands read = written at row (row.1 + 1) stands read ∙ ap (λ n. put R g (n + 1) counts) (count_read at row stands read)

  -- the first pair of a group
  pub entered : (at : ℕ) (name : Arc G Global) → GoesTo R g at counts → name.value ≡ g → map row_pair (insert rows at (name, 1)) ≡ with_one R counts g
  entered at name goes is =
      map_insert row_pair rows at (name, 1) (subst (λ n. at ≤ n) (ap length (sym are) ∙ length-map rows row_pair) goes.within)
      ∙ (λ i. insert (are i) at (is i, 1))
      ∙ sym (goes.puts 1)
      ∙ ap (λ n. put R g (unwrap_or n 0 + 1) counts) (sym goes.absent)

-- the counts with a new count of a group are in order
pub put_rises : {G : Type 0} (R : G → G → Ordering) (o : IsTotalOrder R) (counts : Map G ℕ) (g : G) (n : ℕ) → IsMap R counts → IsMap R (put R g n counts)
put_rises R o counts g n h = true_of _ (is_sorted-put R o g n counts (truth_of _ h))
