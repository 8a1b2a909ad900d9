-- The walk over the journal that bears a seat's list out.
use Rattle.std.proofs.Common.{◌≡◌, ℕ, ◌+◌, ◌<◌, ◌≤◌, ◌==◌, Bool, true, false, List, [], ◌∷◌, ◌++◌, length, take, get_or, cond, subst, sym, ap, ◌∙◌, arith, zero, suc, add-zero, add-one, append_assoc}
use Rattle.std.proofs.lemmas.List.{map-append, append-nil, length-map, length-take-le, take_all}
use Rattle.std.proofs.Math.Seq.{take-suc}
use Rattle.std.proofs.lemmas.Bool.Decides.{nat_tests}
use Rattle.boxcar.specs.Table.{Shelves, Where, Shows}
use Rattle.bulk_work.specs.Answers as plain
use Rattle.journal.specs.Journals.{Entered, own}
use Rattle.filed_entries.specs.declared.filed.Filed.{Filed}
use Rattle.journal.specs.Tokens.{entry_at, entries_of}
use Rattle.locked_map.specs.Seats.{placed_all, AllOf, AboveFloors, pairs}

abbrev Entry : Type 0 → Type 0 → Type 0 → Type 0 → Type 0
Entry K V Q I = Entered K V Q (plain.Summary K V I)

module _ {K V Q I : Type 0} where
  -- what one entry adds
  abbrev pub one : Bool → ℕ → Entry K V Q I → List (ℕ × Entry K V Q I)
  one b n e = cond b ((n, e) ∷ []) []

  cond_more : (b : Bool) (p : ℕ × Entry K V Q I) (xs ys zs : List (ℕ × Entry K V Q I)) → xs ≡ ys ++ zs → cond b (p ∷ xs) xs ≡ cond b (p ∷ ys) ys ++ zs
  cond_more true p xs ys zs e = ap (λ l. p ∷ l) e
  cond_more false p xs ys zs e = e

  pub own_snoc : (k from n : ℕ) (es : List (Entry K V Q I)) (e : Entry K V Q I) → from + length es ≡ n → own k from (es ++ e ∷ []) ≡ own k from es ++ one (e.seat == k) n e
  own_snoc k from n [] e is = ap (λ m. one (e.seat == k) m e) (sym (add-zero from) ∙ is)
  own_snoc k from n (x ∷ es) e is =
      let m : (from + 1) + length es ≡ n = omega (arith, is) in
      cond_more (x.seat == k) (from, x) (own k (from + 1) (es ++ e ∷ [])) (own k (from + 1) es) (one (e.seat == k) n e) (own_snoc k (from + 1) n es e m)

  floor_cons : (f : Filed K V Q I) (fs : List (Filed K V Q I)) → f.floor ≤ f.place → AboveFloors (placed_all fs) → AboveFloors (placed_all (f ∷ fs))
  floor_cons f fs ok all zero d h = ok
  floor_cons f fs ok all (suc k) d h = all k d (omega arith)

  -- the token at the head of a seat's list, and one of the journal's, are of the vector
  pub head_shown : (t t' : Shelves) (rest tail : List (Filed K V Q I)) (f : Filed K V Q I) → t' ≡ t → rest ≡ f ∷ tail → AllOf t rest → Shows t' f.token
  head_shown t t' rest tail f e parts all =
      let shown : AllOf t (f ∷ tail) = subst (λ (r : List (Filed K V Q I)). AllOf t r) parts all in
      subst (λ u. Shows u f.token) (sym e) (shown 0 f (omega arith))

module _ {K V Q I : Type 0} where
  pub length_taken : (js : List (Where (Entry K V Q I))) (i : ℕ) → i < length js → length (entries_of (take i js)) ≡ i
  length_taken js i h = length-map (take i js) entry_at ∙ length-take-le i js (omega arith)

  pub own_more : (k i : ℕ) (js : List (Where (Entry K V Q I))) (d : Where (Entry K V Q I)) → i < length js
      → own k 0 (entries_of (take (i + 1) js)) ≡ own k 0 (entries_of (take i js)) ++ one ((entry_at (get_or js i d)).seat == k) i (entry_at (get_or js i d))
  own_more k i js d h =
      let t : take (i + 1) js ≡ take i js ++ get_or js i d ∷ [] = ap (λ n. take n js) (add-one i) ∙ take-suc js i d h in
      let n : 0 + length (entries_of (take i js)) ≡ i = omega (arith, length_taken js i h) in
      ap (λ x. own k 0 (entries_of x)) t ∙ ap (own k 0) (map-append entry_at (take i js) (get_or js i d ∷ [])) ∙ own_snoc k 0 i (entries_of (take i js)) (entry_at (get_or js i d)) n

  own_at : (k i : ℕ) (js : List (Where (Entry K V Q I))) (a : Where (Entry K V Q I)) → i < length js → a ≡ get_or js i a
      → own k 0 (entries_of (take (i + 1) js)) ≡ own k 0 (entries_of (take i js)) ++ one ((entry_at a).seat == k) i (entry_at a)
  own_at k i js a h is = own_more k i js a h ∙ ap (λ (x : Where (Entry K V Q I)). own k 0 (entries_of (take i js)) ++ one ((entry_at x).seat == k) i (entry_at x)) (sym is)

  -- what the walk keeps: the rest of the seat's list is of the vector, and the part before it is what the journal so far has of the seat
  pub record Walks (t : Shelves) (k : ℕ) (js : List (Where (Entry K V Q I))) (i p : ℕ) (all rest : List (Filed K V Q I)) : Type 0 where
    pub shown : AllOf t rest
    pub place : p ≡ i
    pub floors : AboveFloors (placed_all rest) → AboveFloors (placed_all all)
    pub split : pairs (placed_all all) ≡ own k 0 (entries_of (take i js)) ++ pairs (placed_all rest)

  pub walks_skip : (t : Shelves) (k : ℕ) (js : List (Where (Entry K V Q I))) (i place : ℕ) (all rest' rest : List (Filed K V Q I)) (a : Where (Entry K V Q I))
      → Walks t k js i place all rest' → rest' ≡ rest → i < length js → a ≡ get_or js i a → ((entry_at a).seat ≡ k → ⊥) → Walks t k js (i + 1) (place + 1) all rest
  walks_skip t k js i place all rest' rest a w' stays h is other =
      let P : List (Filed K V Q I) → Type 0 = λ r. Walks t k js i place all r in
      let w : Walks t k js i place all rest = subst P stays w' in
      let b : ((entry_at a).seat == k) ≡ false = grind (arith, nat_tests) in
      let more : own k 0 (entries_of (take (i + 1) js)) ≡ own k 0 (entries_of (take i js)) =
      own_at k i js a h is ∙ ap (λ x. own k 0 (entries_of (take i js)) ++ one x i (entry_at a)) b ∙ append-nil (own k 0 (entries_of (take i js))) in
      record {
        shown = w.shown;
        floors = w.floors;
        place = ap (λ n. n + 1) w.place;
        split = w.split ∙ ap (λ x. x ++ pairs (placed_all rest)) (sym more);
      }

  pub walks_take : (t : Shelves) (k : ℕ) (js : List (Where (Entry K V Q I))) (i place : ℕ) (all rest tail : List (Filed K V Q I)) (f : Filed K V Q I) (a : Where (Entry K V Q I))
      → Walks t k js i place all rest → i < length js → a ≡ get_or js i a → (entry_at a).seat ≡ k → rest ≡ f ∷ tail → f.place ≡ place
      → f.floor ≤ f.place → entry_at f.token ≡ entry_at a → Walks t k js (i + 1) (place + 1) all tail
  walks_take t k js i place all rest tail f a w h is mine parts at above same =
      let P : List (Filed K V Q I) → Type 0 = λ r. AllOf t r in
      let shown : AllOf t (f ∷ tail) = subst P parts w.shown in
      let b : ((entry_at a).seat == k) ≡ true = grind (arith, nat_tests) in
      let left : ℕ × Entry K V Q I = (f.place, entry_at f.token) in
      let right : ℕ × Entry K V Q I = (i, entry_at a) in
      let e : left ≡ right = λ n. ((at ∙ w.place) n, same n) in
      let more : own k 0 (entries_of (take (i + 1) js)) ≡ own k 0 (entries_of (take i js)) ++ (i, entry_at a) ∷ [] =
      own_at k i js a h is ∙ ap (λ x. own k 0 (entries_of (take i js)) ++ one x i (entry_at a)) b in
      record {
        shown = λ j x l. shown (suc j) x (omega arith);
        floors = λ rest_ok. w.floors (subst (λ (r : List (Filed K V Q I)). AboveFloors (placed_all r)) (sym parts) (floor_cons f tail above rest_ok));
        place = ap (λ n. n + 1) w.place;
        split = w.split ∙ ap (λ r. own k 0 (entries_of (take i js)) ++ pairs (placed_all r)) parts
            ∙ ap (λ q. own k 0 (entries_of (take i js)) ++ q ∷ pairs (placed_all tail)) e
            ∙ sym (append_assoc (own k 0 (entries_of (take i js))) ((i, entry_at a) ∷ []) (pairs (placed_all tail)))
            ∙ ap (λ x. x ++ pairs (placed_all tail)) (sym more);
      }

  pub walks_end : (t : Shelves) (k : ℕ) (js : List (Where (Entry K V Q I))) (i place : ℕ) (all rest : List (Filed K V Q I))
      → Walks t k js i place all rest → length js ≤ i → rest ≡ [] → own k 0 (entries_of js) ≡ pairs (placed_all all)
  walks_end t k js i place all rest w h none =
      sym (w.split ∙ ap (λ r. own k 0 (entries_of (take i js)) ++ pairs (placed_all r)) none ∙ append-nil (own k 0 (entries_of (take i js)))
      ∙ ap (λ x. own k 0 (entries_of x)) (take_all i js h))

  pub item_shown : (t t' : Shelves) (js : List (Where (Entry K V Q I))) (i : ℕ) (a : Where (Entry K V Q I)) → t' ≡ t → a ≡ get_or js i a
      → i < length js → ((k : ℕ) (d : Where (Entry K V Q I)) → k < length js → Shows t (get_or js k d)) → Shows t' a
  item_shown t t' js i a e at h all =
      let there : Shows t a = subst (λ (b : Where (Entry K V Q I)). Shows t b) (sym at) (all i a h) in
      subst (λ u. Shows u a) (sym e) there
