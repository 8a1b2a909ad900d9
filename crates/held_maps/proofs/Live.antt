-- What the places show of the live handles.
use Rattle.std.proofs.Common.{◌≡◌, ℕ, ◌+◌, ◌<◌, ◌≤◌, List, [], ◌∷◌, ◌++◌, length, Option, Some, None, cond, not, refl, ap, sym, ◌∙◌, suc, zero, arith, map, get_or}
use Rattle.std.proofs.Math.ListN.{get_or-eq_default}
use Rattle.std.proofs.lemmas.List.{length-map}
use Rattle.std.specs.Prelude.{slice_set, unwrap_or, IsSome, is_some, false, option_map}
use Rattle.std.specs.declared.cmp.Ordering.{Ordering}
use Rattle.std.specs.declared.cmp.Ordering.TheVariants.{Less, Equal, Greater}
use Rattle.std.specs.Ordering.{nat_cmp, is_eq}
use Rattle.std.specs.Cmp.{nat_cmp_is}
use Rattle.std.specs.FinMap.Entries.{by_order}
use Rattle.versions.specs.Contents.{Contents}
use Rattle.versions.specs.Map.{Map, value_at, with_pair, without}
use Rattle.held_maps.specs.HeldMaps.{entries_of, live_from, maps_in, map_in, stamp_of, stamps_in, version_in}

module _ {M : Type 0} where
  -- nothing stands before the first number
  none_before : (n k : ℕ) (os : List (Option M)) → k < n → value_at nat_cmp (live_from n os) k ≡ None
  none_before n k [] h = refl
  none_before n k (None ∷ os) h = none_before (n + 1) k os (omega arith)
  none_before n k (Some m ∷ os) h =
      ap (λ (o : Ordering). cond (is_eq o) (Some m) (value_at nat_cmp (live_from (n + 1) os) k)) (sym (nat_cmp_is k n Less h))
      ∙ none_before (n + 1) k os (omega arith)

  -- what stands under a number is what stands in its place
  value_in : (n i k : ℕ) (os : List (Option M)) → k ≡ n + i → value_at nat_cmp (live_from n os) k ≡ get_or os i None
  value_in n i k [] e = refl
  value_in n zero k (None ∷ os) e = none_before (n + 1) k os (omega arith)
  value_in n zero k (Some m ∷ os) e =
      ap (λ (o : Ordering). cond (is_eq o) (Some m) (value_at nat_cmp (live_from (n + 1) os) k)) (sym (nat_cmp_is k n Equal (omega arith)))
  value_in n (suc i) k (None ∷ os) e = value_in (n + 1) i k os (omega arith)
  value_in n (suc i) k (Some m ∷ os) e =
      ap (λ (o : Ordering). cond (is_eq o) (Some m) (value_at nat_cmp (live_from (n + 1) os) k)) (sym (nat_cmp_is k n Greater (omega arith)))
      ∙ value_in (n + 1) i k os (omega arith)

  put_before : (n k : ℕ) (m : M) (os : List (Option M)) → k < n → with_pair nat_cmp (live_from n os) k m ≡ (k, m) ∷ live_from n os
  put_before n k m [] h = refl
  put_before n k m (None ∷ os) h = put_before (n + 1) k m os (omega arith)
  put_before n k m (Some x ∷ os) h =
      let rest = live_from (n + 1) os in
      ap (λ (o : Ordering). by_order o ((k, m) ∷ (n, x) ∷ rest) ((n, m) ∷ rest) ((n, x) ∷ with_pair nat_cmp rest k m)) (sym (nat_cmp_is k n Less h))

  -- to write a place is to map its number
  with_place : (n i k : ℕ) (m : M) (os : List (Option M)) → k ≡ n + i → i < length os → live_from n (slice_set os i (Some m)) ≡ with_pair nat_cmp (live_from n os) k m
  with_place n i k m [] e h = absurd (omega arith)
  with_place n zero k m (None ∷ os) e h =
      let same : n ≡ k = omega arith in
      ap (λ (x : ℕ). (x, m) ∷ live_from (n + 1) os) same ∙ sym (put_before (n + 1) k m os (omega arith))
  with_place n zero k m (Some x ∷ os) e h =
      let rest = live_from (n + 1) os in
      ap (λ (o : Ordering). by_order o ((k, m) ∷ (n, x) ∷ rest) ((n, m) ∷ rest) ((n, x) ∷ with_pair nat_cmp rest k m)) (nat_cmp_is k n Equal (omega arith))
  with_place n (suc i) k m (None ∷ os) e h = with_place (n + 1) i k m os (omega arith) (omega arith)
  with_place n (suc i) k m (Some x ∷ os) e h =
      let rest = live_from (n + 1) os in
      ap (λ (r : Map ℕ M). (n, x) ∷ r) (with_place (n + 1) i k m os (omega arith) (omega arith))
      ∙ ap (λ (o : Ordering). by_order o ((k, m) ∷ (n, x) ∷ rest) ((n, m) ∷ rest) ((n, x) ∷ with_pair nat_cmp rest k m)) (nat_cmp_is k n Greater (omega arith))

  -- the map that stands under a number, put there again, leaves all
  put_again : (n i k : ℕ) (m : M) (os : List (Option M)) → k ≡ n + i → get_or os i None ≡ Some m → with_pair nat_cmp (live_from n os) k m ≡ live_from n os
  put_again n i k m [] e is = cc
  put_again n zero k m (None ∷ os) e is = cc
  put_again n zero k m (Some x ∷ os) e is =
      let rest = live_from (n + 1) os in
      let same : x ≡ m = cc in
      ap (λ (o : Ordering). by_order o ((k, m) ∷ (n, x) ∷ rest) ((n, m) ∷ rest) ((n, x) ∷ with_pair nat_cmp rest k m)) (sym (nat_cmp_is k n Equal (omega arith)))
      ∙ ap (λ (y : M). (n, y) ∷ rest) (sym same)
  put_again n (suc i) k m (None ∷ os) e is = put_again (n + 1) i k m os (omega arith) is
  put_again n (suc i) k m (Some x ∷ os) e is =
      let rest = live_from (n + 1) os in
      ap (λ (o : Ordering). by_order o ((k, m) ∷ (n, x) ∷ rest) ((n, m) ∷ rest) ((n, x) ∷ with_pair nat_cmp rest k m)) (sym (nat_cmp_is k n Greater (omega arith)))
      ∙ ap (λ (r : Map ℕ M). (n, x) ∷ r) (put_again (n + 1) i k m os (omega arith) is)

  -- what is left of a list once a number is removed, by how that number stands to the first
  first_kept : ℕ → ℕ → M → Map ℕ M → Ordering → Map ℕ M
  first_kept k n m rest o = cond (not (is_eq o)) ((n, m) ∷ without nat_cmp rest k) (without nat_cmp rest k)

  without_before : (n k : ℕ) (os : List (Option M)) → k < n → without nat_cmp (live_from n os) k ≡ live_from n os
  unfolding first_kept
  without_before n k [] h = refl
  without_before n k (None ∷ os) h = without_before (n + 1) k os (omega arith)
  without_before n k (Some m ∷ os) h =
      ap (first_kept k n m (live_from (n + 1) os)) (sym (nat_cmp_is k n Less h))
      ∙ ap (λ (rest : Map ℕ M). (n, m) ∷ rest) (without_before (n + 1) k os (omega arith))

  -- to empty a place is to remove its number
  without_place : (n i k : ℕ) (os : List (Option M)) → k ≡ n + i → i < length os → live_from n (slice_set os i None) ≡ without nat_cmp (live_from n os) k
  unfolding first_kept
  without_place n i k [] e h = absurd (omega arith)
  without_place n zero k (None ∷ os) e h = sym (without_before (n + 1) k os (omega arith))
  without_place n zero k (Some m ∷ os) e h =
      sym (ap (first_kept k n m (live_from (n + 1) os)) (sym (nat_cmp_is k n Equal (omega arith)))
      ∙ without_before (n + 1) k os (omega arith))
  without_place n (suc i) k (None ∷ os) e h = without_place (n + 1) i k os (omega arith) (omega arith)
  without_place n (suc i) k (Some m ∷ os) e h =
      ap (λ (rest : Map ℕ M). (n, m) ∷ rest) (without_place (n + 1) i k os (omega arith) (omega arith))
      ∙ ap (first_kept k n m (live_from (n + 1) os)) (nat_cmp_is k n Greater (omega arith))

map-slice_set : {A B : Type 0} (f : A → B) (xs : List A) (i : ℕ) (x : A) → map f (slice_set xs i x) ≡ slice_set (map f xs) i (f x)
map-slice_set f [] i x = refl
map-slice_set f (y ∷ xs) zero x = refl
map-slice_set f (y ∷ xs) (suc i) x = ap (λ (r : List _). f y ∷ r) (map-slice_set f xs i x)

module _ {K V M : Type 0} (shown : Contents K V → M) where
  -- what is shown of a version that is written stands under the number of its place
  with_shown : (k : ℕ) (v : Contents K V) (places : List (Option (Contents K V))) → k < length places
      → live_from 0 (map (option_map shown) (slice_set places k (Some v))) ≡ with_pair nat_cmp (live_from 0 (map (option_map shown) places)) k (shown v)
  with_shown k v places h =
      ap (live_from 0) (map-slice_set (option_map shown) places k (Some v))
      ∙ with_place 0 k k (shown v) (map (option_map shown) places) (omega arith) (simp length-map h)

  without_shown : (k : ℕ) (places : List (Option (Contents K V))) → k < length places
      → live_from 0 (map (option_map shown) (slice_set places k None)) ≡ without nat_cmp (live_from 0 (map (option_map shown) places)) k
  without_shown k places h =
      ap (live_from 0) (map-slice_set (option_map shown) places k None)
      ∙ without_place 0 k k (map (option_map shown) places) (omega arith) (simp length-map h)

  -- a version that is written and shows what the one shows that stood there
  pub same_shown : (k : ℕ) (places : List (Option (Contents K V))) (v w : Contents K V) → version_in places k ≡ Some v → shown w ≡ shown v → map (option_map shown) (slice_set places k (Some w)) ≡ map (option_map shown) places
  same_shown k [] v w e same = refl
  same_shown zero (p ∷ ps) v w e same =
      ap (λ (m : Option M). m ∷ map (option_map shown) ps) (ap (λ (x : M). Some x) same ∙ sym (ap (option_map shown) e))
  same_shown (suc k) (p ∷ ps) v w e same = ap (λ (ms : List (Option M)). option_map shown p ∷ ms) (same_shown k ps v w e same)

  -- an empty place more shows nothing
  pub none_more : (n : ℕ) (places : List (Option (Contents K V))) → live_from n (map (option_map shown) (places ++ None ∷ [])) ≡ live_from n (map (option_map shown) places)
  none_more n [] = refl
  none_more n (None ∷ ps) = none_more (n + 1) ps
  none_more n (Some v ∷ ps) = ap (λ (r : Map ℕ M). (n, shown v) ∷ r) (none_more (n + 1) ps)

module _ {K V : Type 0} where
  get_or-maps : (places : List (Option (Contents K V))) (k : ℕ) → get_or (maps_in places) k None ≡ map_in (version_in places k)
  get_or-maps [] k = refl
  get_or-maps (p ∷ ps) zero = refl
  get_or-maps (p ∷ ps) (suc k) = get_or-maps ps k

  -- the map of a number is the map of the version in its place
  pub map_here : (k : ℕ) (places : List (Option (Contents K V))) → value_at nat_cmp (live_from 0 (maps_in places)) k ≡ map_in (version_in places k)
  map_here k places = value_in 0 k k (maps_in places) (omega arith) ∙ get_or-maps places k

  -- past the places no number is live
  pub none_past : (k : ℕ) (places : List (Option (Contents K V))) → length places ≤ k → value_at nat_cmp (live_from 0 (maps_in places)) k ≡ None
  none_past k places past = map_here k places ∙ ap map_in (get_or-eq_default places None past)

  -- where there is a version, its map is what the number maps to
  pub held_here : (k : ℕ) (places : List (Option (Contents K V))) (v : Contents K V) → version_in places k ≡ Some v → unwrap_or (value_at nat_cmp (live_from 0 (maps_in places)) k) [] ≡ v.entries
  held_here k places v e = ap (λ (m : Option (Map K V)). unwrap_or m []) (map_here k places ∙ ap map_in e)

  -- the number is live then
  pub live_here : (k : ℕ) (places : List (Option (Contents K V))) (v : Contents K V) → version_in places k ≡ Some v → value_at nat_cmp (live_from 0 (maps_in places)) k ≡ None → ⊥
  live_here k places v e none = let no : Some v.entries ≡ None = sym (map_here k places ∙ ap map_in e) ∙ none in cc

  -- where there is none, the number is not live
  pub not_live_here : (k : ℕ) (places : List (Option (Contents K V))) → version_in places k ≡ None → IsSome (value_at nat_cmp (live_from 0 (maps_in places)) k) → ⊥
  not_live_here k places e live = let no : is_some (value_at nat_cmp (live_from 0 (maps_in places)) k) ≡ false = ap is_some (map_here k places ∙ ap map_in e) in cc

  -- a live number's own map, put there again, leaves all
  pub put_same : (k : ℕ) (places : List (Option (Contents K V))) → IsSome (value_at nat_cmp (live_from 0 (maps_in places)) k)
      → with_pair nat_cmp (live_from 0 (maps_in places)) k (unwrap_or (value_at nat_cmp (live_from 0 (maps_in places)) k) []) ≡ live_from 0 (maps_in places)
  put_same k places live =
      let all = live_from 0 (maps_in places) in
      elim (value_at nat_cmp all k) as (λ (o : Option (Map K V)). value_at nat_cmp all k ≡ o → IsSome o → with_pair nat_cmp all k (unwrap_or o []) ≡ all) [
        | Some m ↦ λ e there. put_again 0 k k m (maps_in places) (omega arith) (sym (value_in 0 k k (maps_in places) (omega arith)) ∙ e)
        | None ↦ λ e there. cc
      ] refl live

  pub with_version : (k : ℕ) (v : Contents K V) (places : List (Option (Contents K V))) → k < length places → live_from 0 (maps_in (slice_set places k (Some v))) ≡ with_pair nat_cmp (live_from 0 (maps_in places)) k v.entries
  with_version k v places h = with_shown entries_of k v places h

  pub with_stamp : (k : ℕ) (v : Contents K V) (places : List (Option (Contents K V))) → k < length places → live_from 0 (stamps_in (slice_set places k (Some v))) ≡ with_pair nat_cmp (live_from 0 (stamps_in places)) k v.stamp
  with_stamp k v places h = with_shown stamp_of k v places h

  pub without_version : (k : ℕ) (places : List (Option (Contents K V))) → k < length places → live_from 0 (maps_in (slice_set places k None)) ≡ without nat_cmp (live_from 0 (maps_in places)) k
  without_version k places h = without_shown entries_of k places h

  pub without_stamp : (k : ℕ) (places : List (Option (Contents K V))) → k < length places → live_from 0 (stamps_in (slice_set places k None)) ≡ without nat_cmp (live_from 0 (stamps_in places)) k
  without_stamp k places h = without_shown stamp_of k places h

  -- a version that is written with the map that stood there
  pub same_maps : (k : ℕ) (places : List (Option (Contents K V))) (v w : Contents K V) → version_in places k ≡ Some v → w.entries ≡ v.entries → maps_in (slice_set places k (Some w)) ≡ maps_in places
  same_maps k places v w e same = same_shown entries_of k places v w e same

  -- a version that is written with the stamp of the one that stood there
  pub same_stamps : (k : ℕ) (places : List (Option (Contents K V))) (v w : Contents K V) → version_in places k ≡ Some v → w.stamp ≡ v.stamp → stamps_in (slice_set places k (Some w)) ≡ stamps_in places
  same_stamps k places v w e same = same_shown stamp_of k places v w e same
