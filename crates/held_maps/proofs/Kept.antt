-- The versions in the places keep their limit, and stamps that no other has.
use Rattle.std.proofs.Common.{◌≡◌, ℕ, ◌<◌, ◌≤◌, List, [], ◌∷◌, ◌++◌, length, Option, Some, None, refl, ap, sym, subst, ◌∙◌, suc, zero, arith, get_or, inl, inr}
use Rattle.std.specs.Prelude.{slice_set, ◌⊎◌}
use Rattle.std.proofs.lemmas.List.{get_or_default}
use Rattle.versions.specs.Contents.{Contents}
use Rattle.held_maps.specs.HeldMaps.{IsKept, IsWithin, version_in}

module _ {K V : Type 0} where
  -- what was read is what stands in the place
  pub read_here : (k : ℕ) (places : List (Option (Contents K V))) (o : Option (Contents K V)) → k < length places → o ≡ get_or places k o → version_in places k ≡ o
  read_here k places o h is = get_or_default places k None o h ∙ sym is

  pub length-slice_set : (places : List (Option (Contents K V))) (i : ℕ) (p : Option (Contents K V)) → length (slice_set places i p) ≡ length places
  length-slice_set [] i p = refl
  length-slice_set (q ∷ ps) zero p = refl
  length-slice_set (q ∷ ps) (suc i) p = ap suc (length-slice_set ps i p)

  -- a version that stands in a place after a write was written there, or stood there before
  came : (i : ℕ) (p : Option (Contents K V)) (places : List (Option (Contents K V))) (h : ℕ) (v : Contents K V)
      → version_in (slice_set places i p) h ≡ Some v → ((h ≡ i) × (p ≡ Some v)) ⊎ (version_in places h ≡ Some v)
  came i p [] h v e = inr e
  came zero p (q ∷ ps) zero v e = inl (refl, e)
  came zero p (q ∷ ps) (suc h) v e = inr e
  came (suc i) p (q ∷ ps) zero v e = inr e
  came (suc i) p (q ∷ ps) (suc h) v e = elim (came i p ps h v e) as (λ _. ((suc h ≡ suc i) × (p ≡ Some v)) ⊎ (version_in ps h ≡ Some v)) [ inl r ↦ inl (ap suc r.0, r.1) | inr r ↦ inr r ]

  later : (l n m : ℕ) (v : Contents K V) → n ≤ m → IsWithin l n v → IsWithin l m v
  later l n m v le h = record { same_limit = h.same_limit; some_stamp = h.some_stamp; old_stamp = omega (arith, h.old_stamp) }

  -- a version is written with a stamp that no other place has
  set_kept : (l n m i : ℕ) (v : Contents K V) (places : List (Option (Contents K V)))
      → IsKept l n places → n ≤ m → IsWithin l m v
      → ((h : ℕ) (w : Contents K V) → version_in places h ≡ Some w → v.stamp ≡ w.stamp → h ≡ i)
      → IsKept l m (slice_set places i (Some v))
  set_kept l n m i v places kept le new alone = record {
    count = length-slice_set places i (Some v) ∙ kept.count;
    each = λ h w e. elim (came i (Some v) places h w e) as (λ _. IsWithin l m w) [
      | inl r ↦ let same : v ≡ w = cc in subst (IsWithin l m) same new
      | inr r ↦ later l n m w le (kept.each h w r)
    ];
    apart = λ h k w x e f same. elim (came i (Some v) places h w e) as (λ _. h ≡ k) [
      | inl r ↦ elim (came i (Some v) places k x f) as (λ _. h ≡ k) [
        | inl q ↦ r.0 ∙ sym q.0
        | inr q ↦ let is : v ≡ w = cc in r.0 ∙ sym (alone k x q (ap (λ (c : Contents K V). c.stamp) is ∙ same))
      ]
      | inr r ↦ elim (came i (Some v) places k x f) as (λ _. h ≡ k) [
        | inl q ↦ let is : v ≡ x = cc in alone h w r (ap (λ (c : Contents K V). c.stamp) is ∙ sym same) ∙ sym q.0
        | inr q ↦ kept.apart h k w x r q same
      ]
    ];
  }

  -- a version is written with a stamp that was not issued before
  pub set_fresh : (l n m i : ℕ) (v : Contents K V) (places : List (Option (Contents K V)))
      → IsKept l n places → v.limit ≡ l → n < v.stamp → v.stamp ≤ m → IsKept l m (slice_set places i (Some v))
  set_fresh l n m i v places kept same fresh issued =
      set_kept l n m i v places kept (omega arith) (record { same_limit = same; some_stamp = omega arith; old_stamp = issued })
      (λ h w e stamps. absurd (omega (arith, stamps, fresh, (kept.each h w e).old_stamp)))

  -- a version is written with the limit and the stamp of the one that stood there
  pub set_again : (l n i : ℕ) (v w : Contents K V) (places : List (Option (Contents K V)))
      → IsKept l n places → version_in places i ≡ Some v → w.limit ≡ v.limit → w.stamp ≡ v.stamp → IsKept l n (slice_set places i (Some w))
  set_again l n i v w places kept here limit stamp =
      let had = kept.each i v here in
      set_kept l n n i w places kept (omega arith) (record { same_limit = limit ∙ had.same_limit; some_stamp = omega (arith, stamp, had.some_stamp); old_stamp = omega (arith, stamp, had.old_stamp) })
      (λ h x e same. kept.apart h i x v e here (sym same ∙ stamp))

  -- a place is emptied
  pub unset_kept : (l n i : ℕ) (places : List (Option (Contents K V))) → IsKept l n places → IsKept l n (slice_set places i None)
  unset_kept l n i places kept =
      let had : (h : ℕ) (w : Contents K V) → version_in (slice_set places i None) h ≡ Some w → version_in places h ≡ Some w =
      λ h w e. elim (came i None places h w e) as (λ _. version_in places h ≡ Some w) [ inl r ↦ absurd (cc) | inr r ↦ r ] in
      record {
        count = length-slice_set places i None ∙ kept.count;
        each = λ h w e. kept.each h w (had h w e);
        apart = λ h k w x e f same. kept.apart h k w x (had h w e) (had k x f) same;
      }

  -- an empty place more has no version
  pub none_added : (places : List (Option (Contents K V))) → ((h : ℕ) → version_in places h ≡ None) → (h : ℕ) → version_in (places ++ None ∷ []) h ≡ None
  none_added [] none zero = refl
  none_added [] none (suc h) = refl
  none_added (p ∷ ps) none zero = none zero
  none_added (p ∷ ps) none (suc h) = none_added ps (λ k. none (suc k)) h
