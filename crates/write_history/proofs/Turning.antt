-- What a part and an author have, once a turn is taken.
use Rattle.std.proofs.Common.{◌≡◌, ℕ, ◌+◌, ◌<◌, ◌⊎◌, inl, inr, Bool, true, cond, List, [], ◌∷◌, ◌++◌, length, take, drop, Option, Some, None, unwrap_or, IfSome, refl, ap, sym, ◌∙◌, subst, arith, eq-eqb, append-nil}
use Rattle.std.proofs.lemmas.Option.{none-some}
use Rattle.std.specs.declared.cmp.Ordering.{Ordering}
use Rattle.std.specs.declared.cmp.Ordering.TheVariants.{Equal}
use mathlib.Core.List.{IsPrefix, cons≢nil}
use Rattle.hash_path.specs.Digits.{fan_out}
use Rattle.logbook.specs.Pages.{Book, Cell}
use Rattle.ghost_log.specs.Cells.{Agree, AllDiffer, Count, counted, has_key}
use Rattle.ghost_log.specs.Turns.{Added, MayTurn, Turned}
use Rattle.write_history.specs.declared.entry.Entry.{Entry}
use Rattle.write_history.specs.Histories.{IsOf, IsSame, count_of, first_digit, value_in}
use Rattle.write_history.specs.Rules.{HasHistory, IsKept, first_key}
use Rattle.write_history.specs.Signers.{IsAuthor, Made, signed_once, signer_of}
use Rattle.write_history.proofs.Counting.{CellsLaw, CountLaw, Fill, Signed, allows, count_append, counted_at, covers_one, fill_none, fill_one}
use Rattle.write_history.proofs.Prefixes.{prefix_self, prefix_trans}
use Rattle.write_history.proofs.Values.{same_between}

some_is : {A : Type 0} (x y : A) → Some x ≡ Some y → x ≡ y
some_is x y e = ap (λ (o : Option _). unwrap_or o x) e

-- the books that have the name
pub named_is : (name : Option Book) (a r b : Book) → IfSome name (λ n. (a ≡ n) × (r ≡ n)) → name ≡ Some b → (a ≡ b) × (r ≡ b)
named_is name a r b named is = subst (λ (o : Option Book). IfSome o (λ n. (a ≡ n) × (r ≡ n))) is named

pub same_name : (name : Option Book) (a b : Book) → name ≡ Some a → name ≡ Some b → a ≡ b
same_name name a b one two = some_is a b (sym one ∙ two)

pub signed_of : {K V : Type 0} (path : K → ℕ) (e : Entry K V) (name : Option Book) (ab : Book) (rights : List Count) → IsAuthor name ab rights → e.by ≡ (signer_of rights).by → Signed path e rights
signed_of path e name ab rights (inl none) by = subst (Signed path e) (sym none) (by ∙ ap (λ (rs : List Count). (signer_of rs).by) none)
signed_of path e name ab rights (inr r) by = subst (Signed path e) (sym r.2) (by ∙ ap (λ (rs : List Count). (signer_of rs).by) r.2, r.3, refl)

differs : {K V : Type 0} (path : K → ℕ) (e : Entry K V) (d n : ℕ) (rights : List Count) → d < fan_out → Signed path e rights → AllDiffer ((d, n) ∷ rights)
differs path e d n [] low signed = (tt, tt)
differs path e d n (c ∷ []) low signed = (((λ same. (let great = signed.1 in omega (arith, same, great, low))), tt), (tt, tt))
differs path e d n (c ∷ (x ∷ rest)) low signed = absurd (cons≢nil signed.2)

-- an author has signed one more
pub author_after : (name : Option Book) (ab : Book) (rights : List Count) → IsAuthor name ab rights → IsAuthor name ab (counted 1 rights) × (signer_of (counted 1 rights) ≡ signed_once (signer_of rights))
author_after name ab rights (inl none) = subst (λ (rs : List Count). IsAuthor name ab (counted 1 rs) × (signer_of (counted 1 rs) ≡ signed_once (signer_of rs))) (sym none) (inl refl, refl)
author_after name ab rights (inr r) = subst (λ (rs : List Count). IsAuthor name ab (counted 1 rs) × (signer_of (counted 1 rs) ≡ signed_once (signer_of rs))) (sym r.2) (inr (r.0, r.1 + 1, refl, r.3, r.4), refl)

module _ {K V : Type 0} (path : K → ℕ) where
  abbrev Holds : List Cell → List (Entry K V) → Type 0
  Holds = λ cells log. IsKept path cells log

  abbrev shows : List (Entry K V) → List (Entry K V)
  shows = λ log. []

  pub made_by : (cs : List Cell) (log : List (Entry K V)) → IsKept path cs log → (rights : List Count) → Agree cs rights → Made path (signer_of rights) log
  made_by cs log kept [] agree = tt
  made_by cs log kept (c ∷ rest) agree = sym (counted_at path cs log c.0 c.1 kept agree.0)

  -- what was seen begins the log once the turn is taken
  pub seen_begins : (rights : List Count) (seen more new : List (Entry K V)) → Turned Holds rights seen more new → IsPrefix seen new
  seen_begins [] seen more new t = subst (IsPrefix seen) (sym t) (prefix_self seen)
  seen_begins (c ∷ rest) seen more new t = prefix_trans seen t.0 new t.3 (more, sym t.5)

  module _ (d : ℕ) (low : d < fan_out) (log₀ : List (Entry K V)) (others : List Count) (seen more new : List (Entry K V)) (t : Added Holds ((d, count_of path d log₀) ∷ others) seen more new) where
    equal : count_of path d log₀ ≡ count_of path d t.0
    equal = counted_at path t.1 t.0 d (count_of path d log₀) t.2 t.4.0

    number_after : count_of path d more ≡ length more → count_of path d log₀ + length more ≡ count_of path d new
    number_after all = omega (arith, equal, all, count_append path d t.0 more, ap (count_of path d) t.5)

    module _ (R : K → K → Ordering) (exact : (a b : K) → R a b ≡ Equal → a ≡ b) (pre : IsPrefix log₀ seen) where
      same_then : (q : K) → first_digit path q ≡ d → value_in R path t.0 q ≡ value_in R path log₀ q
      same_then = same_between R path exact d low log₀ t.0 t.0 (prefix_trans log₀ seen t.0 pre t.3) (prefix_self t.0) equal

      same_before : (q : K) → first_digit path q ≡ d → value_in R path seen q ≡ value_in R path log₀ q
      same_before = same_between R path exact d low log₀ seen t.0 pre t.3 equal

  module _ (cells_law : CellsLaw) (count_law : CountLaw) (name : Option Book) (pb : Book) (ps : List Count) (log₀ : List (Entry K V)) where
    abbrev HasRight : Type 0
    HasRight = (ps ≡ []) ⊎ ((d : ℕ) × (ps ≡ (d, count_of path d log₀) ∷ []) × (d < fan_out) × (name ≡ Some pb))

    -- the digit of the part is that of the right
    digit_is : (d e : ℕ) (rest : List Count) (n : ℕ) → ps ≡ (d, n) ∷ rest → first_key ps ≡ Some e → d ≡ e
    digit_is d e rest n is first = some_is d e (sym (ap first_key is) ∙ first)

    -- the part may look
    pub may_look : (seen : List (Entry K V)) (tb : Book) → ((b : Book) → name ≡ Some b → tb ≡ b) → HasRight → MayTurn Holds shows pb tb ps seen []
    may_look seen tb of (inl none) = subst (λ (rs : List Count). MayTurn Holds shows pb tb rs seen []) (sym none) tt
    may_look seen tb of (inr r) =
        let rights : List Count = (r.0, count_of path r.0 log₀) ∷ [] in
        subst (λ (rs : List Count). MayTurn Holds shows pb tb rs seen []) (sym r.1) (sym (of pb r.3), allows path cells_law count_law rights [] (fill_none V path rights) (tt, tt) seen)

    module _ (seen new : List (Entry K V)) (t : Turned Holds ps seen [] new) where
      -- its right is as before then
      pub right_looked : HasRight → (counted 0 ps ≡ ps) × ((counted 0 ps ≡ []) ⊎ ((d : ℕ) × (counted 0 ps ≡ (d, count_of path d new) ∷ []) × (d < fan_out) × (name ≡ Some pb)))
      right_looked (inl none) = (ap (counted 0) none ∙ sym none, inl (ap (counted 0) none))
      right_looked (inr r) =
          let n : ℕ = count_of path r.0 log₀ in let same : n + 0 ≡ n = omega arith in
          let u : Added Holds ((r.0, n) ∷ []) seen [] new = subst (λ (rs : List Count). Turned Holds rs seen [] new) r.1 t in
          let is : counted 0 ps ≡ (r.0, n) ∷ [] = ap (counted 0) r.1 ∙ ap (λ (k : ℕ). (r.0, k) ∷ []) same in
          (is ∙ sym r.1, inr (r.0, is ∙ ap (λ (k : ℕ). (r.0, k) ∷ []) (sym same ∙ number_after r.0 r.2 log₀ [] seen [] new u refl), r.2, r.3))

      module _ (R : K → K → Ordering) (exact : (a b : K) → R a b ≡ Equal → a ≡ b) (pre : IsPrefix log₀ seen) where
        -- the keys of the digit have the values that they had
        pub same_looked : HasRight → IsSame R path (first_key ps) log₀ new
        same_looked (inl none) q mine = absurd (none-some (first_digit path q) (sym (ap first_key none) ∙ mine))
        same_looked (inr r) q mine =
            let u : Added Holds ((r.0, count_of path r.0 log₀) ∷ []) seen [] new = subst (λ (rs : List Count). Turned Holds rs seen [] new) r.1 t in
            ap (λ (l : List (Entry K V)). value_in R path l q) (u.5 ∙ append-nil u.0) ∙ same_then r.0 r.2 log₀ [] seen [] new u R exact pre q (sym (digit_is r.0 (first_digit path q) [] (count_of path r.0 log₀) r.1 mine))

        -- and so they had them in what was seen
        pub same_stands : HasRight → IsSame R path (first_key ps) log₀ seen
        same_stands (inl none) q mine = absurd (none-some (first_digit path q) (sym (ap first_key none) ∙ mine))
        same_stands (inr r) q mine =
            let u : Added Holds ((r.0, count_of path r.0 log₀) ∷ []) seen [] new = subst (λ (rs : List Count). Turned Holds rs seen [] new) r.1 t in
            same_before r.0 r.2 log₀ [] seen [] new u R exact pre q (sym (digit_is r.0 (first_digit path q) [] (count_of path r.0 log₀) r.1 mine))

    module _ (ab : Book) (hers : List Count) (author : IsAuthor name ab hers) (e : Entry K V) (by : e.by ≡ (signer_of hers).by) (digit : HasHistory name → (d : ℕ) × (first_key ps ≡ Some d) × IsOf path d e.write) where
      signed : Signed path e hers
      signed = signed_of path e name ab hers author by

      -- a part with no right is of a map with no history, which has no author
      none_signs : ps ≡ [] → IsAuthor name ab hers → hers ≡ []
      none_signs none (inl no_author) = no_author
      none_signs none (inr r) = let d = digit (ab, r.4) in absurd (none-some d.0 (sym (ap first_key none) ∙ d.1))

      none_at_all : ps ≡ [] → ps ++ hers ≡ []
      none_at_all none = ap (λ (rs : List Count). rs ++ hers) none ∙ none_signs none author

      lends : name ≡ Some pb → IsAuthor name ab hers → ((hers ≡ []) × (◌≡◌ {A = List Count} [] [])) ⊎ (ab ≡ pb)
      lends named (inl none) = inl (none, refl)
      lends named (inr r) = inr (same_name name ab pb r.4 named)

      -- the author may lend its right
      pub may_lend : HasRight → ((hers ≡ []) × (◌≡◌ {A = List Count} [] [])) ⊎ (ab ≡ pb)
      may_lend (inl none) = inl (none_signs none author, refl)
      may_lend (inr r) = lends r.3 author

      is_of_right : (d : ℕ) → ps ≡ (d, count_of path d log₀) ∷ [] → name ≡ Some pb → IsOf path d e.write
      is_of_right d is named =
          let mine = digit (pb, named) in subst (λ (k : ℕ). IsOf path k e.write) (sym (digit_is d mine.0 [] (count_of path d log₀) is mine.1)) mine.2

      fills : (d : ℕ) → ps ≡ (d, count_of path d log₀) ∷ [] → d < fan_out → name ≡ Some pb → Fill path ((d, count_of path d log₀) ∷ hers) (e ∷ [])
      fills d is low named = fill_one path ((d, count_of path d log₀) ∷ hers) e (covers_one path d (count_of path d log₀) e hers low (is_of_right d is named) signed)

      both_is : (d : ℕ) → ps ≡ (d, count_of path d log₀) ∷ [] → ps ++ hers ≡ (d, count_of path d log₀) ∷ hers
      both_is d is = ap (λ (rs : List Count). rs ++ hers) is

      -- the part may write
      pub may_write : (seen : List (Entry K V)) (tb : Book) → ((b : Book) → name ≡ Some b → tb ≡ b) → HasRight → MayTurn Holds shows pb tb (ps ++ hers) seen (e ∷ [])
      may_write seen tb of (inl none) = subst (λ (rs : List Count). MayTurn Holds shows pb tb rs seen (e ∷ [])) (sym (none_at_all none)) tt
      may_write seen tb of (inr r) =
          let rights : List Count = (r.0, count_of path r.0 log₀) ∷ hers in
          subst (λ (rs : List Count). MayTurn Holds shows pb tb rs seen (e ∷ [])) (sym (both_is r.0 r.1))
          (sym (of pb r.3), allows path cells_law count_law rights (e ∷ []) (fills r.0 r.1 r.2 r.3) (differs path e r.0 (count_of path r.0 log₀) hers r.2 signed) seen)

      -- what the author takes back
      pub back : HasRight → drop 1 (counted 1 (ps ++ hers)) ≡ counted 1 hers
      back (inl none) = ap (λ (rs : List Count). drop 1 (counted 1 rs)) (none_at_all none) ∙ sym (ap (counted 1) (none_signs none author))
      back (inr r) = ap (λ (rs : List Count). drop 1 (counted 1 rs)) (both_is r.0 r.1)

      backs : HasRight → ((hers ≡ []) × (◌≡◌ {A = List Count} [] [])) ⊎ (ab ≡ pb) → ((◌≡◌ {A = List Count} [] []) × (drop 1 (counted 1 (ps ++ hers)) ≡ [])) ⊎ (ab ≡ pb)
      backs own (inl none) = inl (refl, back own ∙ ap (counted 1) none.0)
      backs own (inr same) = inr same

      -- it may take that back
      pub may_back : HasRight → ((◌≡◌ {A = List Count} [] []) × (drop 1 (counted 1 (ps ++ hers)) ≡ [])) ⊎ (ab ≡ pb)
      may_back own = backs own (may_lend own)

      module _ (seen new : List (Entry K V)) (t : Turned Holds (ps ++ hers) seen (e ∷ []) new) where
        own_count : (d : ℕ) → ps ≡ (d, count_of path d log₀) ∷ [] → d < fan_out → name ≡ Some pb → count_of path d (e ∷ []) ≡ 1
        own_count d is low named = fills d is low named d ∙ ap (λ (b : Bool). cond (cond b true (has_key d hers)) 1 0) (eq-eqb d d refl)

        added : (d : ℕ) → ps ≡ (d, count_of path d log₀) ∷ [] → Added Holds ((d, count_of path d log₀) ∷ hers) seen (e ∷ []) new
        added d is = subst (λ (rs : List Count). Turned Holds rs seen (e ∷ []) new) (both_is d is) t

        -- the part's right counts the write
        pub right_wrote : HasRight → (first_key (take 1 (counted 1 (ps ++ hers))) ≡ first_key ps) × ((take 1 (counted 1 (ps ++ hers)) ≡ []) ⊎ ((d : ℕ) × (take 1 (counted 1 (ps ++ hers)) ≡ (d, count_of path d new) ∷ []) × (d < fan_out) × (name ≡ Some pb)))
        right_wrote (inl none) = (ap (λ (rs : List Count). first_key (take 1 (counted 1 rs))) (none_at_all none) ∙ sym (ap first_key none), inl (ap (λ (rs : List Count). take 1 (counted 1 rs)) (none_at_all none)))
        right_wrote (inr r) =
            let n : ℕ = count_of path r.0 log₀ in
            let is : take 1 (counted 1 (ps ++ hers)) ≡ (r.0, n + 1) ∷ [] = ap (λ (rs : List Count). take 1 (counted 1 rs)) (both_is r.0 r.1) in
            let number : n + 1 ≡ count_of path r.0 new = number_after r.0 r.2 log₀ hers seen (e ∷ []) new (added r.0 r.1) (own_count r.0 r.1 r.2 r.3) in
            (ap first_key is ∙ sym (ap first_key r.1), inr (r.0, is ∙ ap (λ (k : ℕ). (r.0, k) ∷ []) number, r.2, r.3))

        -- what a write tells
        pub wrote : (R : K → K → Ordering) (exact : (a b : K) → R a b ≡ Equal → a ≡ b) → IsPrefix log₀ seen → HasRight → HasHistory name
            → (h : List (Entry K V)) × IsPrefix log₀ h × IsSame R path (first_key ps) log₀ h × Made path (signer_of hers) h × (new ≡ h ++ e ∷ [])
        wrote R exact pre (inl none) named = let d = digit named in absurd (none-some d.0 (sym (ap first_key none) ∙ d.1))
        wrote R exact pre (inr r) named =
            let u = added r.0 r.1 in (
              u.0,
              prefix_trans log₀ seen u.0 pre u.3,
              (λ q mine. same_then r.0 r.2 log₀ hers seen (e ∷ []) new u R exact pre q (sym (digit_is r.0 (first_digit path q) [] (count_of path r.0 log₀) r.1 mine))),
              made_by u.1 u.0 u.2 hers u.4.1,
              u.5,
            )

-- where there is no name, there is no right
pub none_has : {K V : Type 0} (path : K → ℕ) (name : Option Book) (pb : Book) (ps : List Count) (log : List (Entry K V)) → name ≡ None → (ps ≡ []) ⊎ ((d : ℕ) × (ps ≡ (d, count_of path d log) ∷ []) × (d < fan_out) × (name ≡ Some pb)) → first_key ps ≡ None
none_has path name pb ps log none (inl no_right) = ap first_key no_right
none_has path name pb ps log none (inr r) = absurd (none-some pb (sym none ∙ r.3))
