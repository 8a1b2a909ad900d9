-- The rights of all digits, and the entry that all of them count.
use Rattle.std.proofs.Common.{◌≡◌, ℕ, zero, suc, ◌+◌, ◌<◌, ◌≤◌, ◌⊎◌, inl, inr, Bool, true, false, true≢false, cond, eqb, eq-eqb, nat_lt, List, [], ◌∷◌, ◌++◌, length, take, drop, Option, Some, refl, ap, sym, ◌∙◌, subst, arith, ⊎_elim, eq-or-lt_of_le}
use mathlib.Core.List.{IsPrefix, cons≢nil}
use Rattle.hash_path.specs.Digits.{fan_out}
use Rattle.logbook.specs.Pages.{Book, Cell}
use Rattle.ghost_log.specs.Cells.{Agree, AllDiffer, Count, HasOther, counted, has_key}
use Rattle.ghost_log.specs.Turns.{Added, MayTurn, Turned}
use Rattle.write_history.specs.declared.entry.Entry.{Entry}
use Rattle.write_history.specs.declared.entry.Write.TheVariants.{Clear}
use Rattle.write_history.specs.Histories.{count_of, is_counted, is_of}
use Rattle.write_history.specs.Rules.{AllCounted, AreLent, HasHistory, IsKept, keys_of, up_to}
use Rattle.write_history.specs.Signers.{IsAuthor, Made, signer_of}
use Rattle.write_history.proofs.Counting.{CellsLaw, CountLaw, Fill, Signed, allows, count_append, counted_at, fill_one, great_counted, not_equal, signed_counted, small_counted, was_great, was_small}
use Rattle.write_history.proofs.Turning.{made_by, named_is, same_name, signed_of}

-- n numbers from the first on
abbrev row : ℕ → ℕ → List ℕ
row zero first = []
row (suc n) first = first ∷ row n (suc first)

abbrev first_of : ℕ → List ℕ → ℕ
first_of d [] = d
first_of d (k ∷ ks) = k

abbrev rest_of : List ℕ → List ℕ
rest_of [] = []
rest_of (k ∷ ks) = ks

-- no cell of these is one of the first n
abbrev Above : ℕ → List Count → Type 0
Above n [] = Unit {0}
Above n (c ∷ rest) = (n ≤ c.0) × Above n rest

or_else : (b c : Bool) → b ≡ false → cond b true c ≡ c
or_else b c is = ap (λ (x : Bool). cond x true c) is

here_or : (b c : Bool) → b ≡ true → cond b true c ≡ true
here_or b c is = ap (λ (x : Bool). cond x true c) is

above : (k first : ℕ) → first ≤ k → (k ≡ first → ⊥) → suc first ≤ k
above k first from other = ⊎_elim (λ same. absurd (other (sym same))) (λ less. less) (eq-or-lt_of_le from)

in_row_at : (k first : ℕ) (n : ℕ) (c : Count) (has : Bool) → c.0 ≡ first → first ≤ k → k < first + suc n → (suc first ≤ k → k < suc first + n → has ≡ true) → (b : Bool) → eqb c.0 k ≡ b → cond b true has ≡ true
in_row_at k first n c has is from to later true same = refl
in_row_at k first n c has is from to later false differ =
    let other : k ≡ first → ⊥ = λ same. true≢false (sym (eq-eqb c.0 k (is ∙ sym same)) ∙ differ) in
    later (above k first from other) (omega (arith, to))

-- each number of the row is the key of one of its cells
in_row : (n first : ℕ) (cells : List Count) → keys_of cells ≡ row n first → (k : ℕ) → first ≤ k → k < first + n → has_key k cells ≡ true
in_row zero first cells is k from to = absurd (omega (arith, from, to))
in_row (suc n) first [] is k from to = absurd (cons≢nil (sym is))
in_row (suc n) first (c ∷ rest) is k from to =
    in_row_at k first n c (has_key k rest) (ap (first_of first) is) from to (in_row n (suc first) rest (ap rest_of is) k) (eqb c.0 k) refl

-- and no other is
not_in_row : (n first : ℕ) (cells : List Count) → keys_of cells ≡ row n first → (k : ℕ) → first + n ≤ k → has_key k cells ≡ false
not_in_row zero first [] is k from = refl
not_in_row zero first (c ∷ rest) is k from = absurd (cons≢nil is)
not_in_row (suc n) first [] is k from = absurd (cons≢nil (sym is))
not_in_row (suc n) first (c ∷ rest) is k from =
    let key : c.0 ≡ first = ap (first_of first) is in
    or_else (eqb c.0 k) (has_key k rest) (not_equal c.0 k (λ same. (omega (arith, key, same, from))) (eqb c.0 k) refl) ∙ not_in_row n (suc first) rest (ap rest_of is) k (omega (arith, from))

other_above : (n k : ℕ) (cells : List Count) → k < n → Above n cells → HasOther k cells
other_above n k [] less above = tt
other_above n k (c ∷ rest) less above = ((λ same. (let from = above.0 in omega (arith, same, less, from))), other_above n k rest less above.1)

other_row : (n first k : ℕ) (cells hers : List Count) → keys_of cells ≡ row n first → k < first → Above (first + n) hers → HasOther k (cells ++ hers)
other_row zero first k [] hers is less above = other_above (first + zero) k hers (omega (arith, less)) above
other_row zero first k (c ∷ rest) hers is less above = absurd (cons≢nil is)
other_row (suc n) first k [] hers is less above = absurd (cons≢nil (sym is))
other_row (suc n) first k (c ∷ rest) hers is less above =
    let key : c.0 ≡ first = ap (first_of first) is in
    ((λ same. (omega (arith, key, same, less))), other_row n (suc first) k rest hers (ap rest_of is) (omega (arith, less)) (subst (λ (m : ℕ). Above m hers) (let e : first + suc n ≡ suc first + n = omega arith in e) above))

-- the cells of a row differ, and from others too
differ_row : (n first : ℕ) (cells hers : List Count) → keys_of cells ≡ row n first → Above (first + n) hers → AllDiffer hers → AllDiffer (cells ++ hers)
differ_row zero first [] hers is above differ = differ
differ_row zero first (c ∷ rest) hers is above differ = absurd (cons≢nil is)
differ_row (suc n) first [] hers is above differ = absurd (cons≢nil (sym is))
differ_row (suc n) first (c ∷ rest) hers is above differ =
    let key : c.0 ≡ first = ap (first_of first) is in let more : Above (suc first + n) hers = subst (λ (m : ℕ). Above m hers) (let e : first + suc n ≡ suc first + n = omega arith in e) above in
    (subst (λ (k : ℕ). HasOther k (rest ++ hers)) (sym key) (other_row n (suc first) first rest hers (ap rest_of is) (omega arith) more), differ_row n (suc first) rest hers (ap rest_of is) more differ)

either_way : (b x y z : Bool) → z ≡ cond x true y → cond b true z ≡ cond (cond b true x) true y
either_way true x y z is = refl
either_way false x y z is = is

has_both : (k : ℕ) (xs ys : List Count) → has_key k (xs ++ ys) ≡ cond (has_key k xs) true (has_key k ys)
has_both k [] ys = refl
has_both k (c ∷ xs) ys = either_way (eqb c.0 k) (has_key k xs) (has_key k ys) (has_key k (xs ++ ys)) (has_both k xs ys)

-- the first cells, and the others
front_of : (xs ys : List Count) (n : ℕ) → length xs ≡ n → take n (counted 1 (xs ++ ys)) ≡ counted 1 xs
front_of [] ys zero is = refl
front_of [] ys (suc n) is = absurd (omega (arith, is))
front_of (x ∷ xs) ys zero is = absurd (omega (arith, is))
front_of (x ∷ xs) ys (suc n) is = ap (λ (cs : List Count). (x.0, x.1 + 1) ∷ cs) (front_of xs ys n (omega (arith, is)))

back_of : (xs ys : List Count) (n : ℕ) → length xs ≡ n → drop n (counted 1 (xs ++ ys)) ≡ counted 1 ys
back_of [] ys zero is = refl
back_of [] ys (suc n) is = absurd (omega (arith, is))
back_of (x ∷ xs) ys zero is = absurd (omega (arith, is))
back_of (x ∷ xs) ys (suc n) is = back_of xs ys n (omega (arith, is))

pub take_and_drop : (n : ℕ) (xs : List Count) → take n xs ++ drop n xs ≡ xs
take_and_drop zero xs = refl
take_and_drop (suc n) [] = refl
take_and_drop (suc n) (x ∷ xs) = ap (λ (cs : List Count). x ∷ cs) (take_and_drop n xs)

long_row : (n first : ℕ) (cells : List Count) → keys_of cells ≡ row n first → length cells ≡ n
long_row zero first [] is = refl
long_row zero first (c ∷ rest) is = absurd (cons≢nil is)
long_row (suc n) first [] is = absurd (cons≢nil (sym is))
long_row (suc n) first (c ∷ rest) is = ap suc (long_row n (suc first) rest (ap rest_of is))

keys_counted : (cells : List Count) → keys_of (counted 1 cells) ≡ keys_of cells
keys_counted [] = refl
keys_counted (c ∷ rest) = ap (λ (ks : List ℕ). c.0 ∷ ks) (keys_counted rest)

rows_are : up_to fan_out ≡ row fan_out 0
rows_are = refl

module _ {K V : Type 0} (path : K → ℕ) (e : Entry K V) (all : e.write ≡ Clear) where
  all_of : (k : ℕ) → is_of path k e.write ≡ true
  all_of k = ap (is_of path k) all

  signed_above : (rights : List Count) → Signed path e rights → Above fan_out rights × AllDiffer rights
  signed_above [] signed = (tt, tt)
  signed_above (c ∷ []) signed = ((signed.1, tt), (tt, tt))
  signed_above (c ∷ (x ∷ rest)) signed = absurd (cons≢nil signed.2)

  module _ (cells hers : List Count) (is : keys_of cells ≡ row fan_out 0) (signed : Signed path e hers) where
    counted_side : (k : ℕ) (b : Bool) → nat_lt k fan_out ≡ b → is_counted path k e ≡ has_key k (cells ++ hers)
    counted_side k true small =
        small_counted path k e (was_small k small) ∙ all_of k ∙ sym (has_both k cells hers ∙ here_or (has_key k cells) (has_key k hers) (in_row fan_out 0 cells is k (omega arith) (was_small k small)))
    counted_side k false great =
        great_counted path k e (was_great k great) ∙ signed_counted path k e hers signed ∙ sym (has_both k cells hers ∙ or_else (has_key k cells) (has_key k hers) (not_in_row fan_out 0 cells is k (was_great k great)))

    fills_all : Fill path (cells ++ hers) (e ∷ [])
    fills_all = fill_one path (cells ++ hers) e (λ k. counted_side k (nat_lt k fan_out) refl)

    differ_all : AllDiffer (cells ++ hers)
    differ_all = let above = signed_above hers signed in differ_row fan_out 0 cells hers is above.0 above.1

    one_more : (k : ℕ) → k < fan_out → count_of path k (e ∷ []) ≡ 1
    one_more k low = ap (λ (b : Bool). cond b 1 0 + 0) (small_counted path k e low ∙ all_of k)

    -- each right of a digit counts the entry
    numbers_after : (cs : List Cell) (log new : List (Entry K V)) → IsKept path cs log → new ≡ log ++ e ∷ [] → (n first : ℕ) → first + n ≤ fan_out → (some : List Count) → keys_of some ≡ row n first → (others : List Count) → Agree cs (some ++ others) → AllCounted path new (counted 1 some)
    numbers_after cs log new kept added zero first most [] row_is others agree = tt
    numbers_after cs log new kept added zero first most (c ∷ rest) row_is others agree = absurd (cons≢nil row_is)
    numbers_after cs log new kept added (suc n) first most [] row_is others agree = absurd (cons≢nil (sym row_is))
    numbers_after cs log new kept added (suc n) first most (c ∷ rest) row_is others agree =
        let key : c.0 ≡ first = ap (first_of first) row_is in let low : c.0 < fan_out = omega (arith, key, most) in (
          omega (arith, counted_at path cs log c.0 c.1 kept agree.0, count_append path c.0 log (e ∷ []), one_more c.0 low, ap (count_of path c.0) added),
          low,
          numbers_after cs log new kept added n (suc first) (omega (arith, most)) rest (ap rest_of row_is) others agree.1,
        )

    hers_agree : (cs : List Cell) (some : List Count) → Agree cs (some ++ hers) → Agree cs hers
    hers_agree cs [] agree = agree
    hers_agree cs (c ∷ rest) agree = hers_agree cs rest agree.1

module _ {K V : Type 0} (path : K → ℕ) (cells_law : CellsLaw) (count_law : CountLaw) (name : Option Book) (pb : Book) (ps : List Count) (sb : Book) (log₀ : List (Entry K V)) (lent : AreLent name pb ps sb) (ab : Book) (hers : List Count) (author : IsAuthor name ab hers) (e : Entry K V) (by : e.by ≡ (signer_of hers).by) (all : e.write ≡ Clear) (whole : HasHistory name → keys_of ps ≡ up_to fan_out) where
  abbrev Holds : List Cell → List (Entry K V) → Type 0
  Holds = λ cells log. IsKept path cells log

  abbrev shows : List (Entry K V) → List (Entry K V)
  shows = λ log. []

  abbrev Told : Type 0
  Told = (ps ≡ []) ⊎ (name ≡ Some pb)

  signs : Signed path e hers
  signs = signed_of path e name ab hers author by

  none_named : (b : Book) → name ≡ Some b → ps ≡ [] → {A : Type 0} → A
  none_named b named none = absurd (cons≢nil (sym rows_are ∙ (sym (whole (b, named)) ∙ ap keys_of none)))

  none_signs : ps ≡ [] → IsAuthor name ab hers → hers ≡ []
  none_signs none (inl no_author) = no_author
  none_signs none (inr r) = none_named ab r.4 none

  none_at_all : ps ≡ [] → ps ++ hers ≡ []
  none_at_all none = ap (λ (rs : List Count). rs ++ hers) none ∙ none_signs none author

  whole_row : name ≡ Some pb → keys_of ps ≡ row fan_out 0
  whole_row named = whole (pb, named) ∙ rows_are

  turns_by : (rights : List Count) (seen : List (Entry K V)) → pb ≡ sb → Fill path rights (e ∷ []) → AllDiffer rights → MayTurn Holds shows pb sb rights seen (e ∷ [])
  turns_by [] seen of fill differ = tt
  turns_by (c ∷ rest) seen of fill differ = (of, allows path cells_law count_law (c ∷ rest) (e ∷ []) fill differ seen)

  pub may_clear : Told → MayTurn Holds shows pb sb (ps ++ hers) log₀ (e ∷ [])
  may_clear (inl none) = subst (λ (rs : List Count). MayTurn Holds shows pb sb rs log₀ (e ∷ [])) (sym (none_at_all none)) tt
  may_clear (inr named) =
      let both = named_is name sb pb pb lent.named named in
      turns_by (ps ++ hers) log₀ (sym both.0) (fills_all path e all ps hers (whole_row named) signs) (differ_all path e all ps hers (whole_row named) signs)

  lends : name ≡ Some pb → IsAuthor name ab hers → (hers ≡ []) ⊎ (ab ≡ pb)
  lends named (inl none) = inl none
  lends named (inr r) = inr (same_name name ab pb r.4 named)

  pub may_share : Told → (hers ≡ []) ⊎ (ab ≡ pb)
  may_share (inl none) = inl (none_signs none author)
  may_share (inr named) = lends named author

  -- what the author takes back, and what is left
  pub hers_back : Told → drop fan_out (counted 1 (ps ++ hers)) ≡ counted 1 hers
  hers_back (inl none) = ap (λ (rs : List Count). drop fan_out (counted 1 rs)) (none_at_all none) ∙ sym (ap (counted 1) (none_signs none author))
  hers_back (inr named) = back_of ps hers fan_out (long_row fan_out 0 ps (whole_row named))

  pub ours_back : Told → take fan_out (counted 1 (ps ++ hers)) ≡ counted 1 ps
  ours_back (inl none) = ap (λ (rs : List Count). take fan_out (counted 1 rs)) (none_at_all none) ∙ sym (ap (counted 1) none)
  ours_back (inr named) = front_of ps hers fan_out (long_row fan_out 0 ps (whole_row named))

  pub keys_back : Told → keys_of (take fan_out (counted 1 (ps ++ hers))) ≡ keys_of ps
  keys_back own = ap keys_of (ours_back own) ∙ keys_counted ps

  backs : Told → (hers ≡ []) ⊎ (ab ≡ pb) → ((◌≡◌ {A = List Count} [] []) × (drop fan_out (counted 1 (ps ++ hers)) ≡ [])) ⊎ (ab ≡ pb)
  backs own (inl none) = inl (refl, hers_back own ∙ ap (counted 1) none)
  backs own (inr same) = inr same

  pub may_back : Told → ((◌≡◌ {A = List Count} [] []) × (drop fan_out (counted 1 (ps ++ hers)) ≡ [])) ⊎ (ab ≡ pb)
  may_back own = backs own (may_share own)

  module _ (new : List (Entry K V)) (t : Turned Holds (ps ++ hers) log₀ (e ∷ []) new) where
    added_by : (rights : List Count) → keys_of ps ≡ row fan_out 0 → Turned Holds (ps ++ hers) log₀ (e ∷ []) new → (some : List Count) → some ≡ ps → Added Holds (some ++ hers) log₀ (e ∷ []) new
    added_by rights is turned [] same = absurd (cons≢nil (sym is ∙ ap keys_of (sym same)))
    added_by rights is turned (c ∷ rest) same = subst (λ (rs : List Count). Turned Holds (rs ++ hers) log₀ (e ∷ []) new) (sym same) turned

    added : name ≡ Some pb → Added Holds (ps ++ hers) log₀ (e ∷ []) new
    added named = added_by ps (whole_row named) t ps refl

    pub all_counted : Told → AllCounted path new (take fan_out (counted 1 (ps ++ hers)))
    all_counted (inl none) = subst (AllCounted path new) (sym (ours_back (inl none) ∙ ap (counted 1) none)) tt
    all_counted (inr named) =
        let u = added named in
        subst (AllCounted path new) (sym (ours_back (inr named))) (numbers_after path e all ps hers (whole_row named) signs u.1 u.0 new u.2 u.5 fan_out 0 (omega arith) ps (whole_row named) hers u.4)

    pub cleared : HasHistory name → Told → (h : List (Entry K V)) × IsPrefix log₀ h × Made path (signer_of hers) h × (new ≡ h ++ e ∷ [])
    cleared history (inl none) = none_named history.0 history.1 none
    cleared history (inr named) =
        let u = added named in
        (u.0, u.3, made_by path u.1 u.0 u.2 hers (hers_agree path e all ps hers (whole_row named) signs u.1 ps u.4), u.5)

-- rights that are counted up are told of a history, or there are none
pub told_after : {name : Option Book} {pb : Book} {ps : List Count} → (ps ≡ []) ⊎ (name ≡ Some pb) → (counted 1 ps ≡ []) ⊎ (name ≡ Some pb)
told_after (inl none) = inl (ap (counted 1) none)
told_after (inr named) = inr named
