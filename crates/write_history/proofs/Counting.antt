-- Cells that count the entries of digits and of authors.
use Rattle.std.proofs.Common.{◌≡◌, ℕ, zero, suc, ◌+◌, ◌<◌, ◌≤◌, Bool, true, false, cond, eqb, List, [], ◌∷◌, ◌++◌, length, replicate, Some, None, nat_lt, refl, ap, sym, ◌∙◌, subst, arith, true≢false, eqb-true}
use Rattle.std.proofs.lemmas.Bool.Decides.{nat_tests}
use mathlib.Core.List.{IsPrefix}
use Rattle.hash_path.specs.Digits.{fan_out}
use Rattle.logbook.specs.Pages.{Cell, cell}
use Rattle.ghost_log.specs.Cells.{Agree, AllDiffer, AreHome, Count, cells_after, has_key}
use Rattle.ghost_log.specs.Turns.{Allows}
use Rattle.write_history.specs.declared.entry.Entry.{Entry}
use Rattle.write_history.specs.declared.entry.Write.{Write}
use Rattle.write_history.specs.declared.entry.Write.TheVariants.{Put, Remove, Clear}
use Rattle.write_history.specs.Histories.{IsOf, count_of, is_by, is_counted, is_of}
use Rattle.write_history.specs.Rules.{IsKept}

cell_row : (n d : ℕ) → d < n → cell (replicate n (0, true)) d ≡ (0, true)
cell_row zero d l = absurd (omega arith)
cell_row (suc n) zero l = refl
cell_row (suc n) (suc d) l = cell_row n d (omega arith)

length_row : (n : ℕ) → length (replicate {A = Cell} n (0, true)) ≡ n
length_row zero = refl
length_row (suc n) = ap suc (length_row n)

-- a cell that is home is one of the book's
in_row : (cs : List Cell) (k : ℕ) → (cell cs k).1 ≡ true → k < length cs
in_row [] k home = absurd (true≢false (sym home))
in_row (x ∷ cs) zero home = omega arith
in_row (x ∷ cs) (suc k) home = let l = in_row cs k home in omega (arith, l)

-- what the law of `ghost_log` says of cells
abbrev pub CellsLaw : Type 0
CellsLaw = (m k : ℕ) (rights : List Count) (cells : List Cell) → AllDiffer rights → Agree cells rights → cell (cells_after m cells rights) k ≡ cond (has_key k rights) ((cell cells k).0 + m, true) (cell cells k)

abbrev pub CountLaw : Type 0
CountLaw = (m : ℕ) (rights : List Count) (cells : List Cell) → length (cells_after m cells rights) ≡ length cells

if_none : (b : Bool) → ◌≡◌ {A = ℕ} 0 (cond b 0 0)
if_none true = refl
if_none false = refl

if_one : (b : Bool) → ◌≡◌ {A = ℕ} (cond b 1 0 + 0) (cond b 1 0)
if_one true = refl
if_one false = refl

pub is_small : (k : ℕ) → k < fan_out → nat_lt k fan_out ≡ true
is_small k small = grind (arith, nat_tests)

pub is_great : (k : ℕ) → fan_out ≤ k → nat_lt k fan_out ≡ false
is_great k great = grind (arith, nat_tests)

pub was_small : (k : ℕ) → nat_lt k fan_out ≡ true → k < fan_out
was_small k is = grind (arith, nat_tests)

pub was_great : (k : ℕ) → nat_lt k fan_out ≡ false → fan_out ≤ k
was_great k is = grind (arith, nat_tests)

pub not_equal : (d e : ℕ) → (d ≡ e → ⊥) → (b : Bool) → eqb d e ≡ b → eqb d e ≡ false
not_equal d e other true is = absurd (other (eqb-true d e is))
not_equal d e other false is = is

if_self : (b : Bool) → b ≡ cond b true false
if_self true = refl
if_self false = refl

module _ {K V : Type 0} (path : K → ℕ) where
  pub count_append : (k : ℕ) (xs ys : List (Entry K V)) → count_of path k (xs ++ ys) ≡ count_of path k xs + count_of path k ys
  count_append k [] ys = omega arith
  count_append k (x ∷ xs) ys = omega (arith, count_append k xs ys)

  pub count_prefix : (k : ℕ) (xs ys : List (Entry K V)) → IsPrefix xs ys → count_of path k xs ≤ count_of path k ys
  count_prefix k xs ys p = omega (arith, sym (ap (count_of path k) p.1) ∙ count_append k xs p.0)

  -- a book begins with cells that hold 0
  pub kept_first : (n : ℕ) → fan_out ≤ n → IsKept {K = K} {V = V} path (replicate n (0, true)) []
  kept_first n wide = record { wide = subst (λ (m : ℕ). fan_out ≤ m) (sym (length_row n)) wide; counts = λ k l. cell_row n k (subst (λ (m : ℕ). k < m) (length_row n) l) }

  -- the cells that count an entry are those of the rights
  abbrev pub Covers : List Count → Entry K V → Type 0
  Covers rights e = (k : ℕ) → is_counted path k e ≡ has_key k rights

  -- entries that all these cells count, and no others
  abbrev pub Fill : List Count → List (Entry K V) → Type 0
  Fill rights more = (k : ℕ) → count_of path k more ≡ cond (has_key k rights) (length more) 0

  pub fill_one : (rights : List Count) (e : Entry K V) → Covers rights e → Fill rights (e ∷ [])
  fill_one rights e covers k = ap (λ (b : Bool). cond b 1 0 + 0) (covers k) ∙ if_one (has_key k rights)

  module _ (cells_law : CellsLaw) (count_law : CountLaw) (rights : List Count) (more : List (Entry K V)) (fill : Fill rights more) (differ : AllDiffer rights) where
    raised_count : (k : ℕ) (log : List (Entry K V)) (c : Cell) → c ≡ (count_of path k log, true) → (b : Bool) → count_of path k more ≡ cond b (length more) 0 → cond b (c.0 + length more, true) c ≡ (count_of path k (log ++ more), true)
    raised_count k log c is true all = ap (λ (n : ℕ). (n, true)) (omega (arith, count_append k log more, all, ap (λ (x : Cell). x.0) is))
    raised_count k log c is false all = is ∙ ap (λ (n : ℕ). (n, true)) (omega (arith, count_append k log more, all))

    kept_turn : (cs : List Cell) (log : List (Entry K V)) → IsKept path cs log → Agree cs rights → IsKept path (cells_after (length more) cs rights) (log ++ more)
    kept_turn cs log kept agree = record {
      wide = subst (λ (n : ℕ). fan_out ≤ n) (sym (count_law (length more) rights cs)) kept.wide;
      counts = λ k l. cells_law (length more) k rights cs differ agree ∙ raised_count k log (cell cs k) (kept.counts k (subst (λ (n : ℕ). k < n) (count_law (length more) rights cs) l)) (has_key k rights) (fill k);
    }

    home_all : (rs : List Count) (cs : List Cell) (log : List (Entry K V)) → IsKept path cs log → AreHome cs rs
    home_all [] cs log kept = tt
    home_all (c ∷ rest) cs log kept = (λ l. ap (λ (x : Cell). x.1) (kept.counts c.0 l), home_all rest cs log kept)

    -- whoever has the rights may add such entries
    pub allows : (seen : List (Entry K V)) → Allows (λ cells log. IsKept path cells log) (λ log. []) rights seen more
    allows seen = (differ, λ cs log kept. (home_all rights cs log kept, λ pre agree. (kept_turn cs log kept agree, refl)))

  -- a right's number is that of the entries that its cell counts
  pub counted_at : (cs : List Cell) (log : List (Entry K V)) (k n : ℕ) → IsKept path cs log → cell cs k ≡ (n, true) → n ≡ count_of path k log
  counted_at cs log k n kept at = ap (λ (x : Cell). x.0) (sym at ∙ kept.counts k (in_row cs k (ap (λ (x : Cell). x.1) at)))

  -- a digit's cell counts what is of it
  pub small_counted : (k : ℕ) (e : Entry K V) → k < fan_out → is_counted path k e ≡ is_of path k e.write
  small_counted k e small = ap (λ (b : Bool). cond b (is_of path k e.write) (is_by k e.by)) (is_small k small)

  pub great_counted : (k : ℕ) (e : Entry K V) → fan_out ≤ k → is_counted path k e ≡ is_by k e.by
  great_counted k e great = ap (λ (b : Bool). cond b (is_of path k e.write) (is_by k e.by)) (is_great k great)

  one_digit : (d k : ℕ) (w : Write K V) → IsOf path d w → is_of path k w ≡ eqb d k
  one_digit d k (Put q v) mine = ap (λ (n : ℕ). eqb n k) mine
  one_digit d k (Remove q) mine = ap (λ (n : ℕ). eqb n k) mine
  one_digit d k Clear mine = absurd mine

  -- who signed the entry has these rights
  abbrev pub Signed : Entry K V → List Count → Type 0
  Signed e [] = e.by ≡ None
  Signed e (c ∷ rest) = (e.by ≡ Some c.0) × (fan_out ≤ c.0) × (rest ≡ [])

  -- the rights of whoever signed count the entry, where the cell is not a digit's
  pub signed_counted : (k : ℕ) (e : Entry K V) (rights : List Count) → Signed e rights → is_by k e.by ≡ has_key k rights
  signed_counted k e [] signed = ap (is_by k) signed
  signed_counted k e (c ∷ rest) signed = ap (is_by k) signed.0 ∙ (if_self (eqb c.0 k) ∙ ap (λ (rs : List Count). cond (eqb c.0 k) true (has_key k rs)) (sym signed.2))

  pub no_digit : (k : ℕ) (e : Entry K V) (rights : List Count) → Signed e rights → k < fan_out → has_key k rights ≡ false
  no_digit k e [] signed small = refl
  no_digit k e (c ∷ rest) signed small =
      ap (λ (b : Bool). cond b true (has_key k rest)) (not_equal c.0 k (λ same. (let great = signed.1 in omega (arith, same, great, small))) (eqb c.0 k) refl) ∙ ap (has_key k) signed.2

  by_side : (d n k : ℕ) (e : Entry K V) (rights : List Count) → d < fan_out → IsOf path d e.write → Signed e rights → (b : Bool) → nat_lt k fan_out ≡ b → is_counted path k e ≡ has_key k ((d, n) ∷ rights)
  by_side d n k e rights low mine signed true is =
      let small : k < fan_out = was_small k is in
      small_counted k e small ∙ one_digit d k e.write mine ∙ if_self (eqb d k) ∙ ap (λ (b : Bool). cond (eqb d k) true b) (sym (no_digit k e rights signed small))
  by_side d n k e rights low mine signed false is =
      let great : fan_out ≤ k = was_great k is in
      great_counted k e great ∙ signed_counted k e rights signed ∙ ap (λ (b : Bool). cond b true (has_key k rights)) (sym (not_equal d k (λ same. (omega (arith, same, great, low))) (eqb d k) refl))

  -- the right of a write's digit and that of its author are those of the cells that count it
  pub covers_one : (d n : ℕ) (e : Entry K V) (rights : List Count) → d < fan_out → IsOf path d e.write → Signed e rights → Covers ((d, n) ∷ rights) e
  covers_one d n e rights low mine signed k = by_side d n k e rights low mine signed (nat_lt k fan_out) refl

-- where nothing is added, all is counted
pub fill_none : {K : Type 0} (V : Type 0) (path : K → ℕ) (rights : List Count) → Fill {V = V} path rights []
fill_none V path rights k = if_none (has_key k rights)
