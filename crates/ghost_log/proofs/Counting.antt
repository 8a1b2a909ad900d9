-- Cells that are counted up one after the other.
use Rattle.std.proofs.Common.{◌≡◌, ℕ, zero, suc, ◌+◌, ◌<◌, Bool, true, false, true≢false, cond, eqb, eqb-true, eq-eqb, arith, List, [], ◌∷◌, length, length-set, set, sym, ap, ◌∙◌, refl, subst}
use Rattle.logbook.specs.Pages.{Cell, cell}
use Rattle.ghost_log.specs.Cells.{Agree, AllDiffer, AreHome, Count, HasOther, cells_after, has_key}

cell_else : (cs : List Cell) (k j : ℕ) (c : Cell) → (j ≡ k → ⊥) → cell (set cs k c) j ≡ cell cs j
cell_else [] k j c other = refl
cell_else (x ∷ cs) zero zero c other = absurd (other refl)
cell_else (x ∷ cs) zero (suc j) c other = refl
cell_else (x ∷ cs) (suc k) zero c other = refl
cell_else (x ∷ cs) (suc k) (suc j) c other = cell_else cs k j c (λ e. other (ap suc e))

cell_here : (cs : List Cell) (k : ℕ) (c : Cell) → k < length cs → cell (set cs k c) k ≡ c
cell_here [] k c l = absurd (omega arith)
cell_here (x ∷ cs) zero c l = refl
cell_here (x ∷ cs) (suc k) c l = cell_here cs k c (omega arith)

-- a cell that is home is one of the book's
within : (cs : List Cell) (k : ℕ) → (cell cs k).1 ≡ true → k < length cs
within [] k home = absurd (true≢false (sym home))
within (x ∷ cs) zero home = omega arith
within (x ∷ cs) (suc k) home = let l = within cs k home in omega (arith, l)

module _ (cs : List Cell) (k : ℕ) (new : Cell) where
  -- the other cells are home when one is set
  pub home_else : (rights : List Count) → HasOther k rights → AreHome cs rights → AreHome (set cs k new) rights
  home_else [] other home = tt
  home_else (c ∷ rest) other home = (
    λ l. ap (λ (x : Cell). x.1) (cell_else cs k c.0 new other.0) ∙ home.0 (subst (λ (n : ℕ). c.0 < n) (length-set cs k new) l),
    home_else rest other.1 home.1,
  )

  -- what they are then, they were
  pub agree_else : (rights : List Count) → HasOther k rights → Agree (set cs k new) rights → Agree cs rights
  agree_else [] other agree = tt
  agree_else (c ∷ rest) other agree = (sym (cell_else cs k c.0 new other.0) ∙ agree.0, agree_else rest other.1 agree.1)

  -- and what they were, they are
  agree_then : (rights : List Count) → HasOther k rights → Agree cs rights → Agree (set cs k new) rights
  agree_then [] other agree = tt
  agree_then (c ∷ rest) other agree = (cell_else cs k c.0 new other.0 ∙ agree.0, agree_then rest other.1 agree.1)

none_differs : (k : ℕ) (c : Count) (has : Bool) → (c.0 ≡ k → ⊥) → has ≡ false → (b : Bool) → eqb c.0 k ≡ b → cond b true has ≡ false
none_differs k c has other none true same = absurd (other (eqb-true c.0 k same))
none_differs k c has other none false differ = none

-- no right but the first is one to its cell
none_else : (k : ℕ) (rights : List Count) → HasOther k rights → has_key k rights ≡ false
none_else k [] other = refl
none_else k (c ∷ rest) other = none_differs k c (has_key k rest) other.0 (none_else k rest other.1) (eqb c.0 k) refl

module _ (m k : ℕ) where
  first_raised : (rest : List Count) (cs : List Cell) (c : Count) → HasOther c.0 rest → cell cs c.0 ≡ (c.1, true) → (here : Cell) → here ≡ cond (has_key k rest) ((cell (set cs c.0 (c.1 + m, true)) k).0 + m, true) (cell (set cs c.0 (c.1 + m, true)) k)
      → (b : Bool) → eqb c.0 k ≡ b → here ≡ cond (cond b true (has_key k rest)) ((cell cs k).0 + m, true) (cell cs k)
  first_raised rest cs c other agree here is true same =
      let key : c.0 ≡ k = eqb-true c.0 k same in let ds : List Cell = set cs c.0 (c.1 + m, true) in
      is ∙ ap (λ (b : Bool). cond b ((cell ds k).0 + m, true) (cell ds k)) (ap (λ (j : ℕ). has_key j rest) (sym key) ∙ none_else c.0 rest other)
      ∙ subst (λ (j : ℕ). cell ds j ≡ (c.1 + m, true)) key (cell_here cs c.0 (c.1 + m, true) (within cs c.0 (ap (λ (x : Cell). x.1) agree)))
      ∙ ap (λ (n : ℕ). (n + m, true)) (sym (ap (λ (x : Cell). x.0) (ap (cell cs) (sym key) ∙ agree)))
  first_raised rest cs c other agree here is false differ =
      is ∙ ap (λ (x : Cell). cond (has_key k rest) (x.0 + m, true) x) (cell_else cs c.0 k (c.1 + m, true) (λ same. true≢false (sym (eq-eqb c.0 k (sym same)) ∙ differ)))

  -- each cell of the rights is m higher, and no other has changed
  pub cell_raised : (rights : List Count) (cs : List Cell) → AllDiffer rights → Agree cs rights → cell (cells_after m cs rights) k ≡ cond (has_key k rights) ((cell cs k).0 + m, true) (cell cs k)
  cell_raised [] cs differ agree = refl
  cell_raised (c ∷ rest) cs differ agree =
      let ds : List Cell = set cs c.0 (c.1 + m, true) in
      first_raised rest cs c differ.0 agree.0 (cell (cells_after m ds rest) k) (cell_raised rest ds differ.1 (agree_then cs c.0 (c.1 + m, true) rest differ.0 agree.1)) (eqb c.0 k) refl

-- there are as many cells
pub length_raised : (m : ℕ) (rights : List Count) (cs : List Cell) → length (cells_after m cs rights) ≡ length cs
length_raised m [] cs = refl
length_raised m (c ∷ rest) cs = length_raised m rest (set cs c.0 (c.1 + m, true)) ∙ length-set cs c.0 (c.1 + m, true)
