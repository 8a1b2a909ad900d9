-- What a page that is filled pair by pair has in the end.
use Rattle.std.proofs.Common.{◌≡◌, ℕ, ◌+◌, ◌-◌, ◌^◌, ◌≤◌, true, false, List, [], ◌∷◌, ◌++◌, length, min, nat_lt, nat_le, refl, sym, ap, ◌∙◌, arith}
use Rattle.c_map.specs.Pages.{written}
use Rattle.c_map.specs.Fillings.{filled_one, filled}
use Rattle.c_map.specs.declared.page.Filling.{Filling}

module _ {X : Type 0} (spell : X → List ℕ) where
  pub filled-append : (f : Filling × List ℕ) (xs ys : List X) → filled spell f (xs ++ ys) ≡ filled spell (filled spell f xs) ys
  filled-append f [] ys = refl
  filled-append f (x ∷ xs) ys = filled-append (filled_one spell f x) xs ys

  -- a page that is full stays as it is
  pub filled_one-full : (f : Filling × List ℕ) (e : X) → nat_lt 0 f.0.next ≡ true → filled_one spell f e ≡ f
  filled_one-full f e full = rw full refl

  pub filled-full : (f : Filling × List ℕ) (es : List X) → nat_lt 0 f.0.next ≡ true → filled spell f es ≡ f
  filled-full f [] full = refl
  filled-full f (e ∷ es) full = ap (λ g. filled spell g es) (filled_one-full f e full) ∙ filled-full f es full

  -- pairs that come before the page are passed over
  pub filled_one-skipped : (at : Filling) (b : List ℕ) (e : X) → nat_lt 0 at.next ≡ false → nat_lt 0 at.skip ≡ true
      → filled_one spell (at, b) e ≡ (record at { skip = at.skip - 1 }, b)
  filled_one-skipped at b e open_ skips = rw (open_, skips) refl

  pub filled-skipped : (at : Filling) (b : List ℕ) (es : List X) → nat_lt 0 at.next ≡ false → length es ≤ at.skip
      → filled spell (at, b) es ≡ (record at { skip = at.skip - length es }, b)
  filled-skipped at b [] open_ before = ap (λ n. (record at { skip = n }, b)) (omega arith)
  filled-skipped at b (e ∷ es) open_ before =
      ap (λ g. filled spell g es) (filled_one-skipped at b e open_ (grind arith))
      ∙ filled-skipped (record at { skip = at.skip - 1 }) b es open_ (omega arith)
      ∙ ap (λ n. (record at { skip = n }, b)) (omega arith)

  -- a pair that has room is written
  pub filled_one-written : (at : Filling) (b : List ℕ) (e : X) → nat_lt 0 at.next ≡ false → nat_lt 0 at.skip ≡ false → nat_le (length (spell e)) (length b - at.used) ≡ true
      → filled_one spell (at, b) e ≡ (record at { used = at.used + length (spell e); pairs = at.pairs + 1 }, written b at.used (spell e))
  filled_one-written at b e open_ here room = rw (open_, here, room) refl

  -- and one that has none ends the page
  pub filled_one-stopped : (at : Filling) (b : List ℕ) (e : X) → nat_lt 0 at.next ≡ false → nat_lt 0 at.skip ≡ false → nat_le (length (spell e)) (length b - at.used) ≡ false
      → filled_one spell (at, b) e ≡ (record at { next = min (length (spell e)) (2 ^ 64 - 1) }, b)
  filled_one-stopped at b e open_ here room = rw (open_, here, room) refl

  -- a pair whose parts were written
  pub filled_one-pushed : (at : Filling) (b z : List ℕ) (e : X) (size : ℕ) → size ≡ length (spell e) → z ≡ written b at.used (spell e)
      → nat_lt 0 at.next ≡ false → nat_lt 0 at.skip ≡ false → nat_le (length (spell e)) (length b - at.used) ≡ true
      → (record at { used = at.used + size; pairs = at.pairs + 1 }, z) ≡ filled_one spell (at, b) e
  filled_one-pushed at b z e size long all open_ here room =
      ap (λ n. (record at { used = at.used + n; pairs = at.pairs + 1 }, z)) long
      ∙ ap (λ u. (record at { used = at.used + length (spell e); pairs = at.pairs + 1 }, u)) all
      ∙ sym (filled_one-written at b e open_ here room)

  -- one pair more
  pub filled-more : (f g h : Filling × List ℕ) (es : List X) (e : X) → g ≡ filled spell f es → h ≡ filled_one spell g e → h ≡ filled spell f (es ++ e ∷ [])
  filled-more f g h es e before one = one ∙ ap (λ u. filled_one spell u e) before ∙ sym (filled-append f es (e ∷ []))

  -- and the pairs of one subtrie more
  pub filled-all : (f g h : Filling × List ℕ) (es xs : List X) → g ≡ filled spell f es → h ≡ filled spell g xs → h ≡ filled spell f (es ++ xs)
  filled-all f g h es xs before more = more ∙ ap (λ u. filled spell u xs) before ∙ sym (filled-append f es xs)
