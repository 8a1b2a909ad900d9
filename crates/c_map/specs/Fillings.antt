-- How a page is filled, pair by pair.
use Rattle.std.specs.Prelude.{ℕ, ◌+◌, ◌-◌, ◌^◌, List, [], ◌∷◌, length, min, if◌then◌else◌, nat_lt, nat_le}
use Rattle.c_map.specs.Pages.{written}
use Rattle.c_map.specs.declared.page.Filling.{Filling}

module _ {X : Type 0} (spell : X → List ℕ) where
  -- a page and its buffer with one pair more: it is passed over, or written where there is room; where there is none, the page
  -- is full from then on
  abbrev pub filled_one : Filling × List ℕ → X → Filling × List ℕ
  filled_one f x =
      if nat_lt 0 f.0.next then f else
      if nat_lt 0 f.0.skip then (record f.0 { skip = f.0.skip - 1 }, f.1) else
      if nat_le (length (spell x)) (length f.1 - f.0.used)
      then (record f.0 { used = f.0.used + length (spell x); pairs = f.0.pairs + 1 }, written f.1 f.0.used (spell x))
      else (record f.0 { next = min (length (spell x)) (2 ^ 64 - 1) }, f.1)

  -- with all of some pairs, one after another
  abbrev pub filled : Filling × List ℕ → List X → Filling × List ℕ
  filled f [] = f
  filled f (x ∷ xs) = filled (filled_one f x) xs
