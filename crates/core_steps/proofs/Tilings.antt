-- How the worked intervals of a board are found to tile.
use Rattle.std.proofs.Common.{◌≡◌, ℕ, ◌+◌, List, [], ◌∷◌, ◌++◌, refl, ap, arith}
use Rattle.std.specs.Prelude.{sum_by, option_to_list, ◌↔◌}
use Rattle.std.proofs.lemmas.Bool.Decides.{nat_tests}
use Rattle.std.proofs.lemmas.List.Sums.{sum_by-cons, sum_by-append}
use Rattle.iter.specs.declared.interval.Interval.{Interval}
use Rattle.iter.specs.Intervals.{whole, cover, Tile}
use Rattle.worker_states.proofs.Covers.{once}
use Rattle.worker_states.specs.Boards.{Board, intervals_of, intervals, all_worked}
use Rattle.core_steps.specs.Invariants.{emptiness, waiting_of, waiting, IsBoard}

-- what waits and what was worked are all intervals
pub weights : (h : Interval → ℕ) (b : Board) → sum_by h (intervals b) ≡ sum_by h (waiting b) + sum_by h (all_worked b)
weights h [] = refl
weights h (x ∷ b) =
    let first = sum_by-append h (x.queue ++ option_to_list x.held) x.worked in
    omega (arith, first, sum_by-append h (intervals_of x) (intervals b), sum_by-append h (waiting_of x) (waiting b), sum_by-append h x.worked (all_worked b), weights h b)

-- of intervals that have no position in all, and none of which is empty, there are none
none_waits : (is : List Interval) → ((p : ℕ) → cover is p ≡ 0) → sum_by emptiness is ≡ 0 → is ≡ []
none_waits [] h e = refl
none_waits (i ∷ is) h e =
    let first = sum_by-cons (λ x. once x i.lo) i is in
    let empty = sum_by-cons emptiness i is in
    absurd (clash i.lo i.hi (omega (arith, first, h i.lo)) (omega (arith, empty, e)))
  where
    clash : (lo hi : ℕ) → once (record { lo = lo; hi = hi }) lo ≡ 0 → emptiness (record { lo = lo; hi = hi }) ≡ 0 → ⊥
    clash lo hi a b = grind (arith, nat_tests)

-- the worked intervals of a board tile exactly where nothing waits and nothing is held
pub worked_tile : (workers : ℕ) (b : Board) → IsBoard workers b → Tile (all_worked b) whole ↔ (waiting b ≡ [])
worked_tile workers b is = (
  λ tile. none_waits (waiting b) (λ p. omega (arith, weights (λ i. once i p) b, is.tile p, tile p)) (omega (arith, weights emptiness b, is.filled)),
  λ none p. omega (arith, weights (λ i. once i p) b, is.tile p, ap (λ is. cover is p) none),
)
