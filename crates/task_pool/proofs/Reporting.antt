-- How a report is put together.
use Rattle.std.proofs.Common.{◌≡◌, ℕ, ◌+◌, ◌-◌, ◌≤◌, ◌⊎◌, List, [], ◌∷◌, ◌++◌, length, map, sym, ap, subst, ◌∙◌, length-append, arith}
use Rattle.std.proofs.lemmas.List.{append-nil, map-append, length-map}
use Rattle.std.proofs.lemmas.List.Concat.{flat_map-append}
use Rattle.trie_shape.specs.Map.{Map}
use Rattle.iter.specs.declared.interval.Interval.{Interval}
use Rattle.iter.specs.Intervals.{AreApart, Tile, parts, whole}
use Rattle.partial_results.specs.Worked.{Uncut, all_of}
use Rattle.partial_results.proofs.Covering.{all_of_push}
use Rattle.task_pool.specs.Asked.{EachAsked}
use Rattle.task_pool.specs.Reports.{IsReport}

-- one list more
pub listed : {X : Type 0} (f : X → List Interval) (ls ms : List X) (l : X) (all : List Interval) → ms ≡ ls ++ l ∷ [] → all_of (map f ls) ≡ all → all_of (map f ms) ≡ all ++ f l
listed f ls ms l all e is =
    ap (λ xs. all_of (map f xs)) e ∙ ap all_of (map-append f ls (l ∷ [])) ∙ all_of_push (map f ls) (f l) ∙ ap (λ x. x ++ f l) is

pub counted : {X : Type 0} (f : X → List Interval) (ls ms : List X) (l : X) (n : ℕ) → ms ≡ ls ++ l ∷ [] → length ls ≡ n → length (map f ms) ≡ n + 1
counted f ls ms l n e is = length-map ms f ∙ ap length e ∙ length-append ls (l ∷ []) ∙ ap (λ k. k + 1) is

-- the report of what was worked
pub made : {K V P : Type 0} (path : K → ℕ) (Asked : ℕ → Interval → Type 0) (answers : Map K V → P → Type 0) (decides : Map K V → Type 0) (m : Map K V) (grain workers : ℕ) (part : P) (lists : List (List Interval)) (all : List Interval)
    → all_of lists ≡ all → length lists ≡ workers + 1 → answers m part → AreApart all → Uncut path m grain all → EachAsked Asked lists → Tile all whole ⊎ (decides (parts path m all) × decides m)
    → IsReport path Asked answers decides m grain workers part lists
made path Asked answers decides m grain workers part lists all is count has apart uncut asked ended = record {
  answered = has;
  count = count;
  apart = subst AreApart (sym is) apart;
  uncut = subst (Uncut path m grain) (sym is) uncut;
  asked = asked;
  ended = subst (λ xs. Tile xs whole ⊎ (decides (parts path m xs) × decides m)) (sym is) ended;
}

-- lists of nothing behind them, for those that never began
pub padded : {X : Type 0} (f : X → List Interval) (ls rs ms : List X) (ts : List (List Interval)) → ms ≡ ls ++ rs → map f ls ≡ ts → all_of (map f rs) ≡ [] → all_of (map f ms) ≡ all_of ts
padded f ls rs ms ts e is none =
    ap (λ xs. all_of (map f xs)) e ∙ ap all_of (map-append f ls rs) ∙ flat_map-append (λ x. x) (map f ls) (map f rs) ∙ (λ k. all_of (is k) ++ none k) ∙ append-nil (all_of ts)

pub as_many : {X : Type 0} (f : X → List Interval) (ls rs ms : List X) (ts : List (List Interval)) (n : ℕ) → ms ≡ ls ++ rs → map f ls ≡ ts → length rs ≡ n - length ts → length ts ≤ n → length ms ≡ n
as_many f ls rs ms ts n e is rest few = omega (arith, ap length e, length-append ls rs, length-map ls f, ap length is)
