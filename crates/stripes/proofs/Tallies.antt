-- How many pairs the maps of two stripes have together.
use Rattle.std.proofs.Common.{◌≡◌, ℕ, suc, ◌+◌, ◌<◌, ◌≤◌, Bool, true, false, cond, ◌&&◌, T, [], ◌∷◌, length, List, Option, Some, None, is_some, refl, sym, ap, ◌∙◌, subst, arith, ⊎_elim, eq-or-lt_of_le}
use Rattle.std.specs.Option.{option_or}
use Rattle.std.specs.declared.cmp.Ordering.{Ordering}
use Rattle.std.specs.declared.cmp.Ordering.TheVariants.{Less, Equal, Greater}
use Rattle.std.specs.Ordering.{eq_by_cmp, is_eq, is_lt}
use Rattle.std.specs.Cmp.{IsTotalOrder, tied_itself}
use Rattle.std.specs.FinMap.{is_sorted}
use Rattle.std.specs.FinMap.Entries.{below_all, length-put}
use Rattle.versions.specs.Map.{IsMap, Map, union, value_at, with_pair}
use Rattle.write_history.specs.declared.entry.Entry.{Entry}
use Rattle.stripe.specs.Rules.{AllKeep, Belongs, first_digit}
use Rattle.stripes.specs.Moments.{LeavesFrom}
use Rattle.stripe.specs.Told.{Tells}
use Rattle.stripes.proofs.Moments.{gone, or_none, some_value}

left_of : (a b : Bool) → T (a && b) → T a
left_of true b h = tt
left_of false b h = h

right_of : (a b : Bool) → T (a && b) → T b
right_of true b h = h
right_of false b h = absurd h

holds : (b : Bool) → T b → b ≡ true
holds true h = refl
holds false h = absurd h

less : (c : Ordering) → T (is_lt c) → c ≡ Less
less Less h = refl
less Equal h = absurd h
less Greater h = absurd h

one_longer : (a b : ℕ) → (a + b) + 1 ≡ suc a + b
one_longer a b = omega arith

module _ {K V : Type 0} (R : K → K → Ordering) where
  sorted_of : (m : Map K V) → IsMap R m → T (is_sorted R m)
  sorted_of m h = subst T (sym h) tt

  none_below : (k : K) (m : Map K V) → T (below_all R k m) → value_at R m k ≡ None
  none_below k [] h = refl
  none_below k (x ∷ m) h = ap (λ (c : Ordering). cond (is_eq c) (Some x.1) (value_at R m k)) (less (R k x.0) (left_of _ _ h)) ∙ none_below k m (right_of _ _ h)

  later : (x : K × V) (m : Map K V) (k : K) → is_some (value_at R m k) ≡ true → is_some (value_at R (x ∷ m) k) ≡ true
  later x m k there = elim (eq_by_cmp R k x.0) as (λ (b : Bool). is_some (cond b (Some x.1) (value_at R m k)) ≡ true) [ true ↦ refl | false ↦ there ]

  module _ (total : IsTotalOrder R) (value : (m n : Map K V) (q : K) → value_at R (union R m n) q ≡ option_or (value_at R m q) (value_at R n q)) (map : (m n : Map K V) → IsMap R n → IsMap R (union R m n)) where
    first : (x : K × V) (m : Map K V) → is_some (value_at R (x ∷ m) x.0) ≡ true
    first x m = ap (λ (c : Ordering). is_some (cond (is_eq c) (Some x.1) (value_at R m x.0))) (tied_itself total x.0)

    grown : (x : K × V) (m : Map K V) → IsMap R m → value_at R m x.0 ≡ None → length (with_pair R m x.0 x.1) ≡ length m + 1
    grown x m sorted none = length-put R total x.0 x.1 m (sorted_of m sorted) ∙ ap (λ (o : Option V). cond (is_some o) (length m) (length m + 1)) none

    -- two maps that share no key
    pub length_apart : (m n : Map K V) → IsMap R m → IsMap R n → ((k : K) → is_some (value_at R m k) ≡ true → value_at R n k ≡ None) → length (union R m n) ≡ length m + length n
    length_apart [] n sm sn apart = let same : length n ≡ 0 + length n = omega arith in same
    length_apart (x ∷ m) n sm sn apart =
        let sorted : T (below_all R x.0 m && is_sorted R m) = sorted_of (x ∷ m) sm in
        let none : value_at R (union R m n) x.0 ≡ None = value m n x.0 ∙ (ap (λ (o : Option V). option_or o (value_at R n x.0)) (none_below x.0 m (left_of _ _ sorted)) ∙ apart x.0 (first x m)) in
        grown x (union R m n) (map m n sn) none
        ∙ (ap (λ (k : ℕ). k + 1) (length_apart m n (holds _ (right_of _ _ sorted)) sn (λ k there. apart k (later x m k there)))
        ∙ one_longer (length m) (length n))

    module _ (path : K → ℕ) (H : K → V → Type 0) (d : ℕ) (s : Map K V) (belongs : AllKeep R (Belongs path H d) s) (m : Map K V) (behind : (q : K) → first_digit path q < d + 1 → value_at R m q ≡ None) where
      own : (q : K) → is_some (value_at R s q) ≡ true → first_digit path q ≡ d
      own q = some_value (first_digit path q ≡ d) (value_at R s q) (λ v found. (belongs q v found).1)

      -- the pairs of a stripe, and those of the stripes behind it
      pub with_those : IsMap R s → IsMap R m → (n rest : ℕ) → n ≡ length s + rest → rest ≡ length m → (all : Map K V) × IsMap R all × ((q : K) → first_digit path q < d → value_at R all q ≡ None) × ((q : K) → first_digit path q ≡ d → value_at R all q ≡ value_at R s q) × ((q : K) → d + 1 ≤ first_digit path q → value_at R all q ≡ value_at R m q) × (n ≡ length all)
      with_those ss sm n rest sum count = (
        union R s m,
        map s m sm,
        (λ q low. value s m q ∙ (ap (λ (o : Option V). option_or o (value_at R m q)) (gone (value_at R s q) (λ there. let same = own q there in omega (arith, low, same))) ∙ behind q (omega (arith, low)))),
        (λ q same. value s m q ∙ (ap (option_or (value_at R s q)) (behind q (omega (arith, same))) ∙ or_none (value_at R s q))),
        (λ q above. value s m q ∙ ap (λ (o : Option V). option_or o (value_at R m q)) (gone (value_at R s q) (λ there. let same = own q there in omega (arith, above, same)))),
        sum ∙ (ap (λ (k : ℕ). length s + k) count ∙ sym (length_apart s m ss sm (λ k there. behind k (let same = own k there in omega (arith, same))))),
      )

-- what the history leaves the keys of a digit and those behind it
pub leaves_from : {K V : Type 0} (R : K → K → Ordering) (path : K → ℕ) (d : ℕ) (s m all : Map K V) (log : List (Entry K V)) → LeavesFrom R path (d + 1) log m → Tells R path d s log → IsMap R all → ((q : K) → first_digit path q < d → value_at R all q ≡ None) → ((q : K) → first_digit path q ≡ d → value_at R all q ≡ value_at R s q) → ((q : K) → d + 1 ≤ first_digit path q → value_at R all q ≡ value_at R m q) → LeavesFrom R path d log all
leaves_from R path d s m all log behind tells sorted low mine above = (
  sorted,
  low,
  (λ q from.
      ⊎_elim
      (λ here. mine q (sym here) ∙ tells q (sym here))
      (λ less. above q (omega (arith, less)) ∙ behind.2 q (omega (arith, less)))
      (eq-or-lt_of_le from)),
)
