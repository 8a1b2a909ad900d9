-- The stripe of the next digit is taken into the pairs of those before it.
use Rattle.std.proofs.Common.{◌≡◌, ℕ, ◌+◌, ◌<◌, ◌≤◌, ◌⊎◌, inl, inr, List, [], ◌∷◌, Option, Some, None, is_some, true, refl, ap, sym, ◌∙◌, arith, ⊎_elim, true≢false, eq-or-lt_of_le}
use Rattle.std.proofs.Math.Nat.{mod-lt}
use Rattle.std.specs.Option.{option_or}
use Rattle.std.specs.declared.cmp.Ordering.{Ordering}
use mathlib.Core.List.{IsPrefix}
use Rattle.hash_path.specs.Digits.{fan_out}
use Rattle.united_roots.specs.Rows.{NoneHasDigit}
use Rattle.versions.specs.Map.{Map, union, value_at}
use Rattle.write_history.specs.declared.entry.Entry.{Entry}
use Rattle.write_history.specs.Histories.{value_in}
use Rattle.stripe.specs.Rules.{AllKeep, Belongs, first_digit}
use Rattle.stripe.specs.Told.{Tells}

-- a digit is below the fan-out
pub digit_low : {K : Type 0} (path : K → ℕ) (q : K) → first_digit path q < fan_out
digit_low path q = mod-lt _ (omega arith)

-- each list begins with itself
pub prefix_self : {A : Type 0} (xs : List A) → IsPrefix xs xs
prefix_self [] = ([], refl)
prefix_self (x ∷ xs) = (let r = prefix_self xs in r.0, ap (λ ys. x ∷ ys) (prefix_self xs).1)

pub or_none : {A : Type 0} (a : Option A) → option_or a None ≡ a
or_none (Some x) = refl
or_none None = refl

pub gone : {A : Type 0} (o : Option A) → (is_some o ≡ true → ⊥) → o ≡ None
gone None never = refl
gone (Some v) never = absurd (never refl)

either : {A : Type 0} (a b : Option A) → is_some (option_or a b) ≡ true → (is_some a ≡ true) ⊎ (is_some b ≡ true)
either (Some v) b there = inl refl
either None b there = inr there

pub or_some : {A : Type 0} (a b : Option A) (v : A) → option_or a b ≡ Some v → (a ≡ Some v) ⊎ (b ≡ Some v)
or_some (Some x) b v e = inl e
or_some None b v e = inr e

pub some_value : {V : Type 0} (P : Type 0) (o : Option V) → ((v : V) → o ≡ Some v → P) → is_some o ≡ true → P
some_value P (Some v) h there = h v refl
some_value P None h there = absurd (true≢false (sym there))

module _ {K V : Type 0} (R : K → K → Ordering) (path : K → ℕ) (H : K → V → Type 0) (d : ℕ) (s row more : Map K V) (law : (m n : Map K V) (q : K) → value_at R (union R m n) q ≡ option_or (value_at R m q) (value_at R n q)) (is : more ≡ union R s row) (belongs : AllKeep R (Belongs path H d) s) (none : (e : ℕ) → d ≤ e → NoneHasDigit R path e row) where
  now : (q : K) → value_at R more q ≡ option_or (value_at R s q) (value_at R row q)
  now q = ap (λ (m : Map K V). value_at R m q) is ∙ law s row q

  digit_there : (q : K) → is_some (value_at R s q) ≡ true → first_digit path q ≡ d
  digit_there q = some_value (first_digit path q ≡ d) (value_at R s q) (λ v found. (belongs q v found).1)

  pub mine : (q : K) → first_digit path q ≡ d → value_at R more q ≡ value_at R s q
  mine q same = now q ∙ (ap (option_or (value_at R s q)) (gone (value_at R row q) (λ there. none d (omega arith) q there same)) ∙ or_none (value_at R s q))

  pub before : (q : K) → first_digit path q < d → value_at R more q ≡ value_at R row q
  before q less = now q ∙ ap (λ (o : Option V). option_or o (value_at R row q)) (gone (value_at R s q) (λ there. let same = digit_there q there in omega (arith, less, same)))

  pub kept_more : AllKeep R H row → AllKeep R H more
  kept_more rows q v found =
      ⊎_elim
      (λ in_stripe. (belongs q v in_stripe).0)
      (λ in_row. rows q v in_row)
      (or_some (value_at R s q) (value_at R row q) v (sym (now q) ∙ found))

  pub none_more : (e : ℕ) → d + 1 ≤ e → NoneHasDigit R path e more
  none_more e above q there same =
      ⊎_elim
      (λ in_stripe. let own = digit_there q in_stripe in omega (arith, above, own, same))
      (λ in_row. none e (omega (arith, above)) q in_row same)
      (either (value_at R s q) (value_at R row q) (sym (ap is_some (now q)) ∙ there))

-- the keys from a digit on have what the history says, where those of the digit and those behind it do
pub tells_from : {K V : Type 0} (R : K → K → Ordering) (path : K → ℕ) (d : ℕ) (all more s : Map K V) (log : List (Entry K V)) → ((q : K) → first_digit path q < d + 1 → value_at R all q ≡ value_at R more q) → ((q : K) → first_digit path q ≡ d → value_at R more q ≡ value_at R s q) → Tells R path d s log → ((q : K) → d + 1 ≤ first_digit path q → value_at R all q ≡ value_in R path log q) → (q : K) → d ≤ first_digit path q → value_at R all q ≡ value_in R path log q
tells_from R path d all more s log stays mine tells later q from =
    ⊎_elim
    (λ here. stays q (omega (arith, here)) ∙ (mine q (sym here) ∙ tells q (sym here)))
    (λ less. later q (omega (arith, less)))
    (eq-or-lt_of_le from)
