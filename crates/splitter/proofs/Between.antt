-- The bitmap of some digits of a bitmap.
use Rattle.std.proofs.Common.{◌≡◌, ℕ, zero, suc, ◌+◌, List, [], take, drop, refl, sym, ap, ◌∙◌, arith}
use Rattle.trie_shape.specs.Tree.{digits_from}
use Rattle.splitter.proofs.Rows.{unset_next}

-- a bitmap has those digits of another that stand from one number on and below another
abbrev pub IsBetween : ℕ → ℕ → ℕ → ℕ → Type 0
IsBetween from to m r = (count first : ℕ) → digits_from count first r ≡ drop from (take to (digits_from count first m))

abbrev none : List ℕ
none = []

nothing : (from to : ℕ) → drop from (take to none) ≡ []
nothing zero zero = refl
nothing zero (suc to) = refl
nothing (suc from) zero = refl
nothing (suc from) (suc to) = refl

none_taken : (from : ℕ) (xs : List ℕ) → drop from (take 0 xs) ≡ []
none_taken zero xs = refl
none_taken (suc from) xs = refl

no_digits_from : (count first : ℕ) → digits_from count first 0 ≡ []
no_digits_from zero first = refl
no_digits_from (suc count) first = unset_next count first 0 (λ e. omega (arith, e)) ∙ no_digits_from count (first + 1)

-- of no digits
pub none_below : (from m : ℕ) → IsBetween from 0 m 0
none_below from m count first = no_digits_from count first ∙ sym (none_taken from (digits_from count first m))

pub none_of_none : (from to : ℕ) → IsBetween from to 0 0
none_of_none from to count first = no_digits_from count first ∙ sym (ap (λ ds. drop from (take to ds)) (no_digits_from count first) ∙ nothing from to)
