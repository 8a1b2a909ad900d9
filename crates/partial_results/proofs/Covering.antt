-- How intervals cover positions.
use Rattle.std.proofs.Common.{◌≡◌, ℕ, ◌+◌, ◌<◌, ◌≤◌, Bool, true, false, List, [], ◌∷◌, ◌++◌, ap, sym, subst, ◌∙◌, arith}
use Rattle.std.specs.Bool.{OnTrue}
use Rattle.std.proofs.lemmas.Bool.Decides.{nat_tests}
use Rattle.std.proofs.lemmas.List.{append-nil}
use Rattle.std.proofs.lemmas.List.Concat.{flat_map-append}
use Rattle.iter.specs.declared.interval.Interval.{Interval}
use Rattle.iter.specs.Intervals.{AreApart, cover}
use Rattle.iter.proofs.Tiling.{cover_append, cover_cons}
use Rattle.partial_results.specs.Worked.{all_of, once}

pub once_le : (i : Interval) (p : ℕ) → once i p ≤ 1
once_le i p = grind (arith, nat_tests)

pub cover_push : (is : List Interval) (i : Interval) (p : ℕ) → cover (is ++ i ∷ []) p ≡ cover is p + once i p
cover_push is i p = omega (arith, cover_append is (i ∷ []) p, cover_cons i [] p)

-- what has no position in common with lists that are apart is apart with them
pub apart_push : (ws rs : List Interval) (i : Interval) → ((p : ℕ) → cover rs p ≡ cover ws p) → AreApart ws → ((p : ℕ) → 0 < once i p → cover rs p ≡ 0) → AreApart (ws ++ i ∷ [])
apart_push ws rs i same apart free p =
    let one = once_le i p in
    let a = apart p in
    let s = same p in
    let f = free p in
    let c = cover_push ws i p in
    grind (arith, c)

pub all_of_push : (ls : List (List Interval)) (l : List Interval) → all_of (ls ++ l ∷ []) ≡ all_of ls ++ l
all_of_push ls l = flat_map-append (λ is. is) ls (l ∷ []) ∙ ap (λ x. all_of ls ++ x) (append-nil l)

-- what follows from what is true where a test is
pub on_true : {P Q : Type 0} (b : Bool) → (P → Q) → OnTrue b P → OnTrue b Q
on_true true f h = f h
on_true false f h = tt

pub free_seen : (self ws rs ds : List Interval) (i j : Interval) → ws ≡ self → ds ≡ rs → j ≡ i → ((p : ℕ) → cover rs p ≡ cover ws p)
    → AreApart ws → ((p : ℕ) → 0 < once j p → cover ds p ≡ 0) → AreApart (self ++ i ∷ [])
free_seen self ws rs ds i j e g h same one free =
    let all : AreApart (ws ++ i ∷ []) = apart_push ws rs i same one (λ p there. ap (λ x. cover x p) (sym g) ∙ free p (subst (λ x. 0 < once x p) (sym h) there)) in
    λ p. subst (λ x. cover (x ++ i ∷ []) p ≤ 1) e (all p)

-- one list more, beside those so far
pub apart_list : (ls ts rest : List (List Interval)) (t all : List Interval) → ts ≡ ls ++ t ∷ rest → all ≡ all_of ls → AreApart (all_of ts) → AreApart (all ++ t)
apart_list ls ts rest t all e is apart p =
    let split : all_of ts ≡ all_of ls ++ (t ++ all_of rest) = ap all_of e ∙ flat_map-append (λ x. x) ls (t ∷ rest) in
    let c : cover (all_of ts) p ≡ cover (all_of ls) p + (cover t p + cover (all_of rest) p) = ap (λ x. cover x p) split ∙ (cover_append (all_of ls) (t ++ all_of rest) p ∙ ap (λ n. cover (all_of ls) p + n) (cover_append t (all_of rest) p)) in
    let a : cover all p ≡ cover (all_of ls) p = ap (λ x. cover x p) is in
    omega (arith, c, a, apart p, cover_append all t p)
