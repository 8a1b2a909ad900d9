-- What balances add up to.
use Rattle.std.proofs.Common.{◌≡◌, ℕ, suc, ◌+◌, List, [], ◌∷◌, ◌++◌, length, refl, sym, ap, ◌∙◌, arith}
use Rattle.std.specs.List.{sum_by}
use Rattle.std.specs.Prelude.{IfOk, Result, Ok, Err}
use Rattle.std.proofs.lemmas.List.Sums.{sum_by-cons}
use Rattle.std.proofs.lemmas.List.Concat.{flat_map-append}
use Rattle.iter.specs.declared.interval.Interval.{Interval}
use Rattle.iter.specs.Intervals.{AreApart, Tile, cover, whole}
use Rattle.ruled_deques.specs.EndsView.{given}
use Rattle.iter.proofs.Tiling.{cover_append, cover_cons}
use Rattle.partial_results.specs.Worked.{all_of, once}
use Rattle.partial_results.proofs.Covering.{cover_push, once_le}
use Rattle.task_pool.proofs.Halving.{Halved}

-- what all lists cover is what each covers, added up
pub cover_all : (ls : List (List Interval)) (p : ℕ) → cover (all_of ls) p ≡ sum_by (λ l. cover l p) ls
cover_all [] p = refl
cover_all (l ∷ ls) p = omega (arith, cover_append l (all_of ls) p, cover_all ls p, sum_by-cons (λ (x : List Interval). cover x p) l ls)

-- what was worked and what is left over tile all positions, where each of them counts as often as the whole has it
pub balanced : (ls : List (List Interval)) (leftover : List Interval) (fed : ℕ → ℕ) → ((p : ℕ) → fed p ≡ once whole p) → ((p : ℕ) → fed p ≡ sum_by (λ l. cover l p) ls + cover leftover p) → Tile (all_of ls ++ leftover) whole
balanced ls leftover fed is sum p = cover_append (all_of ls) leftover p ∙ ap (λ n. n + cover leftover p) (cover_all ls p) ∙ sym (sum p) ∙ is p

-- lists that tile are apart, and so are their parts
pub tile_apart : (is : List Interval) → Tile is whole → AreApart is
tile_apart is tile p = omega (arith, tile p, once_le whole p)

pub apart_left : (is js : List Interval) → AreApart (is ++ js) → AreApart is
apart_left is js apart p = omega (arith, cover_append is js p, apart p)

pub apart_right : (is js : List Interval) → AreApart (is ++ js) → AreApart ([] ++ js)
apart_right is js apart p = omega (arith, cover_append is js p, apart p)

-- one piece of what is left over, beside all that was worked so far
pub apart_next : (ws leftover all rest now : List Interval) (i : Interval) → now ≡ i ∷ rest → ((p : ℕ) → cover all p + cover now p ≡ cover ws p + cover leftover p) → AreApart (ws ++ leftover) → AreApart (all ++ i ∷ [])
apart_next ws leftover all rest now i e sum apart p =
    let c : cover now p ≡ once i p + cover rest p = ap (λ x. cover x p) e ∙ cover_cons i rest p in
    omega (arith, c, sum p, apart p, cover_append ws leftover p, cover_push all i p)

pub worked_next : (ws leftover all more rest now : List Interval) (i : Interval) → now ≡ i ∷ rest → ((p : ℕ) → cover all p + cover now p ≡ cover ws p + cover leftover p) → ((p : ℕ) → cover more p ≡ cover all p + once i p) → (p : ℕ) → cover more p + cover rest p ≡ cover ws p + cover leftover p
worked_next ws leftover all more rest now i e sum is p =
    let c : cover now p ≡ once i p + cover rest p = ap (λ x. cover x p) e ∙ cover_cons i rest p in
    omega (arith, c, sum p, is p)

-- what the caller has worked of the rest is apart with what the workers have worked, and both tile
pub whole_again : (ws leftover mine : List Interval) → ((p : ℕ) → cover mine p ≡ cover leftover p) → Tile (ws ++ leftover) whole → Tile (ws ++ mine) whole
whole_again ws leftover mine same tile p = cover_append ws mine p ∙ ap (λ n. cover ws p + n) (same p) ∙ sym (cover_append ws leftover p) ∙ tile p

-- the upper half waits, and the lower one is finished
pub ends_pushed : (ws all ps qs rs ls ms : List Interval) (i lower upper : Interval) → Halved i lower upper → qs ≡ ps ++ upper ∷ [] → ((p : ℕ) → cover all p + cover rs p + cover ms p ≡ cover ws p + cover qs p + cover ls p + once lower p)
    → (p : ℕ) → cover all p + cover rs p + cover ms p ≡ cover ws p + cover ps p + cover ls p + once i p
ends_pushed ws all ps qs rs ls ms i lower upper h e is p = omega (arith, is p, h.all p, ap (λ x. cover x p) e, cover_push ps upper p)

-- both halves are finished
pub ends_both : (ws vs all ps qs rs ts ls ms ns : List Interval) (i lower upper back : Interval) → Halved i lower upper → back ≡ upper → qs ≡ ps
    → ((p : ℕ) → cover vs p + cover rs p + cover ms p ≡ cover ws p + cover qs p + cover ls p + once lower p)
    → ((p : ℕ) → cover all p + cover ts p + cover ns p ≡ cover vs p + cover rs p + cover ms p + once back p)
    → (p : ℕ) → cover all p + cover ts p + cover ns p ≡ cover ws p + cover ps p + cover ls p + once i p
ends_both ws vs all ps qs rs ts ls ms ns i lower upper back h e same first second p = omega (arith, first p, second p, h.all p, ap (λ j. once j p) e, ap (λ x. cover x p) same)

pub cover_short : (is : List Interval) → length is ≡ 0 → (p : ℕ) → cover is p ≡ 0
cover_short [] e p = refl
cover_short (i ∷ is) e p = absurd (omega (arith, e))

-- nothing was given at a later place
pub given_later : (place p : ℕ) → cover (given whole (suc place)) p ≡ 0
given_later place p = refl

-- what was given is what was worked and what is left over, once the deques are closed
pub closed : (first given taken worked pushed left rest both : ℕ) → given ≡ first → given + taken ≡ worked + pushed + left → pushed ≡ taken + rest → both ≡ left + rest → first ≡ worked + both
closed first given taken worked pushed left rest both e b c d = omega (arith, e, b, c, d)

-- a piece that was worked whole, or is left over: what was pushed stays
pub ends_same : (ws all pushed pushes left more : List Interval) (task lower : Interval) → lower ≡ task → pushes ≡ pushed → ((p : ℕ) → cover all p + cover more p ≡ cover ws p + cover left p + once lower p) → (p : ℕ) → cover all p + cover pushes p + cover more p ≡ cover ws p + cover pushed p + cover left p + once task p
ends_same ws all pushed pushes left more task lower whole stays did p =
    let w = ap (λ i. once i p) whole in
    let s = ap (λ xs. cover xs p) stays in
    omega (arith, w, s, did p)

-- two things that hold where a call succeeds
pub ok_both : {T E : Type 0} (r : Result T E) (P Q : T → Type 0) → IfOk r P → IfOk r Q → IfOk r (λ x. P x × Q x)
ok_both (Ok x) P Q p q = (p, q)
ok_both (Err e) P Q p q = tt
