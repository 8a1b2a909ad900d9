-- How two maps of counts are put together, row by row.
use Rattle.std.proofs.Common.{◌≡◌, ℕ, ◌+◌, T, Bool, true, false, cond, [], ◌∷◌, ◌++◌, Option, Some, None, append_assoc, append-nil, refl, sym, ap, ◌∙◌, subst, arith}
use Rattle.std.specs.Option.{option_or}
use Rattle.std.specs.declared.cmp.Ordering.{Ordering}
use Rattle.std.specs.declared.cmp.Ordering.TheVariants.{Less, Equal, Greater}
use Rattle.std.specs.Ordering.{is_eq, is_lt, eq_by_cmp, ordering_reverse}
use Rattle.std.specs.Cmp.{IsTotalOrder}
use Rattle.std.specs.FinMap.{find, is_sorted}
use Rattle.std.specs.FinMap.Entries.{below_all}
use Rattle.versions.specs.Map.{Map, IsMap}
use Rattle.group_counts.specs.Counts.{IsSum, added, total}
use Rattle.group_counts.specs.Joining.{Joining, TakesRow}
use Rattle.bulk_work.proofs.Unions.{and_of, below_less, left_of, true_of, truth_of}
use Rattle.group_counts.proofs.Lists.{absent_tied, end_rises, find-append, same_rises, woven}

added_none : (a : Option ℕ) → added a None ≡ a
added_none None = refl
added_none (Some n) = refl

added_comm : (a b : Option ℕ) → added a b ≡ added b a
added_comm None None = refl
added_comm None (Some b) = refl
added_comm (Some a) None = refl
added_comm (Some a) (Some b) = ap Some (omega arith)

or_assoc : (a b c : Option ℕ) → option_or (option_or a b) c ≡ option_or a (option_or b c)
or_assoc None b c = refl
or_assoc (Some a) b c = refl

pub equal_of : (r : Ordering) → is_eq r ≡ true → r ≡ Equal
equal_of Less e = absurd (subst T (sym e) tt)
equal_of Equal e = refl
equal_of Greater e = absurd (subst T (sym e) tt)

pub total-append : {G : Type 0} (m n : Map G ℕ) → total (m ++ n) ≡ total m + total n
total-append [] n = omega arith
total-append (x ∷ m) n = omega (arith, total-append m n)

module _ {G : Type 0} (R : G → G → Ordering) where
  -- no row is put together yet
  pub starts : (a b : Map G ℕ) → IsMap R a → IsMap R b → Joining R a b [] a b
  starts a b h k = record { left_rises = truth_of _ h; right_rises = truth_of _ k; all = omega arith; each = λ g. refl }

  -- all rows are
  pub ends : (a b done : Map G ℕ) → Joining R a b done [] [] → IsSum R a b done
  ends a b done j = record {
    rising = true_of _ (subst (λ m. T (is_sorted R m)) (append-nil done) j.left_rises);
    all = omega (arith, j.all);
    each = λ g. none_behind (find R g done) ∙ j.each g;
  }
    where
      none_behind : (a : Option ℕ) → a ≡ option_or a None
      none_behind None = refl
      none_behind (Some n) = refl

  swapped : (a b done left right : Map G ℕ) → Joining R a b done left right → Joining R b a done right left
  swapped a b done left right j = record {
    left_rises = j.right_rises;
    right_rises = j.left_rises;
    all = omega (arith, j.all);
    each = λ g. ap (option_or (find R g done)) (added_comm (find R g right) (find R g left)) ∙ j.each g ∙ added_comm (find R g a) (find R g b);
  }

  -- the value of g among the rows that are put together, with one more
  step : (g : G) (done left right left_rest right_rest : Map G ℕ) (row : G × ℕ)
      → option_or (find R g (row ∷ [])) (added (find R g left_rest) (find R g right_rest)) ≡ added (find R g left) (find R g right)
      → option_or (find R g (done ++ row ∷ [])) (added (find R g left_rest) (find R g right_rest)) ≡ option_or (find R g done) (added (find R g left) (find R g right))
  step g done left right left_rest right_rest row e =
      ap (λ x. option_or x (added (find R g left_rest) (find R g right_rest))) (find-append R g done (row ∷ []))
      ∙ or_assoc (find R g done) (find R g (row ∷ [])) (added (find R g left_rest) (find R g right_rest))
      ∙ ap (option_or (find R g done)) e

  behind : (done rest : Map G ℕ) (row : G × ℕ) → T (is_sorted R (done ++ row ∷ rest)) → T (is_sorted R ((done ++ row ∷ []) ++ rest))
  behind done rest row h = subst (λ m. T (is_sorted R m)) (sym (append_assoc done (row ∷ []) rest)) h

  module _ (o : IsTotalOrder R) where
    -- a row of the left map whose group is below all of the right one
    pub takes_left : (x : G × ℕ) (left right : Map G ℕ) → (T (is_sorted R right) → T (below_all R x.0 right)) → TakesRow R (x ∷ left) right x left right
    takes_left x left right below a b done j =
        let under = below (end_rises R done right j.right_rises) in
        record {
          left_rises = behind done left x j.left_rises;
          right_rises = behind done right x (woven R x done left right j.left_rises j.right_rises under);
          all = omega (arith, j.all, total-append done (x ∷ []));
          each = λ g. step g done (x ∷ left) right left right x (here g under) ∙ j.each g;
        }
      where
        here : (g : G) → T (below_all R x.0 right) → option_or (find R g (x ∷ [])) (added (find R g left) (find R g right)) ≡ added (find R g (x ∷ left)) (find R g right)
        here g under =
            elim (eq_by_cmp R g x.0) as (λ t. eq_by_cmp R g x.0 ≡ t → option_or (cond t (Some x.1) None) (added (find R g left) (find R g right)) ≡ added (cond t (Some x.1) (find R g left)) (find R g right)) [
              | true ↦ λ e. ap (added (Some x.1)) (sym (absent_tied R o g x.0 right (equal_of _ e) under))
              | false ↦ λ e. refl
            ] refl

    -- a row of the right map whose group is below all of the left one
    pub takes_right : (y : G × ℕ) (left right : Map G ℕ) → (T (is_sorted R left) → T (below_all R y.0 left)) → TakesRow R left (y ∷ right) y left right
    takes_right y left right below a b done j =
        swapped b a (done ++ y ∷ []) right left (takes_left y right left below b a done (swapped a b done left (y ∷ right) j))

    -- a row of each map, of one group
    pub takes_both : (exact : (x y : G) → R x y ≡ Equal → x ≡ y) (x y : G × ℕ) (left right : Map G ℕ) → R x.0 y.0 ≡ Equal → TakesRow R (x ∷ left) (y ∷ right) (x.0, x.1 + y.1) left right
    takes_both exact x y left right tie a b done j =
        let group = exact x.0 y.0 tie in
        let row : G × ℕ = (x.0, x.1 + y.1) in
        record {
          left_rises = behind done left row (same_rises R x.0 x.1 (x.1 + y.1) done left j.left_rises);
          right_rises = behind done right row (subst (λ g. T (is_sorted R (done ++ (g, x.1 + y.1) ∷ right))) (sym group) (same_rises R y.0 y.1 (x.1 + y.1) done right j.right_rises));
          all = omega (arith, j.all, total-append done (row ∷ []));
          each = λ g. step g done (x ∷ left) (y ∷ right) left right row (here g group) ∙ j.each g;
        }
      where
        both : (t : Bool) (l r : Option ℕ) → option_or (cond t (Some (x.1 + y.1)) None) (added l r) ≡ added (cond t (Some x.1) l) (cond t (Some y.1) r)
        both true l r = refl
        both false l r = refl

        here : (g : G) → x.0 ≡ y.0 → option_or (find R g ((x.0, x.1 + y.1) ∷ [])) (added (find R g left) (find R g right)) ≡ added (find R g (x ∷ left)) (find R g (y ∷ right))
        here g group =
            both (eq_by_cmp R g x.0) (find R g left) (find R g right)
            ∙ ap (λ k. added (find R g (x ∷ left)) (cond (eq_by_cmp R g k) (Some y.1) (find R g right))) group

    -- a group below the first of a map in order is below all of it
    pub below_first : (k : G) (y : G × ℕ) (m : Map G ℕ) → R k y.0 ≡ Less → T (is_sorted R (y ∷ m)) → T (below_all R k (y ∷ m))
    below_first k y m e h = and_of _ _ (subst (λ r. T (is_lt r)) (sym e) tt) (below_less R o k y.0 m e (left_of _ _ h))

-- the row that is next, of lists that are read from their fronts
module _ {G : Type 0} (R : G → G → Ordering) (o : IsTotalOrder R) where
  -- k is below all groups of a map in order
  abbrev pub IsBelow : G → Map G ℕ → Type 0
  IsBelow k m = T (is_sorted R m) → T (below_all R k m)

  pub below_nothing : (k : G) (m : Map G ℕ) → m ≡ [] → IsBelow k m
  below_nothing k m e = subst (IsBelow k) (sym e) (λ h. tt)

  pub below_head : (k : G) (m : Map G ℕ) (y : G × ℕ) (rest : Map G ℕ) → m ≡ y ∷ rest → R k y.0 ≡ Less → IsBelow k m
  below_head k m y rest e less = subst (IsBelow k) (sym e) (below_first R o k y rest less)

  pub next_left : (left right rest : Map G ℕ) (x row : G × ℕ) → left ≡ x ∷ rest → row ≡ x → IsBelow x.0 right → TakesRow R left right row rest right
  next_left left right rest x row e is below =
      subst (λ m. TakesRow R m right row rest right) (sym e) (subst (λ y. TakesRow R (x ∷ rest) right y rest right) (sym is) (takes_left R o x rest right below))

  pub next_right : (left right rest : Map G ℕ) (y row : G × ℕ) → right ≡ y ∷ rest → row ≡ y → IsBelow y.0 left → TakesRow R left right row left rest
  next_right left right rest y row e is below =
      subst (λ m. TakesRow R left m row left rest) (sym e) (subst (λ x. TakesRow R left (y ∷ rest) x left rest) (sym is) (takes_right R o y left rest below))

  pub next_both : (exact : (x y : G) → R x y ≡ Equal → x ≡ y) (left right left_rest right_rest : Map G ℕ) (x y row : G × ℕ) → left ≡ x ∷ left_rest → right ≡ y ∷ right_rest → R x.0 y.0 ≡ Equal → row ≡ (x.0, x.1 + y.1) → TakesRow R left right row left_rest right_rest
  next_both exact left right left_rest right_rest x y row e f tie is =
      subst (λ m. TakesRow R m right row left_rest right_rest) (sym e) (subst (λ m. TakesRow R (x ∷ left_rest) m row left_rest right_rest) (sym f)
      (subst (λ z. TakesRow R (x ∷ left_rest) (y ∷ right_rest) z left_rest right_rest) (sym is) (takes_both R o exact x y left_rest right_rest tie)))

  pub after_turned : (x y : G) → R x y ≡ Greater → R y x ≡ Less
  after_turned x y e = o.antisymm y x ∙ ap ordering_reverse e
