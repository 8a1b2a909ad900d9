-- What the words on maps keep.
use Rattle.std.proofs.Common.{◌≡◌, ℕ, ◌+◌, ◌≤◌, Bool, true, false, not, ◌&&◌, ◌||◌, ◌==◌, cond, if◌then◌else◌, is_some, length, T, [], ◌∷◌, Option, Some, None, refl, sym, ap, ◌∙◌, subst, arith}
use Rattle.std.proofs.lemmas.Bool.Decides.{nat_tests}
use Rattle.std.specs.declared.cmp.Ordering.{Ordering}
use Rattle.std.specs.declared.cmp.Ordering.TheVariants.{Less, Equal, Greater}
use Rattle.std.specs.Ordering.{eq_by_cmp, is_eq}
use Rattle.std.specs.Cmp.{IsTotalOrder, alike_right}
use Rattle.std.specs.FinMap.{is_sorted, find}
use Rattle.std.specs.FinMap.Entries.{is_sorted-put, length-put, length_without, is_sorted-where_key, find-put, find-where_key, same_entries}
use Rattle.versions.specs.Map.{Map, IsMap, IsAntisymmetric, is_other, value_at, with_pair, without}
use Rattle.versions.specs.Commands.{is_full_for}

fits_by : (is_there : Bool) (l n : ℕ) → l ≤ n → (not is_there && (l == n)) ≡ false → cond is_there l (l + 1) ≤ n
fits_by true l n fits e = fits
fits_by false l n fits e = grind (arith, nat_tests)

-- a write that was done within the room had a place for its key
pub had_room : (holds full is_there : Bool) → (holds && (not full || is_there)) ≡ true → (not is_there && full) ≡ false
had_room true true true e = refl
had_room true false true e = refl
had_room true false false e = refl
had_room true true false e = sym e
had_room false full is_there e = cc

none_of : {A : Type 0} (o : Option A) → false ≡ (is_some o && true) → o ≡ None
none_of None e = refl
none_of (Some x) e = cc

cond_not : {A : Type 0} (b : Bool) (x y : A) → cond (not b) x y ≡ cond b y x
cond_not true x y = refl
cond_not false x y = refl

true_of : (b : Bool) → T b → b ≡ true
true_of true h = refl
true_of false h = absurd h

module _ {K V : Type 0} (R : K → K → Ordering) where
  -- std's word for a list in strictly rising order
  pub sorted_of : (m : Map K V) → IsMap R m → T (is_sorted R m)
  sorted_of m h = subst T (sym h) tt

  pub with_pair_is_map : IsTotalOrder R → (m : Map K V) (k : K) (v : V) → IsMap R m → IsMap R (with_pair R m k v)
  with_pair_is_map o m k v h = true_of _ (is_sorted-put R o k v m (sorted_of m h))

  -- a put that is not refused as full stays within the limit
  pub with_pair_fits : IsTotalOrder R → (n : ℕ) (m : Map K V) (k : K) (v : V) → IsMap R m → length m ≤ n → is_full_for R n m k ≡ false → length (with_pair R m k v) ≤ n
  with_pair_fits o n m k v h fits e =
      subst (λ l. l ≤ n) (sym (length-put R o k v m (sorted_of m h))) (fits_by (is_some (value_at R m k)) (length m) n fits e)

  -- a removal stays within the limit
  pub without_fits : IsTotalOrder R → (n : ℕ) (m : Map K V) (k : K) → IsMap R m → length m ≤ n → length (without R m k) ≤ n
  without_fits o n m k h fits = omega (arith, length_without R o k m (sorted_of m h))

  absent_step : (o : Ordering) (x : K × V) (found : Option V) (m rest : Map K V) → cond (is_eq o) (Some x.1) found ≡ None → (found ≡ None → rest ≡ m) → cond (not (is_eq o)) (x ∷ rest) rest ≡ x ∷ m
  absent_step Less x found m rest e h = ap (λ r. x ∷ r) (h e)
  absent_step Equal x found m rest e h = cc
  absent_step Greater x found m rest e h = ap (λ r. x ∷ r) (h e)

  -- without a key that is not there, a map is as before
  pub without_absent : (m : Map K V) (k : K) → value_at R m k ≡ None → without R m k ≡ m
  without_absent [] k e = refl
  without_absent (x ∷ m) k e = absent_step (R k x.0) x (find R k m) m (without R m k) e (without_absent m k)

  -- a removal that is done where the key is there leaves the map without the key
  pub without_if_there : (m new : Map K V) (k : K) (done : Bool) → done ≡ (is_some (value_at R m k) && true) → new ≡ (if done then without R m k else m) → new ≡ without R m k
  without_if_there m new k true there e = e
  without_if_there m new k false there e = e ∙ sym (without_absent m k (none_of (value_at R m k) there))

  pub without_is_map : (m : Map K V) (k : K) → IsMap R m → IsMap R (without R m k)
  without_is_map m k h = true_of _ (is_sorted-where_key R (is_other R k) m (sorted_of m h))

  pub value_at-with_pair : IsTotalOrder R → (m : Map K V) (k q : K) (v : V) → value_at R (with_pair R m k v) q ≡ cond (eq_by_cmp R q k) (Some v) (value_at R m q)
  value_at-with_pair o m k q v = find-put R o q k v m

  pub value_at-without : IsTotalOrder R → (m : Map K V) (k q : K) → value_at R (without R m k) q ≡ cond (eq_by_cmp R k q) None (value_at R m q)
  value_at-without o m k q =
      find-where_key R (is_other R k) q (λ x e. ap (λ r. not (is_eq r)) (sym (alike_right o q x k e))) m
      ∙ cond_not (eq_by_cmp R k q) (value_at R m q) None

  pub same_map : IsTotalOrder R → IsAntisymmetric R → (m n : Map K V) → IsMap R m → IsMap R n → ((q : K) → value_at R m q ≡ value_at R n q) → m ≡ n
  same_map o same m n g h alike = same_entries R o same m n (sorted_of m g) (sorted_of n h) alike
