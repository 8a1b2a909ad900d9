-- Pairs of maps of bytes.
use Prim.Native.Nat.{zero, suc}
use Rattle.std.proofs.Common.{◌≡◌, Bool, true, false, ℕ, ◌∙◌, List, [], ◌∷◌, Some, refl, sym, ap, arith}
use Rattle.std.specs.Prelude.{ℤ, cond, Contains, ◌&&◌}
use Rattle.std.specs.Cmp.{IsTotalOrder, tied_itself}
use Rattle.std.specs.Cmp.Rules.{comparing}
use Rattle.std.specs.FinMap.{is_sorted, nat_cmp-IsAntisymmetric, slice_cmp-IsAntisymmetric}
use Rattle.std.specs.declared.cmp.Ordering.{Ordering}
use Rattle.std.specs.declared.cmp.Ordering.TheVariants.{Less, Equal, Greater}
use Rattle.std.specs.FinMap.Entries.{below_all}
use Rattle.std.specs.Ordering.{is_eq, is_lt, ordering_reverse}
use Rattle.versions.specs.Map.{Map, IsMap, value_at}
use Rattle.keys.specs.Order.{bytes_cmp}

abbrev pub ScriptMap : Type 0
ScriptMap = Map (List ℕ) ℤ

pub total : IsTotalOrder bytes_cmp
total = search comparing

pub antisymmetric : (x y : List ℕ) → bytes_cmp x y ≡ Equal → x ≡ y
antisymmetric = slice_cmp-IsAntisymmetric nat_cmp-IsAntisymmetric

pub both : (a b : Bool) → (a && b) ≡ true → (a ≡ true) × (b ≡ true)
both true b e = (refl, e)
both false b e = cc

pub is_less : (o : Ordering) → is_lt o ≡ true → o ≡ Less
is_less Less e = refl
is_less Equal e = cc
is_less Greater e = cc

pub below_less : (k : List ℕ) (m : ScriptMap) (x : List ℕ × ℤ) → below_all bytes_cmp k m ≡ true → Contains m x → bytes_cmp k x.0 ≡ Less
below_less k [] x h (i, lt, is) = absurd (omega arith)
below_less k (e ∷ m) x h (zero, lt, is) =
    let p = both (is_lt (bytes_cmp k e.0)) (below_all bytes_cmp k m) h in
    ap (λ (y : List ℕ × ℤ). bytes_cmp k y.0) (sym is) ∙ is_less (bytes_cmp k e.0) p.0
below_less k (e ∷ m) x h (suc i, lt, is) =
    let p = both (is_lt (bytes_cmp k e.0)) (below_all bytes_cmp k m) h in
    below_less k m x p.1 (i, omega arith, is)

-- the keys of a map rise behind its first pair
pub rises : (e : List ℕ × ℤ) (m : ScriptMap) (x : List ℕ × ℤ) → IsMap bytes_cmp (e ∷ m) → Contains m x → bytes_cmp e.0 x.0 ≡ Less
rises e m x h c = let p = both (below_all bytes_cmp e.0 m) (is_sorted bytes_cmp m) h in below_less e.0 m x p.0 c

pub map_behind : (e : List ℕ × ℤ) (m : ScriptMap) → IsMap bytes_cmp (e ∷ m) → IsMap bytes_cmp m
map_behind e m h = let p = both (below_all bytes_cmp e.0 m) (is_sorted bytes_cmp m) h in p.1

-- a pair of a map has the value of its key
pub value_found : (m : ScriptMap) (x : List ℕ × ℤ) → IsMap bytes_cmp m → Contains m x → value_at bytes_cmp m x.0 ≡ Some x.1
value_found [] x h (i, lt, is) = absurd (omega arith)
value_found (e ∷ m) x h (zero, lt, is) =
    ap (λ (y : List ℕ × ℤ). value_at bytes_cmp (y ∷ m) x.0) is ∙ ap (λ (o : Ordering). cond (is_eq o) (Some x.1) (value_at bytes_cmp m x.0)) (tied_itself total x.0)
value_found (e ∷ m) x h (suc i, lt, is) =
    let p = both (below_all bytes_cmp e.0 m) (is_sorted bytes_cmp m) h in
    let rest : Contains m x = (i, omega arith, is) in
    let greater : bytes_cmp x.0 e.0 ≡ Greater = total.antisymm x.0 e.0 ∙ ap ordering_reverse (below_less e.0 m x p.0 rest) in
    ap (λ (o : Ordering). cond (is_eq o) (Some e.1) (value_at bytes_cmp m x.0)) greater ∙ value_found m x p.1 rest

-- a key with a value is in a pair
pub contained : (m : ScriptMap) (k : List ℕ) (v : ℤ) → value_at bytes_cmp m k ≡ Some v → Contains m (k, v)
contained [] k v e = cc
contained (x ∷ m) k v e = by (bytes_cmp k x.0) refl (λ there. contained m k v there) e
  where
    more : Contains m (k, v) → Contains (x ∷ m) (k, v)
    more (i, lt, is) = (suc i, omega arith, is)

    by : (o : Ordering) → bytes_cmp k x.0 ≡ o → (value_at bytes_cmp m k ≡ Some v → Contains m (k, v)) → cond (is_eq o) (Some x.1) (value_at bytes_cmp m k) ≡ Some v → Contains (x ∷ m) (k, v)
    by Equal same rest e =
        let key : x.0 ≡ k = sym (antisymmetric k x.0 same) in
        let value : x.1 ≡ v = cc in
        (0, omega arith, λ i. (key i, value i))
    by Less same rest e = more (rest e)
    by Greater same rest e = more (rest e)
