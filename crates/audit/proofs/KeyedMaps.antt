-- Maps by their keys, and the text of their pairs.
use Prim.Native.Nat.{zero, suc}
use Rattle.std.proofs.Common.{◌≡◌, ◌+◌, ◌-◌, ◌⊎◌, Bool, false, ℕ, ◌∙◌, inl, inr, List, [], ◌∷◌, ◌++◌, Option, Some, refl, sym, ap, subst, arith, append_assoc}
use Rattle.std.specs.Prelude.{ℤ, cond, Contains, FitsSigned, flat_map}
use Rattle.std.specs.Int.{w64}
use Rattle.std.specs.Fmt.{signed_decimal}
use Rattle.std.proofs.lemmas.Fmt.{signed_decimal_injective}
use Rattle.std.specs.Cmp.{tied_itself}
use Rattle.std.specs.declared.cmp.Ordering.{Ordering}
use Rattle.std.specs.declared.cmp.Ordering.TheVariants.{Less, Equal, Greater}
use Rattle.std.specs.Ordering.{is_eq, ordering_reverse, eq_by_cmp}
use Rattle.std.specs.BTreeMap.{insert_entry, is_at}
use Rattle.std.specs.Map.{lookup}
use Rattle.std.specs.FinMap.Entries.{find-put}
use Rattle.versions.specs.Map.{IsMap, value_at, with_pair}
use Rattle.keys.specs.Order.{bytes_cmp}
use Rattle.script.specs.Replies.{pair_text}
use Rattle.script.proofs.ListingLemmas.{inserted}
use Rattle.bulk_work.specs.Answers.{IsImage}
use Rattle.audit.specs.ReplyParts.{IsSpaceless}
use Rattle.audit.specs.Images.{StartsSpaced, HaveSameKeys}
use Rattle.audit.proofs.SpaceLemmas.{signed_spaceless}
use Rattle.audit.proofs.PairLemmas.{ScriptMap, total, antisymmetric, rises, map_behind}

-- ---- tree maps as maps

-- an insert into a tree map puts a pair into a map
pub insert_put : (es : ScriptMap) (k : List ℕ) (v : ℤ) → insert_entry bytes_cmp es k v ≡ with_pair bytes_cmp es k v
insert_put es k v = inserted bytes_cmp es k v

-- what a tree map finds at a key is its value
pub found_at : (es : ScriptMap) (k : List ℕ) → lookup (is_at (bytes_cmp k)) es ≡ value_at bytes_cmp es k
found_at [] k = refl
found_at (e ∷ es) k = ap (λ (rest : Option ℤ). cond (is_eq (bytes_cmp k e.0)) (Some e.1) rest) (found_at es k)

-- ---- puts

pub value_put : (m : ScriptMap) (q k : List ℕ) (v : ℤ) → value_at bytes_cmp (with_pair bytes_cmp m k v) q ≡ cond (eq_by_cmp bytes_cmp q k) (Some v) (value_at bytes_cmp m q)
value_put m q k v = find-put bytes_cmp total q k v m

pub put_other : (m : ScriptMap) (q k : List ℕ) (v : ℤ) → eq_by_cmp bytes_cmp q k ≡ false → value_at bytes_cmp (with_pair bytes_cmp m k v) q ≡ value_at bytes_cmp m q
put_other m q k v other = value_put m q k v ∙ ap (λ (b : Bool). cond b (Some v) (value_at bytes_cmp m q)) other

pub put_here : (m : ScriptMap) (k : List ℕ) (v : ℤ) → value_at bytes_cmp (with_pair bytes_cmp m k v) k ≡ Some v
put_here m k v = value_put m k k v ∙ ap (λ (o : Ordering). cond (is_eq o) (Some v) (value_at bytes_cmp m k)) (tied_itself total k)

-- ---- elements of lists

pub first_of : {A : Type 0} (x : A) (xs : List A) → Contains (x ∷ xs) x
first_of x xs = (0, omega arith, refl)

pub later_of : {A : Type 0} (x y : A) (xs : List A) → Contains xs y → Contains (x ∷ xs) y
later_of x y xs (k, lt, e) = (suc k, omega arith, e)

pub which_of : {A : Type 0} (x y : A) (xs : List A) → Contains (x ∷ xs) y → (x ≡ y) ⊎ Contains xs y
which_of x y xs (zero, lt, e) = inl e
which_of x y xs (suc k, lt, e) = inr (k, omega arith, e)

pub none_of : {A : Type 0} (y : A) → Contains [] y → ⊥
none_of y c = omega (arith, c.1)

-- ---- keys

-- the map has the key
abbrev pub HasKey : ScriptMap → List ℕ → Type 0
HasKey m k = (v : ℤ) × Contains m (k, v)

less_equal : Less ≡ Equal → ⊥
less_equal e = cc

-- no key is below itself
pub not_below : (k l : List ℕ) → k ≡ l → bytes_cmp k l ≡ Less → ⊥
not_below k l same less = less_equal (sym less ∙ ap (λ (x : List ℕ). bytes_cmp k x) (sym same) ∙ tied_itself total k)

-- of two keys none is below the other and above it
not_both : (k l : List ℕ) → bytes_cmp k l ≡ Less → bytes_cmp l k ≡ Less → ⊥
not_both k l less more = let bad : Less ≡ Greater = sym more ∙ total.antisymm l k ∙ ap ordering_reverse less in cc

behind_key : (x : List ℕ × ℤ) (m : ScriptMap) (k : List ℕ) → HasKey (x ∷ m) k → (x.0 ≡ k → ⊥) → HasKey m k
behind_key x m k (v, c) other = by (which_of x (k, v) m c)
  where
    by : (x ≡ (k, v)) ⊎ Contains m (k, v) → HasKey m k
    by (inl e) = absurd (other (ap (λ (y : List ℕ × ℤ). y.0) e))
    by (inr d) = (v, d)

-- each key of the one map is a key of the other
abbrev pub HasKeysOf : ScriptMap → ScriptMap → Type 0
HasKeysOf w n = (x : List ℕ × ℤ) → Contains n x → HasKey w x.0

-- the first keys of maps with the same keys are one
same_first : (x y : List ℕ × ℤ) (n w : ScriptMap) → IsMap bytes_cmp (x ∷ n) → IsMap bytes_cmp (y ∷ w) → HasKeysOf (y ∷ w) (x ∷ n) → HasKeysOf (x ∷ n) (y ∷ w) → x.0 ≡ y.0
same_first x y n w hn hw there back = by (bytes_cmp x.0 y.0) refl
  where
    by : (o : Ordering) → bytes_cmp x.0 y.0 ≡ o → x.0 ≡ y.0
    by Equal is = antisymmetric x.0 y.0 is
    by Less is =
        let k = behind_key y w x.0 (there x (first_of x n)) (λ same. not_below x.0 y.0 (sym same) is) in
        absurd (not_both x.0 y.0 is (rises y w (x.0, k.0) hw k.1))
    by Greater is =
        let less : bytes_cmp y.0 x.0 ≡ Less = total.antisymm y.0 x.0 ∙ ap ordering_reverse is in
        let k = behind_key x n y.0 (back y (first_of y w)) (λ same. not_below y.0 x.0 (sym same) less) in
        absurd (not_both y.0 x.0 less (rises x n (y.0, k.0) hn k.1))

keys_behind : (x y : List ℕ × ℤ) (n w : ScriptMap) → IsMap bytes_cmp (x ∷ n) → x.0 ≡ y.0 → HasKeysOf (y ∷ w) (x ∷ n) → HasKeysOf w n
keys_behind x y n w hn same there z c = behind_key y w z.0 (there z (later_of x z n c)) (λ e. not_below x.0 z.0 (same ∙ e) (rises x n z hn c))

-- maps with the same keys have them in the same order
pub same_keys : (n w : ScriptMap) → IsMap bytes_cmp n → IsMap bytes_cmp w → HasKeysOf w n → HasKeysOf n w → HaveSameKeys n w
same_keys [] [] hn hw there back = tt
same_keys [] (y ∷ w) hn hw there back = none_of _ (back y (first_of y w)).1
same_keys (x ∷ n) [] hn hw there back = none_of _ (there x (first_of x n)).1
same_keys (x ∷ n) (y ∷ w) hn hw there back =
    let same = same_first x y n w hn hw there back in
    (same, same_keys n w (map_behind x n hn) (map_behind y w hw) (keys_behind x y n w hn same there) (keys_behind y x w n hw (sym same) back))

-- all maps of the images of one map have the same keys
pub image_keys : (f : List ℕ → ℤ → List ℕ × ℤ) (m n w : ScriptMap) → IsImage bytes_cmp f m n → IsImage bytes_cmp f m w → HasKeysOf w n
image_keys f m n w is other x c = let y = is.from x c in subst (λ (z : List ℕ × ℤ). HasKey w z.0) y.2 (other.keys y.0 y.1)

-- a map with the same keys that has each pair of the other is the other
pub same_map : (n w : ScriptMap) → IsMap bytes_cmp n → HaveSameKeys n w → ((x : List ℕ × ℤ) → Contains n x → value_at bytes_cmp w x.0 ≡ Some x.1) → n ≡ w
same_map [] [] hn keys there = refl
same_map [] (y ∷ w) hn keys there = absurd keys
same_map (x ∷ n) [] hn keys there = absurd keys
same_map (x ∷ n) (y ∷ w) hn (same, keys) there =
    let here : cond (is_eq (bytes_cmp x.0 y.0)) (Some y.1) (value_at bytes_cmp w x.0) ≡ Some x.1 = there x (first_of x n) in
    let tied : bytes_cmp x.0 y.0 ≡ Equal = ap (λ (k : List ℕ). bytes_cmp x.0 k) (sym same) ∙ tied_itself total x.0 in
    let found : Some y.1 ≡ Some x.1 = sym (ap (λ (o : Ordering). cond (is_eq o) (Some y.1) (value_at bytes_cmp w x.0)) tied) ∙ here in
    let value : x.1 ≡ y.1 = cc in
    let rest : n ≡ w = same_map n w (map_behind x n hn) keys (λ z c.
    let greater : bytes_cmp z.0 y.0 ≡ Greater = ap (λ (k : List ℕ). bytes_cmp z.0 k) (sym same) ∙ total.antisymm z.0 x.0 ∙ ap ordering_reverse (rises x n z hn c) in
    sym (ap (λ (o : Ordering). cond (is_eq o) (Some y.1) (value_at bytes_cmp w z.0)) greater) ∙ there z (later_of x z n c))
    in
    λ i. (same i, value i) ∷ rest i

-- ---- the text of pairs

pub spaced_pairs : (n : ScriptMap) → StartsSpaced (flat_map pair_text n)
spaced_pairs [] = tt
spaced_pairs (x ∷ n) = refl

-- texts parted at the first space are parted in one way
pub one_parted : (v w r s : List ℕ) → IsSpaceless v → IsSpaceless w → StartsSpaced r → StartsSpaced s → v ++ r ≡ w ++ s → (v ≡ w) × (r ≡ s)
one_parted [] [] r s hv hw hr hs e = (refl, e)
one_parted [] (c ∷ w) [] s hv hw hr hs e = cc
one_parted [] (c ∷ w) (b ∷ r) s hv hw hr hs e = let same : b ≡ c = cc in absurd (hw.0 (sym same ∙ hr))
one_parted (b ∷ v) [] r [] hv hw hr hs e = cc
one_parted (b ∷ v) [] r (c ∷ s) hv hw hr hs e = let same : b ≡ c = cc in absurd (hv.0 (same ∙ hs))
one_parted (b ∷ v) (c ∷ w) r s hv hw hr hs e =
    let head : b ≡ c = cc in
    let tail : v ++ r ≡ w ++ s = cc in
    let rest = one_parted v w r s hv.1 hw.1 hr hs tail in
    ((λ i. head i ∷ rest.0 i), rest.1)

cut : (k a b : List ℕ) → k ++ a ≡ k ++ b → a ≡ b
cut [] a b e = e
cut (x ∷ k) a b e = let rest : k ++ a ≡ k ++ b = cc in cut k a b rest

-- how the text of pairs begins
pub pairs_text : (x : List ℕ × ℤ) (n : ScriptMap) → flat_map pair_text (x ∷ n) ≡ 32 ∷ x.0 ++ (61 ∷ signed_decimal x.1 ++ flat_map pair_text n)
pairs_text x n = ap (λ (t : List ℕ). 32 ∷ t) (append_assoc x.0 (61 ∷ signed_decimal x.1) (flat_map pair_text n))

-- each value is in the range of i64
abbrev pub AllFit : ScriptMap → Type 0
AllFit [] = Unit {0}
AllFit (x ∷ n) = FitsSigned w64 x.1 × AllFit n

-- maps with the same keys and the same text are one
pub same_text : (n w : ScriptMap) → HaveSameKeys n w → AllFit n → AllFit w → flat_map pair_text n ≡ flat_map pair_text w → n ≡ w
same_text [] [] keys fn fw e = refl
same_text [] (y ∷ w) keys fn fw e = absurd keys
same_text (x ∷ n) [] keys fn fw e = absurd keys
same_text (x ∷ n) (y ∷ w) (same, keys) fn fw e =
    let texts : 32 ∷ x.0 ++ (61 ∷ signed_decimal x.1 ++ flat_map pair_text n) ≡ 32 ∷ y.0 ++ (61 ∷ signed_decimal y.1 ++ flat_map pair_text w) = sym (pairs_text x n) ∙ e ∙ pairs_text y w in
    let behind : x.0 ++ (61 ∷ signed_decimal x.1 ++ flat_map pair_text n) ≡ y.0 ++ (61 ∷ signed_decimal y.1 ++ flat_map pair_text w) = cc in
    let keyed = behind ∙ ap (λ (k : List ℕ). k ++ (61 ∷ signed_decimal y.1 ++ flat_map pair_text w)) (sym same) in
    let valued = cut x.0 (61 ∷ signed_decimal x.1 ++ flat_map pair_text n) (61 ∷ signed_decimal y.1 ++ flat_map pair_text w) keyed in
    let told : signed_decimal x.1 ++ flat_map pair_text n ≡ signed_decimal y.1 ++ flat_map pair_text w = cc in
    let p = one_parted (signed_decimal x.1) (signed_decimal y.1) (flat_map pair_text n) (flat_map pair_text w) (signed_spaceless x.1) (signed_spaceless y.1) (spaced_pairs n) (spaced_pairs w) told in
    let value : x.1 ≡ y.1 = signed_decimal_injective x.1 y.1 fn.0.sfits fw.0.sfits p.0 in
    let rest : n ≡ w = same_text n w keys fn.1 fw.1 p.1 in
    λ i. (same i, value i) ∷ rest i
