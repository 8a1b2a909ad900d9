-- Maps of images that texts tell: the images that were read are put into one answer.
use Rattle.std.proofs.Common.{◌≡◌, ◌-◌, ◌⊎◌, Bool, true, false, ℕ, ◌∙◌, inl, inr, List, [], ◌∷◌, Some, None, refl, sym, ap, subst}
use Rattle.std.specs.Prelude.{ℤ, cond, Contains, FitsSigned, T}
use Rattle.std.specs.Int.{w64}
use Rattle.std.specs.Cmp.{tied_itself}
use Rattle.std.specs.declared.cmp.Ordering.{Ordering}
use Rattle.std.specs.declared.cmp.Ordering.TheVariants.{Less, Equal, Greater}
use Rattle.std.specs.Ordering.{is_eq, eq_by_cmp}
use Rattle.std.specs.FinMap.{is_sorted}
use Rattle.std.specs.FinMap.Entries.{is_sorted-put}
use Rattle.versions.specs.Map.{IsMap, value_at, with_pair}
use Rattle.keys.specs.Order.{bytes_cmp}
use Rattle.trie_shape.specs.Listings.{IsListing}
use Rattle.script.specs.Replies.{text_of}
use Rattle.script.specs.declared.reply.LineReply.TheVariants as replies
use Rattle.bulk_work.specs.Answers.{IsImage, image}
use Rattle.audit.specs.Images.{WasRead, AreValuesInReply, HasIfRead, HasAllRead, IsPutIfRead}
use Rattle.audit.proofs.PairLemmas.{ScriptMap, total, antisymmetric, value_found, contained}
use Rattle.audit.proofs.KeyedMaps.{value_put, put_other, put_here, first_of, later_of, which_of, none_of, HasKey, same_keys, image_keys, same_map}

-- ---- the walk that puts the images that were read

true_of : (b : Bool) → T b → b ≡ true
true_of true t = refl
true_of false t = absurd t

truth_of : (b : Bool) → b ≡ true → T b
truth_of true e = tt
truth_of false e = cc

sorted_put : (m : ScriptMap) (k : List ℕ) (v : ℤ) → IsMap bytes_cmp m → IsMap bytes_cmp (with_pair bytes_cmp m k v)
sorted_put m k v h = true_of (is_sorted bytes_cmp (with_pair bytes_cmp m k v)) (is_sorted-put bytes_cmp total k v m (truth_of (is_sorted bytes_cmp m) h))

equal_of : (o : Ordering) → is_eq o ≡ true → o ≡ Equal
equal_of Less e = cc
equal_of Equal e = refl
equal_of Greater e = cc

-- a pair of a map with one more pair is that one or was there
put_pair : (m : ScriptMap) (k : List ℕ) (v : ℤ) (y : List ℕ × ℤ) → IsMap bytes_cmp m → Contains (with_pair bytes_cmp m k v) y → ((k, v) ≡ y) ⊎ Contains m y
put_pair m k v y h c = by (eq_by_cmp bytes_cmp y.0 k) refl (sym (value_put m y.0 k v) ∙ value_found (with_pair bytes_cmp m k v) y (sorted_put m k v h) c)
  where
    by : (b : Bool) → eq_by_cmp bytes_cmp y.0 k ≡ b → cond (eq_by_cmp bytes_cmp y.0 k) (Some v) (value_at bytes_cmp m y.0) ≡ Some y.1 → ((k, v) ≡ y) ⊎ Contains m y
    by true is e =
        let value : Some v ≡ Some y.1 = sym (ap (λ (b : Bool). cond b (Some v) (value_at bytes_cmp m y.0)) is) ∙ e in
        let same : v ≡ y.1 = cc in
        let key : k ≡ y.0 = sym (antisymmetric y.0 k (equal_of (bytes_cmp y.0 k) is)) in
        inl (λ i. (key i, same i))
    by false is e = inr (contained m y.0 y.1 (sym (ap (λ (b : Bool). cond b (Some v) (value_at bytes_cmp m y.0)) is) ∙ e))

-- a key that was there is there still
put_key : (m : ScriptMap) (k q : List ℕ) (v : ℤ) → IsMap bytes_cmp m → HasKey m q → HasKey (with_pair bytes_cmp m k v) q
put_key m k q v h (z, c) = by (eq_by_cmp bytes_cmp q k) refl
  where
    by : (b : Bool) → eq_by_cmp bytes_cmp q k ≡ b → HasKey (with_pair bytes_cmp m k v) q
    by true is = (v, contained (with_pair bytes_cmp m k v) q v (value_put m q k v ∙ ap (λ (b : Bool). cond b (Some v) (value_at bytes_cmp m q)) is))
    by false is = (z, contained (with_pair bytes_cmp m k v) q z (put_other m q k v is ∙ value_found m (q, z) h c))

-- an image that is put leaves a map of images
image_put : (f : List ℕ → ℤ → List ℕ × ℤ) (m w : ScriptMap) (x : List ℕ × ℤ) → IsImage bytes_cmp f m w → IsMap bytes_cmp w → Contains m x → IsImage bytes_cmp f m (with_pair bytes_cmp w (image f x).0 (image f x).1)
image_put f m w x is h c = record {
  is_map = sorted_put w (image f x).0 (image f x).1 h;
  from = λ y d. elim (put_pair w (image f x).0 (image f x).1 y h d) as (λ u. (z : List ℕ × ℤ) × Contains m z × (image f z ≡ y)) [ inl e ↦ (x, c, e) | inr there ↦ is.from y there ];
  keys = λ y d. put_key w (image f x).0 (image f y).0 (image f x).1 h (is.keys y d);
}

-- w is a map of the images of m; of each pair that was passed it has the image, if that was read
pub record IsWalked (f : List ℕ → ℤ → List ℕ × ℤ) (m told rest w : ScriptMap) : Type 0 where
  pub image : IsImage bytes_cmp f m w
  pub sorted : IsMap bytes_cmp w
  pub left : (x : List ℕ × ℤ) → Contains rest x → Contains m x
  pub passed : (x : List ℕ × ℤ) → Contains m x → Contains rest x ⊎ HasIfRead f told w x

listed_step : (y x : List ℕ × ℤ) (xs : ScriptMap) → IsListing bytes_cmp (y ∷ xs) → (y ≡ x) ⊎ Contains xs x → (Contains xs x → value_at bytes_cmp xs x.0 ≡ Some x.1) → value_at bytes_cmp (y ∷ xs) x.0 ≡ Some x.1
listed_step y x xs once (inl e) rest = subst (λ (p : List ℕ × ℤ). value_at bytes_cmp (y ∷ xs) p.0 ≡ Some p.1) e (ap (λ (o : Ordering). cond (is_eq o) (Some y.1) (value_at bytes_cmp xs y.0)) (tied_itself total y.0))
listed_step y x xs once (inr d) rest = by (eq_by_cmp bytes_cmp x.0 y.0) refl (rest d)
  where
    by : (b : Bool) → eq_by_cmp bytes_cmp x.0 y.0 ≡ b → value_at bytes_cmp xs x.0 ≡ Some x.1 → value_at bytes_cmp (y ∷ xs) x.0 ≡ Some x.1
    by true is there =
        let key : x.0 ≡ y.0 = antisymmetric x.0 y.0 (equal_of (bytes_cmp x.0 y.0) is) in
        let bad : None ≡ Some x.1 = sym once.0 ∙ ap (λ (k : List ℕ). value_at bytes_cmp xs k) (sym key) ∙ there in
        cc
    by false is there = ap (λ (b : Bool). cond b (Some y.1) (value_at bytes_cmp xs x.0)) is ∙ there

-- a pair of a list in which no key stands twice has the value of its key
listed : (xs : ScriptMap) (x : List ℕ × ℤ) → IsListing bytes_cmp xs → Contains xs x → value_at bytes_cmp xs x.0 ≡ Some x.1
listed [] x once c = absurd (none_of x c)
listed (y ∷ xs) x once c = listed_step y x xs once (which_of y x xs c) (λ d. listed xs x once.1 d)

-- a walk lists the pairs of the map
pub walk_begun : (f : List ℕ → ℤ → List ℕ × ℤ) (m told rest w : ScriptMap) → IsImage bytes_cmp f m w → IsMap bytes_cmp w → IsMap bytes_cmp m → IsListing bytes_cmp rest → ((k : List ℕ) → value_at bytes_cmp rest k ≡ value_at bytes_cmp m k) → IsWalked f m told rest w
walk_begun f m told rest w is hw hm once finds = record {
  image = is;
  sorted = hw;
  left = λ x c. contained m x.0 x.1 (sym (finds x.0) ∙ listed rest x once c);
  passed = λ x c. inl (contained rest x.0 x.1 (finds x.0 ∙ value_found m x hm c));
}

-- an image that was read is put
pub walk_put : (f : List ℕ → ℤ → List ℕ × ℤ) (m told rest w : ScriptMap) (x r : List ℕ × ℤ) → IsWalked f m told (x ∷ rest) w → r ≡ image f x → FitsSigned w64 r.1 → value_at bytes_cmp told r.0 ≡ Some r.1
    → IsWalked f m told rest (with_pair bytes_cmp w r.0 r.1)
walk_put f m told rest w x r h is fits read = subst (λ (z : List ℕ × ℤ). IsWalked f m told rest (with_pair bytes_cmp w z.0 z.1)) (sym is)
    (put (subst (λ (z : List ℕ × ℤ). FitsSigned w64 z.1) is fits) (subst (λ (z : List ℕ × ℤ). value_at bytes_cmp told z.0 ≡ Some z.1) is read))
  where
    k : List ℕ
    k = (image f x).0

    v : ℤ
    v = (image f x).1

    still : (y : List ℕ × ℤ) → value_at bytes_cmp told k ≡ Some v → HasIfRead f told w y → HasIfRead f told (with_pair bytes_cmp w k v) y
    still y here (range, has) = (range, λ there. by (eq_by_cmp bytes_cmp (image f y).0 k) refl there)
      where
        by : (b : Bool) → eq_by_cmp bytes_cmp (image f y).0 k ≡ b → value_at bytes_cmp told (image f y).0 ≡ Some (image f y).1 → value_at bytes_cmp (with_pair bytes_cmp w k v) (image f y).0 ≡ Some (image f y).1
        by true e there =
            let key : (image f y).0 ≡ k = antisymmetric (image f y).0 k (equal_of (bytes_cmp (image f y).0 k) e) in
            let same : Some v ≡ Some (image f y).1 = sym here ∙ ap (λ (q : List ℕ). value_at bytes_cmp told q) (sym key) ∙ there in
            ap (λ (q : List ℕ). value_at bytes_cmp (with_pair bytes_cmp w k v) q) key ∙ put_here w k v ∙ same
        by false e there = put_other w (image f y).0 k v e ∙ has there

    put : FitsSigned w64 v → value_at bytes_cmp told k ≡ Some v → IsWalked f m told rest (with_pair bytes_cmp w k v)
    put range here = record {
      image = image_put f m w x h.image h.sorted (h.left x (first_of x rest));
      sorted = sorted_put w k v h.sorted;
      left = λ y c. h.left y (later_of x y rest c);
      passed = λ y c. elim (h.passed y c) as (λ u. Contains rest y ⊎ HasIfRead f told (with_pair bytes_cmp w k v) y) [
        | inl d ↦ elim (which_of x y rest d) as (λ u. Contains rest y ⊎ HasIfRead f told (with_pair bytes_cmp w k v) y) [
          | inl e ↦ inr (subst (λ (z : List ℕ × ℤ). HasIfRead f told (with_pair bytes_cmp w k v) z) e (range, λ there. put_here w k v))
          | inr b ↦ inl b
        ]
        | inr has ↦ inr (still y here has)
      ];
    }

-- any other is left out
pub walk_passed : (f : List ℕ → ℤ → List ℕ × ℤ) (m told rest w : ScriptMap) (x r : List ℕ × ℤ) → IsWalked f m told (x ∷ rest) w → r ≡ image f x → FitsSigned w64 r.1 → (value_at bytes_cmp told r.0 ≡ Some r.1 → ⊥)
    → IsWalked f m told rest w
walk_passed f m told rest w x r h is fits other = record {
  image = h.image;
  sorted = h.sorted;
  left = λ y c. h.left y (later_of x y rest c);
  passed = λ y c. elim (h.passed y c) as (λ u. Contains rest y ⊎ HasIfRead f told w y) [
    | inl d ↦ elim (which_of x y rest d) as (λ u. Contains rest y ⊎ HasIfRead f told w y) [
      | inl e ↦ inr (subst (λ (z : List ℕ × ℤ). HasIfRead f told w z) e (subst (λ (z : List ℕ × ℤ). FitsSigned w64 z.1 × (value_at bytes_cmp told z.0 ≡ Some z.1 → value_at bytes_cmp w z.0 ≡ Some z.1)) is (fits, λ there. absurd (other there))))
      | inr b ↦ inl b
    ]
    | inr has ↦ inr has
  ];
}

-- all pairs were passed
pub walk_over : (f : List ℕ → ℤ → List ℕ × ℤ) (m told w : ScriptMap) → IsWalked f m told [] w → HasAllRead f m told w
walk_over f m told w h = record {
  image = h.image;
  sorted = h.sorted;
  read = λ x c. elim (h.passed x c) as (λ u. HasIfRead f told w x) [ inl d ↦ absurd (none_of x d) | inr has ↦ has ];
}

-- the key of an image is there
pub image_there : (f : List ℕ → ℤ → List ℕ × ℤ) (m told rest w : ScriptMap) (x r : List ℕ × ℤ) → IsWalked f m told (x ∷ rest) w → r ≡ image f x → value_at bytes_cmp w r.0 ≡ None → ⊥
image_there f m told rest w x r h is none =
    let k = h.image.keys x (h.left x (first_of x rest)) in
    let there : value_at bytes_cmp w (image f x).0 ≡ Some k.0 = value_found w ((image f x).0, k.0) h.sorted k.1 in
    let bad : None ≡ Some k.0 = sym none ∙ ap (λ (z : List ℕ × ℤ). value_at bytes_cmp w z.0) is ∙ there in
    cc

-- one image more
pub walk_more : (f : List ℕ → ℤ → List ℕ × ℤ) (m told rest w new : ScriptMap) (x r : List ℕ × ℤ) → IsWalked f m told (x ∷ rest) w → r ≡ image f x → FitsSigned w64 r.1 → IsPutIfRead told r w new → IsWalked f m told rest new
walk_more f m told rest w new x r h is fits (inl (read, put)) = subst (λ (n : ScriptMap). IsWalked f m told rest n) (sym put) (walk_put f m told rest w x r h is fits read)
walk_more f m told rest w new x r h is fits (inr (other, same)) = subst (λ (n : ScriptMap). IsWalked f m told rest n) (sym same) (walk_passed f m told rest w x r h is fits other)

-- ---- the map that the text shows

read_at : (told n : ScriptMap) (x : List ℕ × ℤ) → WasRead told n → Contains n x → FitsSigned w64 x.1 → value_at bytes_cmp told x.0 ≡ Some x.1
read_at told [] x read c fits = absurd (none_of x c)
read_at told (y ∷ n) x read c fits = elim (which_of y x n c) as (λ u. value_at bytes_cmp told x.0 ≡ Some x.1) [
  | inl e ↦ subst (λ (z : List ℕ × ℤ). FitsSigned w64 z.1 → value_at bytes_cmp told z.0 ≡ Some z.1) e read.0 fits
  | inr d ↦ read_at told n x read.1 d fits
]

-- the text shows no map of images but this one
pub only_images : (f : List ℕ → ℤ → List ℕ × ℤ) (m some told w n : ScriptMap) (reply : List ℕ) → IsImage bytes_cmp f m some → IsMap bytes_cmp some → AreValuesInReply some reply told → HasAllRead f m told w
    → IsImage bytes_cmp f m n → IsMap bytes_cmp n → reply ≡ text_of (replies.Pairs n) → n ≡ w
only_images f m some told w n reply is hs values all image hn e =
    let keys = same_keys n some hn hs (image_keys f m n some image is) (image_keys f m some n is image) in
    let read = values n hn keys e in
    same_map n w hn (same_keys n w hn all.sorted (image_keys f m n w image all.image) (image_keys f m w n all.image image)) (λ x c.
    let y = image.from x c in
    let has : FitsSigned w64 x.1 × (value_at bytes_cmp told x.0 ≡ Some x.1 → value_at bytes_cmp w x.0 ≡ Some x.1)
    = subst (λ (z : List ℕ × ℤ). FitsSigned w64 z.1 × (value_at bytes_cmp told z.0 ≡ Some z.1 → value_at bytes_cmp w z.0 ≡ Some z.1)) y.2 (all.read y.0 y.1) in
    has.1 (read_at told n x read c has.0))
