-- The values that a text tells, read along the keys of an answer.
use Rattle.std.proofs.Common.{◌≡◌, ◌≢◌, ◌≤◌, ◌+◌, ◌-◌, length, drop, take, Bool, true, false, ℕ, ◌∙◌, inl, inr, List, [], ◌∷◌, ◌++◌, Option, Some, None, refl, sym, ap, subst, arith, append_assoc}
use Rattle.std.specs.Prelude.{ℤ, Contains, FitsSigned, codes, flat_map, ◌==◌, ◌&&◌, MatchOption}
use Rattle.std.specs.Int.{w64}
use Rattle.std.specs.Fmt.{signed_decimal}
use Rattle.std.proofs.lemmas.Fmt.{signed_decimal_injective}
use Rattle.std.proofs.lemmas.Bool.Decides.{nat_tests}
use Rattle.std.specs.declared.cmp.Ordering.{Ordering}
use Rattle.std.specs.declared.cmp.Ordering.TheVariants.{Less}
use Rattle.std.specs.Ordering.{is_eq, eq_by_cmp}
use Rattle.std.specs.Cmp.Lexicographic.{pointwise}
use Rattle.versions.specs.Map.{IsMap, value_at, with_pair}
use Rattle.keys.specs.Order.{bytes_cmp}
use Rattle.script.specs.Replies.{pair_text, text_of}
use Rattle.script.specs.declared.reply.LineReply.TheVariants as replies
use Rattle.audit.specs.ReplyParts.{IsSpaceless}
use Rattle.audit.specs.Images.{StartsSpaced, IsParted, IsValueOf, HasNoValue, HaveSameKeys, WasRead, AreValuesInReply, IsBehind, IsFromSpace, IsReadInto, LacksBehind}
use Rattle.audit.proofs.SpaceLemmas.{signed_spaceless}
use Rattle.audit.proofs.PairLemmas.{ScriptMap, rises, map_behind}
use Rattle.audit.proofs.KeyedMaps.{put_other, put_here, first_of, later_of, spaced_pairs, one_parted, pairs_text}

-- ---- what is read along the keys

-- no space was passed so far
pub record HasPassedOn (bytes left : List ℕ) : Type 0 where
  pub passed : List ℕ
  pub spaceless : IsSpaceless passed
  pub all : bytes ≡ passed ++ left

-- what was read of a map that the text tells, and what is left of it
pub record Follows (n todo told : ScriptMap) (left : List ℕ) : Type 0 where
  pub done : ScriptMap
  pub behind : ScriptMap
  pub all : n ≡ done ++ behind
  pub keys : HaveSameKeys behind todo
  pub text : left ≡ flat_map pair_text behind
  pub read : WasRead told done

-- so it is of each map with the keys of w that the text tells
abbrev pub IsFollowed : ScriptMap → List ℕ → ScriptMap → ScriptMap → List ℕ → Type 0
IsFollowed w reply todo told left = (n : ScriptMap) → IsMap bytes_cmp n → HaveSameKeys n w → reply ≡ text_of (replies.Pairs n) → Follows n todo told left

-- a text that does not begin so tells no map
pub no_pairs : (w told : ScriptMap) (reply : List ℕ) → pointwise ◌==◌ (take 5 reply) (codes "pairs") ≡ false → AreValuesInReply w reply told
no_pairs w told reply h n hn keys e = let bad : true ≡ false = ap (λ (r : List ℕ). pointwise ◌==◌ (take 5 r) (codes "pairs")) (sym e) ∙ h in cc

pub reading_begun : (w : ScriptMap) (reply left : List ℕ) → left ≡ drop 5 reply → IsFollowed w reply w [] left
reading_begun w reply left is n hn keys e = record { done = []; behind = n; all = refl; keys = keys; text = is ∙ ap (λ (r : List ℕ). drop 5 r) e; read = tt }

-- a pair with the key stands first in what is left
first_left : (k : List ℕ) (v : ℤ) (n todo told : ScriptMap) (left : List ℕ) (f : Follows n ((k, v) ∷ todo) told left)
    → (z : ℤ) × (rest : ScriptMap) × (n ≡ f.done ++ (k, z) ∷ rest) × HaveSameKeys rest todo × (left ≡ 32 ∷ k ++ (61 ∷ signed_decimal z ++ flat_map pair_text rest))
first_left k v n todo told left f = by f.behind f.all f.keys f.text
  where
    by : (behind : ScriptMap) → n ≡ f.done ++ behind → HaveSameKeys behind ((k, v) ∷ todo) → left ≡ flat_map pair_text behind
        → (z : ℤ) × (rest : ScriptMap) × (n ≡ f.done ++ (k, z) ∷ rest) × HaveSameKeys rest todo × (left ≡ 32 ∷ k ++ (61 ∷ signed_decimal z ++ flat_map pair_text rest))
    by [] all keys text = absurd keys
    by (x ∷ rest) all keys text = (
      x.1,
      rest,
      all ∙ ap (λ (key : List ℕ). f.done ++ (key, x.1) ∷ rest) keys.0,
      keys.1,
      text ∙ pairs_text x rest ∙ ap (λ (key : List ℕ). 32 ∷ key ++ (61 ∷ signed_decimal x.1 ++ flat_map pair_text rest)) keys.0,
    )

-- where no pair of the key stands first, the text shows no such map
pub none_left : (k : List ℕ) (v : ℤ) (w todo told : ScriptMap) (reply left : List ℕ) → IsFollowed w reply ((k, v) ∷ todo) told left → HasNoValue k left → AreValuesInReply w reply told
none_left k v w todo told reply left h none n hn keys e =
    let p = first_left k v n todo told left (h n hn keys e) in
    absurd (none (signed_decimal p.0) (flat_map pair_text p.1) (signed_spaceless p.0) (spaced_pairs p.1) p.4)

-- keys that stand before one are below it
before_last : (d x : List ℕ × ℤ) (done rest : ScriptMap) → IsMap bytes_cmp ((d ∷ done) ++ x ∷ rest) → bytes_cmp d.0 x.0 ≡ Less
before_last d x done rest h = rises d (done ++ x ∷ rest) x h (among done)
  where
    among : (front : ScriptMap) → Contains (front ++ x ∷ rest) x
    among [] = first_of x rest
    among (y ∷ front) = later_of y x (front ++ x ∷ rest) (among front)

still_read : (told done rest : ScriptMap) (x : List ℕ × ℤ) (v : ℤ) → IsMap bytes_cmp (done ++ x ∷ rest) → WasRead told done → WasRead (with_pair bytes_cmp told x.0 v) done
still_read told [] rest x v hn read = tt
still_read told (d ∷ done) rest x v hn read =
    let other : eq_by_cmp bytes_cmp d.0 x.0 ≡ false = ap (λ (o : Ordering). is_eq o) (before_last d x done rest hn) in
    ((λ fits. put_other told d.0 x.0 v other ∙ read.0 fits), still_read told done rest x v (map_behind d (done ++ x ∷ rest) hn) read.1)

read_more : (told done : ScriptMap) (x : List ℕ × ℤ) → WasRead told done → (FitsSigned w64 x.1 → value_at bytes_cmp told x.0 ≡ Some x.1) → WasRead told (done ++ x ∷ [])
read_more told [] x read here = (here, tt)
read_more told (d ∷ done) x read here = (read.0, read_more told done x read.1 here)

-- a pair whose value was read
pub one_read : (k : List ℕ) (v z : ℤ) (w todo told : ScriptMap) (reply left value behind : List ℕ) → IsFollowed w reply ((k, v) ∷ todo) told left → IsValueOf k left value behind → FitsSigned w64 z → value ≡ signed_decimal z
    → IsFollowed w reply todo (with_pair bytes_cmp told k z) behind
one_read k v z w todo told reply left value behind h is fits spelled n hn keys e =
    let f = h n hn keys e in
    let p = first_left k v n todo told left f in
    let q = is (signed_decimal p.0) (flat_map pair_text p.1) (signed_spaceless p.0) (spaced_pairs p.1) p.4 in
    let sorted = subst (IsMap bytes_cmp) p.2 hn in
    record {
      done = f.done ++ (k, p.0) ∷ [];
      behind = p.1;
      all = p.2 ∙ sym (append_assoc f.done ((k, p.0) ∷ []) p.1);
      keys = p.3;
      text = sym q.1;
      read = read_more (with_pair bytes_cmp told k z) f.done (k, p.0) (still_read told f.done p.1 (k, p.0) z sorted f.read)
          (λ range. put_here told k z ∙ ap (λ (x : ℤ). Some x) (signed_decimal_injective z p.0 fits.sfits range.sfits (sym spelled ∙ sym q.0)));
    }

-- a pair whose value is out of range
pub none_read : (k : List ℕ) (v : ℤ) (w todo told : ScriptMap) (reply left value behind : List ℕ) → IsFollowed w reply ((k, v) ∷ todo) told left → IsValueOf k left value behind → ((z : ℤ) → FitsSigned w64 z → value ≢ signed_decimal z)
    → IsFollowed w reply todo told behind
none_read k v w todo told reply left value behind h is none n hn keys e =
    let f = h n hn keys e in
    let p = first_left k v n todo told left f in
    let q = is (signed_decimal p.0) (flat_map pair_text p.1) (signed_spaceless p.0) (spaced_pairs p.1) p.4 in
    record {
      done = f.done ++ (k, p.0) ∷ [];
      behind = p.1;
      all = p.2 ∙ sym (append_assoc f.done ((k, p.0) ∷ []) p.1);
      keys = p.3;
      text = sym q.1;
      read = read_more told f.done (k, p.0) f.read (λ range. absurd (none p.0 range (sym q.0)));
    }

-- all keys were read
pub all_read : (w told : ScriptMap) (reply left : List ℕ) → IsFollowed w reply [] told left → AreValuesInReply w reply told
all_read w told reply left h n hn keys e = let f = h n hn keys e in by f.behind f.all f.keys
  where
    nil : (xs : ScriptMap) → xs ++ [] ≡ xs
    nil [] = refl
    nil (x ∷ xs) = ap (λ (ys : ScriptMap). x ∷ ys) (nil xs)

    by : (behind : ScriptMap) → n ≡ (h n hn keys e).done ++ behind → HaveSameKeys behind [] → WasRead told n
    by [] all none = subst (WasRead told) (sym (all ∙ nil (h n hn keys e).done)) (h n hn keys e).read
    by (x ∷ behind) all none = absurd none

-- ---- what stands behind a key

same_bytes : (p more : List ℕ) → pointwise ◌==◌ (take (length p) (p ++ more)) p ≡ true
same_bytes [] more = refl
same_bytes (b ∷ p) more = ap (λ (t : Bool). t && pointwise ◌==◌ (take (length p) (p ++ more)) p) (same_byte b) ∙ same_bytes p more
  where
    same_byte : (n : ℕ) → (n == n) ≡ true
    same_byte n = grind (arith, nat_tests)

behind_bytes : (p more : List ℕ) → drop (length p) (p ++ more) ≡ more
behind_bytes [] more = refl
behind_bytes (b ∷ p) more = behind_bytes p more

-- a text that begins with the bytes is known to begin so
pub strips : (p bytes more : List ℕ) → bytes ≡ p ++ more → pointwise ◌==◌ (take (length p) bytes) p ≡ true
strips p bytes more is = ap (λ (b : List ℕ). pointwise ◌==◌ (take (length p) b) p) is ∙ same_bytes p more

pub stripped : (p bytes more : List ℕ) → bytes ≡ p ++ more → drop (length p) bytes ≡ more
stripped p bytes more is = ap (λ (b : List ℕ). drop (length p) b) is ∙ behind_bytes p more

false_true : (b : Bool) → b ≡ false → b ≡ true → ⊥
false_true b other same = let bad : false ≡ true = sym other ∙ same in cc

pub no_space : (key bytes : List ℕ) → pointwise ◌==◌ (take 1 bytes) (32 ∷ []) ≡ false → LacksBehind key bytes
no_space key bytes other rest e = false_true (pointwise ◌==◌ (take 1 bytes) (32 ∷ [])) other (strips (32 ∷ []) bytes (key ++ (61 ∷ rest)) e)

pub no_key : (key bytes pair : List ℕ) → pair ≡ drop 1 bytes → pointwise ◌==◌ (take (length key) pair) key ≡ false → LacksBehind key bytes
no_key key bytes pair is other rest e = false_true (pointwise ◌==◌ (take (length key) pair) key) other (strips key pair (61 ∷ rest) (is ∙ stripped (32 ∷ []) bytes (key ++ (61 ∷ rest)) e))

behind_of : (key bytes pair more rest : List ℕ) → pair ≡ drop 1 bytes → more ≡ drop (length key) pair → bytes ≡ 32 ∷ key ++ (61 ∷ rest) → more ≡ 61 ∷ rest
behind_of key bytes pair more rest is too e = too ∙ stripped key pair (61 ∷ rest) (is ∙ stripped (32 ∷ []) bytes (key ++ (61 ∷ rest)) e)

-- what is stripped of the equals sign
pub value_stripped : {A : Type 0} (now : A → List ℕ) (key bytes pair more : List ℕ) (found : Option A) → pair ≡ drop 1 bytes → more ≡ drop (length key) pair
    → MatchOption found (pointwise ◌==◌ (take 1 more) (61 ∷ []) ≡ false) (λ r. (pointwise ◌==◌ (take 1 more) (61 ∷ []) ≡ true) × (now r ≡ drop 1 more) × (length (now r) + 1 ≡ length more))
    → MatchOption found (LacksBehind key bytes) (λ r. IsBehind key bytes (now r))
value_stripped now key bytes pair more None is too h = λ rest e. false_true (pointwise ◌==◌ (take 1 more) (61 ∷ [])) h (strips (61 ∷ []) more rest (behind_of key bytes pair more rest is too e))
value_stripped now key bytes pair more (Some r) is too h = λ rest e. sym (h.1 ∙ stripped (61 ∷ []) more rest (behind_of key bytes pair more rest is too e))

-- ---- the first space

pub from_begun : (bytes left : List ℕ) → left ≡ bytes → HasPassedOn bytes left
from_begun bytes left same = record { passed = []; spaceless = tt; all = sym same }

pub from_more : (bytes left rest : List ℕ) (first : ℕ) → HasPassedOn bytes left → left ≡ first ∷ rest → first ≢ 32 → HasPassedOn bytes rest
from_more bytes left rest first h is other = record {
  passed = h.passed ++ first ∷ [];
  spaceless = spaceless_more h.passed first h.spaceless other;
  all = h.all ∙ ap (λ (xs : List ℕ). h.passed ++ xs) is ∙ sym (append_assoc h.passed (first ∷ []) rest);
}
  where
    spaceless_more : (xs : List ℕ) (b : ℕ) → IsSpaceless xs → b ≢ 32 → IsSpaceless (xs ++ b ∷ [])
    spaceless_more [] b h other = (other, tt)
    spaceless_more (x ∷ xs) b h other = (h.0, spaceless_more xs b h.1 other)

pub from_found : (bytes left rest : List ℕ) (first : ℕ) → HasPassedOn bytes left → left ≡ first ∷ rest → first ≡ 32 → IsFromSpace bytes left
from_found bytes left rest first h is space = record { front = h.passed; spaceless = h.spaceless; spaced = subst StartsSpaced (sym is) space; all = h.all }

pub from_none : (bytes left : List ℕ) → HasPassedOn bytes left → length left ≡ 0 → IsFromSpace bytes left
from_none bytes left h none = record { front = h.passed; spaceless = h.spaceless; spaced = subst StartsSpaced (sym (nil_of left none)) tt; all = h.all }
  where
    nil_of : (xs : List ℕ) → length xs ≡ 0 → xs ≡ []
    nil_of [] e = refl
    nil_of (x ∷ xs) e = absurd (omega arith)

pub from_within : (bytes left : List ℕ) → IsFromSpace bytes left → length left ≤ length bytes
from_within bytes left h = omega (arith, ap (λ (xs : List ℕ). length xs) h.all, length_both h.front left)
  where
    length_both : (xs ys : List ℕ) → length (xs ++ ys) ≡ length xs + length ys
    length_both [] ys = omega arith
    length_both (x ∷ xs) ys = omega (arith, length_both xs ys)

-- the text is parted before its first space
pub parted_so : (bytes behind front back : List ℕ) (n : ℕ) → IsFromSpace bytes behind → n ≡ length bytes - length behind → front ≡ take n bytes → back ≡ drop n bytes → IsParted bytes front back
parted_so bytes behind front back n h at is too v rest hv hr e =
    let p = one_parted v h.front rest behind hv h.spaceless hr h.spaced (sym e ∙ h.all) in
    let count : n ≡ length h.front = omega (arith, at, ap (λ (xs : List ℕ). length xs) h.all, length_both h.front behind) in
    (p.0 ∙ sym (is ∙ (λ i. take (count i) (h.all i)) ∙ taken h.front behind), p.1 ∙ sym (too ∙ (λ i. drop (count i) (h.all i)) ∙ behind_bytes h.front behind))
  where
    length_both : (xs ys : List ℕ) → length (xs ++ ys) ≡ length xs + length ys
    length_both [] ys = omega arith
    length_both (x ∷ xs) ys = omega (arith, length_both xs ys)

    taken : (xs ys : List ℕ) → take (length xs) (xs ++ ys) ≡ xs
    taken [] ys = refl
    taken (x ∷ xs) ys = ap (λ (zs : List ℕ). x ∷ zs) (taken xs ys)

-- the value of a key, from what stands behind it
pub value_parted : (key bytes rest value behind : List ℕ) → IsBehind key bytes rest → IsParted rest value behind → IsValueOf key bytes value behind
value_parted key bytes rest value behind is parts v more hv hm e = parts v more hv hm (sym (is (v ++ more) e))

pub value_lacks : (key bytes : List ℕ) → LacksBehind key bytes → HasNoValue key bytes
value_lacks key bytes none v more hv hm e = none (v ++ more) e

-- the value that stands behind the next key is passed, and read where it is one
pub spelled_read : (k : List ℕ) (v : ℤ) (w todo told new : ScriptMap) (reply left value behind : List ℕ) → IsFollowed w reply ((k, v) ∷ todo) told left → IsValueOf k left value behind → IsReadInto told k value new → IsFollowed w reply todo new behind
spelled_read k v w todo told new reply left value behind h is (inl (z, fits, spelled, put)) = subst (λ (m : ScriptMap). IsFollowed w reply todo m behind) (sym put) (one_read k v z w todo told reply left value behind h is fits spelled)
spelled_read k v w todo told new reply left value behind h is (inr (none, same)) = subst (λ (m : ScriptMap). IsFollowed w reply todo m behind) (sym same) (none_read k v w todo told reply left value behind h is none)
