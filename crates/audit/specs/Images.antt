-- What a text may show of a map of images.
use Rattle.std.specs.Prelude.{◌≡◌, ◌≢◌, ◌⊎◌, ℕ, ℤ, List, [], ◌∷◌, ◌++◌, Some, Contains, FitsSigned}
use Rattle.std.specs.Int.{w64}
use Rattle.std.specs.Fmt.{signed_decimal}
use Rattle.versions.specs.Map.{Map, IsMap, value_at, with_pair}
use Rattle.keys.specs.Order.{bytes_cmp}
use Rattle.script.specs.Replies.{text_of}
use Rattle.script.specs.declared.reply.LineReply.TheVariants as replies
use Rattle.bulk_work.specs.Answers.{IsImage, image}
use Rattle.audit.specs.ReplyParts.{IsSpaceless}

-- a space stands first, if anything does
abbrev pub StartsSpaced : List ℕ → Type 0
StartsSpaced [] = Unit {0}
StartsSpaced (b ∷ bs) = b ≡ 32

-- this is what stands before the first space, and that what stands from it on
abbrev pub IsParted : List ℕ → List ℕ → List ℕ → Type 0
IsParted bytes front behind = (v rest : List ℕ) → IsSpaceless v → StartsSpaced rest → bytes ≡ v ++ rest → (v ≡ front) × (rest ≡ behind)

-- where a pair of the key stands first, this is the text of its value, and that what stands behind
abbrev pub IsValueOf : List ℕ → List ℕ → List ℕ → List ℕ → Type 0
IsValueOf key bytes value behind = (v rest : List ℕ) → IsSpaceless v → StartsSpaced rest → bytes ≡ 32 ∷ key ++ (61 ∷ v ++ rest) → (v ≡ value) × (rest ≡ behind)

-- no pair of the key stands first
abbrev pub HasNoValue : List ℕ → List ℕ → Type 0
HasNoValue key bytes = (v rest : List ℕ) → IsSpaceless v → StartsSpaced rest → bytes ≡ 32 ∷ key ++ (61 ∷ v ++ rest) → ⊥

-- the map has the same keys as the other, in the same order
abbrev pub HaveSameKeys : Map (List ℕ) ℤ → Map (List ℕ) ℤ → Type 0
HaveSameKeys [] [] = Unit {0}
HaveSameKeys (x ∷ m) (y ∷ n) = (x.0 ≡ y.0) × HaveSameKeys m n
HaveSameKeys m n = ⊥

-- each value of the map that is in the range of i64 was read
abbrev pub WasRead : Map (List ℕ) ℤ → Map (List ℕ) ℤ → Type 0
WasRead seen [] = Unit {0}
WasRead seen (x ∷ n) = (FitsSigned w64 x.1 → value_at bytes_cmp seen x.0 ≡ Some x.1) × WasRead seen n

-- of a map with the keys of w that the text gives, each such value was read
abbrev pub AreValuesInReply : Map (List ℕ) ℤ → List ℕ → Map (List ℕ) ℤ → Type 0
AreValuesInReply w reply seen = (n : Map (List ℕ) ℤ) → IsMap bytes_cmp n → HaveSameKeys n w → reply ≡ text_of (replies.Pairs n) → WasRead seen n

-- the image of the pair is in the range of i64, and the map has it where it was read
abbrev pub HasIfRead : (List ℕ → ℤ → List ℕ × ℤ) → Map (List ℕ) ℤ → Map (List ℕ) ℤ → List ℕ × ℤ → Type 0
HasIfRead f seen w x = FitsSigned w64 (image f x).1 × (value_at bytes_cmp seen (image f x).0 ≡ Some (image f x).1 → value_at bytes_cmp w (image f x).0 ≡ Some (image f x).1)

-- w is a map of the images of m, and has each image that was read
pub record HasAllRead (f : List ℕ → ℤ → List ℕ × ℤ) (m seen w : Map (List ℕ) ℤ) : Type 0 where
  pub image : IsImage bytes_cmp f m w
  pub sorted : IsMap bytes_cmp w
  pub read : (x : List ℕ × ℤ) → Contains m x → HasIfRead f seen w x

-- the pair is put, if it was read
abbrev pub IsPutIfRead : Map (List ℕ) ℤ → List ℕ × ℤ → Map (List ℕ) ℤ → Map (List ℕ) ℤ → Type 0
IsPutIfRead seen r old new = ((value_at bytes_cmp seen r.0 ≡ Some r.1) × (new ≡ with_pair bytes_cmp old r.0 r.1)) ⊎ ((value_at bytes_cmp seen r.0 ≡ Some r.1 → ⊥) × (new ≡ old))

-- the value of the key that is spelled so is put, if it is in the range of i64
abbrev pub IsReadInto : Map (List ℕ) ℤ → List ℕ → List ℕ → Map (List ℕ) ℤ → Type 0
IsReadInto old key spelled new =
    ((z : ℤ) × FitsSigned w64 z × (spelled ≡ signed_decimal z) × (new ≡ with_pair bytes_cmp old key z)) ⊎ (((z : ℤ) → FitsSigned w64 z → spelled ≢ signed_decimal z) × (new ≡ old))

-- this stands behind a space, the key and an equals sign, if they stand first
abbrev pub IsBehind : List ℕ → List ℕ → List ℕ → Type 0
IsBehind key bytes behind = (rest : List ℕ) → bytes ≡ 32 ∷ key ++ (61 ∷ rest) → rest ≡ behind

-- they do not stand first
abbrev pub LacksBehind : List ℕ → List ℕ → Type 0
LacksBehind key bytes = (rest : List ℕ) → bytes ≡ 32 ∷ key ++ (61 ∷ rest) → ⊥

-- this is the end of the text, before which no space stands, and it begins with one, if with anything
pub record IsFromSpace (bytes behind : List ℕ) : Type 0 where
  pub front : List ℕ
  pub spaceless : IsSpaceless front
  pub spaced : StartsSpaced behind
  pub all : bytes ≡ front ++ behind
