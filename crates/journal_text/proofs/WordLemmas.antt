-- Words have no space in them, so words with one space between are their fields again.
use Prim.Native.Nat.{zero, suc}
use Rattle.std.proofs.Common.{◌≡◌, ◌≢◌, ℕ, ◌<◌, ◌^◌, ◌∙◌, true, false, Bool, List, [], ◌∷◌, ◌++◌, length, get_or, map, codes, refl, ap, arith}
use Rattle.std.specs.Prelude.{ℤ, pos, negsuc, FitsSigned, ◌==◌, ◌&&◌, not}
use Rattle.std.specs.Int.{w64}
use Rattle.std.specs.Fmt.{decimal, signed_decimal}
use Rattle.std.specs.List.{join_with_byte, list_all, slice_split}
use Rattle.std.proofs.lemmas.Bool.Decides.{nat_tests}
use Rattle.std.proofs.lemmas.Fmt.{decimal_is_IsNumeral}
use Rattle.std.proofs.lemmas.Str.Parse.{digit_at}
use Rattle.arguments.specs.Keys.{IsKey}
use Rattle.arguments.specs.Questions.{IsTest, IsMapping, IsPairMapping, test_text, mapping_text, pair_mapping_text, folding_text}
use Rattle.arguments.specs.declared.passing.Test.{Test}
use Rattle.arguments.specs.declared.passing.Test.TheVariants.{All, Even, Odd, Below, AtLeast, Equal, Prefix}
use Rattle.arguments.specs.declared.mapping.Mapping.{Mapping}
use Rattle.arguments.specs.declared.mapping.Mapping.TheVariants.{Set, Add, KeyLength}
use Rattle.arguments.specs.declared.pair_mapping.PairMapping.{PairMapping}
use Rattle.arguments.specs.declared.pair_mapping.PairMapping.TheVariants.{To, Initial, ByValue}
use Rattle.arguments.specs.declared.folding.Folding.{Folding}
use Rattle.arguments.specs.declared.folding.Folding.TheVariants.{Sum, Least, Greatest}
use Rattle.script.specs.Statements.{Argument, handle_argument, key_argument, value_argument, test_argument, map_argument, pair_map_argument, fold_argument, spelling_of, IsInRange, AreInRange, phrase_of}
use Rattle.script.specs.declared.statement.Statement.{Statement}
use Rattle.script.specs.declared.statement.Statement.TheVariants.{Open}

-- no byte of it is a space
pub record IsWord (w : List ℕ) : Type 0 where
  pub other : (k : ℕ) → k < length w → get_or w k 0 ≢ 32

pub nil_word : IsWord []
nil_word = record { other = λ k h. absurd (omega arith) }

pub cons_word : (b : ℕ) (w : List ℕ) → b ≢ 32 → IsWord w → IsWord (b ∷ w)
cons_word b w other h = record { other = λ k below. by_place k below }
  where
    by_place : (k : ℕ) → k < length (b ∷ w) → get_or (b ∷ w) k 0 ≢ 32
    by_place zero below = other
    by_place (suc k) below = h.other k (omega arith)

pub decimal_word : (n : ℕ) → n < 2 ^ 64 → IsWord (decimal n)
decimal_word n fits =
    let p = decimal_is_IsNumeral n fits in
    record { other = λ k below e. let range = digit_at (decimal n) k p.0.1 below in omega (arith, range.0) }

signed_word : (z : ℤ) → FitsSigned w64 z → IsWord (signed_decimal z)
signed_word (pos n) fits = decimal_word n (omega (arith, fits.sfits))
signed_word (negsuc n) fits = let h : n < 2 ^ 63 = fits.sfits in cons_word 45 (decimal (suc n)) (λ e. omega arith) (decimal_word (suc n) (omega arith))

key_word : (k : List ℕ) → IsKey k → IsWord k
key_word k is = record { other = λ i below e. let range = is.2 i 0 below in omega (arith, range.0) }

-- whether no letter of a literal is a space
abbrev pub has_no_space : List ℕ → Bool
has_no_space w = list_all (λ b. not (b == 32)) w

both : (a b : Bool) → (a && b) ≡ true → (a ≡ true) × (b ≡ true)
both true b e = (refl, e)
both false b e = cc

other_letter : (b : ℕ) → not (b == 32) ≡ true → b ≢ 32
other_letter b e is = let same : (b == 32) ≡ true = grind (arith, nat_tests) in let bad : not (b == 32) ≡ false = ap not same in cc

-- a literal before a word
pub prefixed : (front w : List ℕ) → has_no_space front ≡ true → IsWord w → IsWord (front ++ w)
prefixed [] w e h = h
prefixed (b ∷ front) w e h = let p = both (not (b == 32)) (has_no_space front) e in cons_word b (front ++ w) (other_letter b p.0) (prefixed front w p.1 h)

pub literal_word : (w : List ℕ) → has_no_space w ≡ true → IsWord w
literal_word [] e = nil_word
literal_word (b ∷ w) e = let p = both (not (b == 32)) (has_no_space w) e in cons_word b w (other_letter b p.0) (literal_word w p.1)

test_word : (t : Test) → IsTest t → IsWord (test_text t)
test_word All is = literal_word (codes "all") refl
test_word Even is = literal_word (codes "even") refl
test_word Odd is = literal_word (codes "odd") refl
test_word (Below v) is = prefixed (codes "lt:") (signed_decimal v) refl (signed_word v is)
test_word (AtLeast v) is = prefixed (codes "ge:") (signed_decimal v) refl (signed_word v is)
test_word (Equal v) is = prefixed (codes "eq:") (signed_decimal v) refl (signed_word v is)
test_word (Prefix k) is = prefixed (codes "prefix:") k refl (key_word k is)

mapping_word : (m : Mapping) → IsMapping m → IsWord (mapping_text m)
mapping_word (Set v) is = prefixed (codes "set:") (signed_decimal v) refl (signed_word v is)
mapping_word (Add v) is = prefixed (codes "add:") (signed_decimal v) refl (signed_word v is)
mapping_word KeyLength is = literal_word (codes "keylen") refl

pair_mapping_word : (m : PairMapping) → IsPairMapping m → IsWord (pair_mapping_text m)
pair_mapping_word (To k) is = prefixed (codes "to:") k refl (key_word k is)
pair_mapping_word Initial is = literal_word (codes "initial") refl
pair_mapping_word ByValue is = literal_word (codes "byvalue") refl

folding_word : (f : Folding) → IsWord (folding_text f)
folding_word Sum = literal_word (codes "sum") refl
folding_word Least = literal_word (codes "least") refl
folding_word Greatest = literal_word (codes "greatest") refl

argument_word : (a : Argument) → IsInRange a → IsWord (spelling_of a)
argument_word (handle_argument n) is = decimal_word n (omega arith)
argument_word (key_argument k) is = key_word k is
argument_word (value_argument z) is = signed_word z is
argument_word (test_argument t) is = test_word t is
argument_word (map_argument m) is = mapping_word m is
argument_word (pair_map_argument m) is = pair_mapping_word m is
argument_word (fold_argument f) is = folding_word f

-- each of them is a word
abbrev pub AreWords : List (List ℕ) → Type 0
AreWords [] = Unit {0}
AreWords (w ∷ ws) = IsWord w × AreWords ws

pub argument_words : (xs : List Argument) → AreInRange xs → AreWords (map spelling_of xs)
argument_words [] is = tt
argument_words (x ∷ xs) is = (argument_word x is.0, argument_words xs is.1)

-- a statement's name is a word
pub name_word : (s : Statement) → IsWord (phrase_of s).name
name_word (Open h) = literal_word (codes "open") refl
name_word s = literal_word (phrase_of s).name refl

-- ---- words with one space between

abbrev is_space : ℕ → Bool
is_space b = b == 32

pub split_word : (w rest : List ℕ) → IsWord w → slice_split is_space (w ++ 32 ∷ rest) ≡ w ∷ slice_split is_space rest
split_word [] rest h = refl
split_word (b ∷ w) rest h =
    let other : b ≢ 32 = h.other 0 (omega arith) in
    let no : (b == 32) ≡ false = grind (arith, nat_tests) in
    let more = split_word w rest (record { other = λ k below. h.other (suc k) (omega arith) }) in
    rw (no, more) refl

split_last : (w : List ℕ) → IsWord w → slice_split is_space w ≡ w ∷ []
split_last [] h = refl
split_last (b ∷ w) h =
    let other : b ≢ 32 = h.other 0 (omega arith) in
    let no : (b == 32) ≡ false = grind (arith, nat_tests) in
    let more = split_last w (record { other = λ k below. h.other (suc k) (omega arith) }) in
    rw (no, more) refl

-- between the spaces stand the words
pub split_words : (w : List ℕ) (ws : List (List ℕ)) → IsWord w → AreWords ws → slice_split (λ b. b == 32) (join_with_byte 32 (w ∷ ws)) ≡ w ∷ ws
split_words w [] h hs = split_last w h
split_words w (v ∷ ws) h hs = split_word w (join_with_byte 32 (v ∷ ws)) h ∙ ap (λ (l : List (List ℕ)). w ∷ l) (split_words v ws hs.0 hs.1)
