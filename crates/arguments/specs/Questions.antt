-- What tests, maps, pair maps and folds say of a pair, and how they are spelled.
use Rattle.std.specs.Prelude.{ℕ, ℤ, pos, ◌+ℤ◌, Bool, true, not, ◌==◌, ◌%◌, ◌++◌, List, length, take, codes, FitsSigned, int_le, int_lt, unsigned_abs}
use Rattle.std.specs.Ordering.{int_eq}
use Rattle.std.specs.Int.{int_wrap, w64}
use Rattle.std.specs.Fmt.{signed_decimal}
use Rattle.keys.specs.Order.{bytes_eq}
use Rattle.arguments.specs.Keys.{IsKey}
use Rattle.arguments.specs.declared.passing.Test.{Test}
use Rattle.arguments.specs.declared.passing.Test.TheVariants.{All, Even, Odd, Below, AtLeast, Equal, Prefix}
use Rattle.arguments.specs.declared.mapping.Mapping.{Mapping}
use Rattle.arguments.specs.declared.mapping.Mapping.TheVariants.{Set, Add, KeyLength}
use Rattle.arguments.specs.declared.pair_mapping.PairMapping.{PairMapping}
use Rattle.arguments.specs.declared.pair_mapping.PairMapping.TheVariants.{To, Initial, ByValue}
use Rattle.arguments.specs.declared.folding.Folding.{Folding}
use Rattle.arguments.specs.declared.folding.Folding.TheVariants.{Sum, Least, Greatest}

-- whether a value is a multiple of 2
abbrev pub is_even : ℤ → Bool
is_even value = unsigned_abs value % 2 == 0

-- whether the pair of a key and a value passes
abbrev pub passes : Test → List ℕ → ℤ → Bool
passes All key value = true
passes Even key value = is_even value
passes Odd key value = not (is_even value)
passes (Below limit) key value = int_lt value limit
passes (AtLeast limit) key value = int_le limit value
passes (Equal other) key value = int_eq value other
passes (Prefix front) key value = bytes_eq (take (length front) key) front

-- the new value of the pair
abbrev pub new_value : Mapping → List ℕ → ℤ → ℤ
new_value (Set new) key value = new
new_value (Add more) key value = int_wrap w64 (value +ℤ more)
new_value KeyLength key value = pos (length key)

-- the image of the pair: its new key, and its new value
abbrev pub image_of : PairMapping → List ℕ → ℤ → List ℕ × ℤ
image_of (To target) key value = (target, value)
image_of Initial key value = (take 1 key, value)
image_of ByValue key value = (signed_decimal value, pos (length key))

-- a test's one spelling
abbrev pub test_text : Test → List ℕ
test_text All = codes "all"
test_text Even = codes "even"
test_text Odd = codes "odd"
test_text (Below limit) = codes "lt:" ++ signed_decimal limit
test_text (AtLeast limit) = codes "ge:" ++ signed_decimal limit
test_text (Equal other) = codes "eq:" ++ signed_decimal other
test_text (Prefix front) = codes "prefix:" ++ front

-- a map's
abbrev pub mapping_text : Mapping → List ℕ
mapping_text (Set new) = codes "set:" ++ signed_decimal new
mapping_text (Add more) = codes "add:" ++ signed_decimal more
mapping_text KeyLength = codes "keylen"

-- a pair map's
abbrev pub pair_mapping_text : PairMapping → List ℕ
pair_mapping_text (To target) = codes "to:" ++ target
pair_mapping_text Initial = codes "initial"
pair_mapping_text ByValue = codes "byvalue"

-- a fold's
abbrev pub folding_text : Folding → List ℕ
folding_text Sum = codes "sum"
folding_text Least = codes "least"
folding_text Greatest = codes "greatest"

-- the parts of a test are in their ranges
abbrev pub IsTest : Test → Type 0
IsTest (Below limit) = FitsSigned w64 limit
IsTest (AtLeast limit) = FitsSigned w64 limit
IsTest (Equal other) = FitsSigned w64 other
IsTest (Prefix front) = IsKey front
IsTest test = Unit {0}

-- those of a map are
abbrev pub IsMapping : Mapping → Type 0
IsMapping (Set new) = FitsSigned w64 new
IsMapping (Add more) = FitsSigned w64 more
IsMapping KeyLength = Unit {0}

-- the key of a pair map is one
abbrev pub IsPairMapping : PairMapping → Type 0
IsPairMapping (To target) = IsKey target
IsPairMapping mapping = Unit {0}
