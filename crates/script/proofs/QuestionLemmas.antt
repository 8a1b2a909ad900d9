-- A text spells one test, one map, one pair map and one fold at most.
use Rattle.std.proofs.Common.{◌≡◌, ℕ, List, slice_index, refl, ap, arith}
use Rattle.std.specs.Prelude.{ℤ, FitsSigned}
use Rattle.std.specs.Int.{w64}
use Rattle.std.specs.Fmt.{signed_decimal}
use Rattle.std.proofs.lemmas.Fmt.{signed_decimal_injective}
use Rattle.arguments.specs.Questions.{IsMapping, IsPairMapping, IsTest, folding_text, mapping_text, pair_mapping_text, test_text}
use Rattle.arguments.specs.declared.passing.Test.{Test}
use Rattle.arguments.specs.declared.passing.Test.TheVariants.{All, Even, Odd, Below, AtLeast, Equal, Prefix}
use Rattle.arguments.specs.declared.mapping.Mapping.{Mapping}
use Rattle.arguments.specs.declared.mapping.Mapping.TheVariants.{Set, Add, KeyLength}
use Rattle.arguments.specs.declared.pair_mapping.PairMapping.{PairMapping}
use Rattle.arguments.specs.declared.pair_mapping.PairMapping.TheVariants.{To, Initial, ByValue}
use Rattle.arguments.specs.declared.folding.Folding.{Folding}
use Rattle.arguments.specs.declared.folding.Folding.TheVariants.{Sum, Least, Greatest}

one_value : (m n : ℤ) → FitsSigned w64 m → FitsSigned w64 n → signed_decimal m ≡ signed_decimal n → m ≡ n
one_value m n fm fn e = signed_decimal_injective m n fm.sfits fn.sfits e

-- texts that are equal have one byte at each place
at_byte : (k : ℕ) (bs cs : List ℕ) → bs ≡ cs → slice_index bs k ≡ slice_index cs k
at_byte k bs cs e = ap (λ text. slice_index text k) e

pub same_test : (s t : Test) → IsTest s → IsTest t → test_text s ≡ test_text t → s ≡ t
same_test All All rs rt e = refl
same_test Even Even rs rt e = refl
same_test Odd Odd rs rt e = refl
same_test (Below m) (Below n) rs rt e = let rest : signed_decimal m ≡ signed_decimal n = cc in ap Below (one_value m n rs rt rest)
same_test (AtLeast m) (AtLeast n) rs rt e = let rest : signed_decimal m ≡ signed_decimal n = cc in ap AtLeast (one_value m n rs rt rest)
same_test (Equal m) (Equal n) rs rt e = let rest : signed_decimal m ≡ signed_decimal n = cc in ap Equal (one_value m n rs rt rest)
same_test (Prefix m) (Prefix n) rs rt e = let rest : m ≡ n = cc in ap Prefix rest
same_test s t rs rt e = absurd (omega (arith, at_byte 0 _ _ e, at_byte 1 _ _ e))

pub same_mapping : (s t : Mapping) → IsMapping s → IsMapping t → mapping_text s ≡ mapping_text t → s ≡ t
same_mapping (Set m) (Set n) rs rt e = let rest : signed_decimal m ≡ signed_decimal n = cc in ap Set (one_value m n rs rt rest)
same_mapping (Add m) (Add n) rs rt e = let rest : signed_decimal m ≡ signed_decimal n = cc in ap Add (one_value m n rs rt rest)
same_mapping KeyLength KeyLength rs rt e = refl
same_mapping s t rs rt e = absurd (omega (arith, at_byte 0 _ _ e))

pub same_pair_mapping : (s t : PairMapping) → IsPairMapping s → IsPairMapping t → pair_mapping_text s ≡ pair_mapping_text t → s ≡ t
same_pair_mapping (To m) (To n) rs rt e = let rest : m ≡ n = cc in ap To rest
same_pair_mapping Initial Initial rs rt e = refl
same_pair_mapping ByValue ByValue rs rt e = refl
same_pair_mapping s t rs rt e = absurd (omega (arith, at_byte 0 _ _ e))

pub same_folding : (s t : Folding) → folding_text s ≡ folding_text t → s ≡ t
same_folding Sum Sum e = refl
same_folding Least Least e = refl
same_folding Greatest Greatest e = refl
same_folding s t e = absurd (omega (arith, at_byte 0 _ _ e))
