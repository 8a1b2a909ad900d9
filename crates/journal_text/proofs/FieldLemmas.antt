-- The words of what is said are the fields of its text.
use Rattle.std.proofs.Common.{◌≡◌, ℕ, ◌<◌, ◌∙◌, true, List, [], ◌∷◌, length, refl, ap, arith, map, nat_lt}
use Rattle.std.specs.Prelude.{ℤ, pos, negsuc, FitsSigned}
use Rattle.std.specs.Int.{w64}
use Rattle.std.specs.Fmt.{signed_decimal}
use Rattle.std.specs.List.{join_with_byte, filter}
use Rattle.std.proofs.lemmas.Bool.Decides.{nat_tests}
use Rattle.std.proofs.lemmas.Fmt.{decimal_nonempty}
use Rattle.script.specs.Lines.{fields_of}
use Rattle.arguments.specs.Questions.{IsTest, IsMapping, IsPairMapping, test_text, mapping_text, pair_mapping_text, folding_text}
use Rattle.arguments.specs.declared.passing.Test.{Test}
use Rattle.arguments.specs.declared.passing.Test.TheVariants.{All, Even, Odd, Below, AtLeast, Equal, Prefix}
use Rattle.arguments.specs.declared.mapping.Mapping.{Mapping}
use Rattle.arguments.specs.declared.mapping.Mapping.TheVariants.{Set, Add, KeyLength}
use Rattle.arguments.specs.declared.pair_mapping.PairMapping.{PairMapping}
use Rattle.arguments.specs.declared.pair_mapping.PairMapping.TheVariants.{To, Initial, ByValue}
use Rattle.arguments.specs.declared.folding.Folding.{Folding}
use Rattle.arguments.specs.declared.folding.Folding.TheVariants.{Sum, Least, Greatest}
use Rattle.script.specs.Statements.{Argument, handle_argument, key_argument, value_argument, test_argument, map_argument, pair_map_argument, fold_argument, spelling_of, IsInRange, AreInRange, phrase_of}
use Rattle.script.specs.declared.statement.Statement.{Statement}
use Rattle.script.specs.declared.statement.Statement.TheVariants.{Open}
use Rattle.questions.specs.Program.{ProgramRequest}
use Rattle.journal_text.specs.Calls.{IsLawfulRequest, call_text}
use Rattle.journal_text.proofs.CallLemmas.{Said, plain, behind_freeze, seen, ended, dropped, silent, said, words_said, IsLawfulSaid, words_are, lawful_said, split_said}

-- none of them is empty
abbrev AreFull : List (List ℕ) → Type 0
AreFull [] = Unit {0}
AreFull (w ∷ ws) = (0 < length w) × AreFull ws

kept : (ws : List (List ℕ)) → AreFull ws → filter (λ part. nat_lt 0 (length part)) ws ≡ ws
kept [] h = refl
kept (w ∷ ws) h =
    let some : 0 < length w = h.0 in
    let full : nat_lt 0 (length w) ≡ true = grind (arith, nat_tests) in
    let more = kept ws h.1 in
    rw (full, more) refl

full_signed : (z : ℤ) → FitsSigned w64 z → 0 < length (signed_decimal z)
full_signed (pos n) fits = decimal_nonempty n (omega (arith, fits.sfits))
full_signed (negsuc n) fits = omega arith

full_test : (t : Test) → IsTest t → 0 < length (test_text t)
full_test All is = omega arith
full_test Even is = omega arith
full_test Odd is = omega arith
full_test (Below v) is = omega arith
full_test (AtLeast v) is = omega arith
full_test (Equal v) is = omega arith
full_test (Prefix k) is = omega arith

full_mapping : (m : Mapping) → IsMapping m → 0 < length (mapping_text m)
full_mapping (Set v) is = omega arith
full_mapping (Add v) is = omega arith
full_mapping KeyLength is = omega arith

full_pair_mapping : (m : PairMapping) → IsPairMapping m → 0 < length (pair_mapping_text m)
full_pair_mapping (To k) is = omega arith
full_pair_mapping Initial is = omega arith
full_pair_mapping ByValue is = omega arith

full_folding : (f : Folding) → 0 < length (folding_text f)
full_folding Sum = omega arith
full_folding Least = omega arith
full_folding Greatest = omega arith

full_argument : (a : Argument) → IsInRange a → 0 < length (spelling_of a)
full_argument (handle_argument n) is = decimal_nonempty n (omega arith)
full_argument (key_argument k) is = is.0
full_argument (value_argument z) is = full_signed z is
full_argument (test_argument t) is = full_test t is
full_argument (map_argument m) is = full_mapping m is
full_argument (pair_map_argument m) is = full_pair_mapping m is
full_argument (fold_argument f) is = full_folding f

full_arguments : (xs : List Argument) → AreInRange xs → AreFull (map spelling_of xs)
full_arguments [] is = tt
full_arguments (x ∷ xs) is = (full_argument x is.0, full_arguments xs is.1)

full_name : (s : Statement) → 0 < length (phrase_of s).name
full_name (Open h) = omega arith
full_name s = omega arith

full_said : (a : Said) → IsLawfulSaid a → AreFull (words_said a)
full_said (plain s) l = (full_name s, full_arguments (phrase_of s).arguments l)
full_said (behind_freeze s) l = (omega arith, (full_name s, full_arguments (phrase_of s).arguments l))
full_said (seen h) l = (omega arith, (decimal_nonempty h (omega arith), tt))
full_said (ended j) l = (omega arith, (decimal_nonempty j (omega arith), tt))
full_said (dropped j) l = (omega arith, (decimal_nonempty j (omega arith), tt))
full_said silent l = absurd l

pub fields_said : (a : Said) → IsLawfulSaid a → fields_of (join_with_byte 32 (words_said a)) ≡ words_said a
fields_said a l = ap (filter (λ part. nat_lt 0 (length part))) (split_said a l) ∙ kept (words_said a) (full_said a l)

pub fields_call : (r : ProgramRequest) → IsLawfulRequest r → fields_of (call_text r) ≡ words_said (said r)
fields_call r l = ap (λ (ws : List (List ℕ)). fields_of (join_with_byte 32 ws)) (words_are r) ∙ fields_said (said r) (lawful_said r l)
