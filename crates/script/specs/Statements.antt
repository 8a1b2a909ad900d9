-- Statements, and the words that spell them.
use Rattle.std.specs.Prelude.{ℕ, ℤ, List, [], ◌∷◌, ◌<◌, ◌^◌, FitsSigned, codes, map}
use Rattle.std.specs.Int.{w64}
use Rattle.std.specs.Fmt.{decimal, signed_decimal}
use Rattle.arguments.specs.Keys.{IsKey}
use Rattle.arguments.specs.Questions.{IsMapping, IsPairMapping, IsTest, folding_text, mapping_text, pair_mapping_text, test_text}
use Rattle.script.specs.declared.limits.TheConstants.{MOST_CLIENTS}
use Rattle.script.specs.Grammar.{Place, handle_place, key_place, value_place, test_place, map_place, pair_map_place, fold_place}
use Rattle.arguments.specs.declared.passing.Test.{Test}
use Rattle.arguments.specs.declared.mapping.Mapping.{Mapping}
use Rattle.arguments.specs.declared.pair_mapping.PairMapping.{PairMapping}
use Rattle.arguments.specs.declared.folding.Folding.{Folding}
use Rattle.script.specs.declared.statement.Statement.{Statement}
use Rattle.script.specs.declared.statement.Statement.TheVariants.{Open, Snap, Drop, Get, Put, PutIfAbsent, Replace, ReplaceIf, Remove, RemoveIf, GetOrElse, Size, Clear, Pairs, Count, Exists, ForAll, Find, Filter, MapValues, MapPairs, Fold}
use Rattle.script.specs.declared.statement.CommandLine.{CommandLine}

-- what stands behind a verb
pub data Argument : Type 0 where
  handle_argument : ℕ → Argument
  key_argument : List ℕ → Argument
  value_argument : ℤ → Argument
  test_argument : Test → Argument
  map_argument : Mapping → Argument
  pair_map_argument : PairMapping → Argument
  fold_argument : Folding → Argument

-- where it may stand
abbrev pub place_of : Argument → Place
place_of (handle_argument number) = handle_place
place_of (key_argument bytes) = key_place
place_of (value_argument number) = value_place
place_of (test_argument test) = test_place
place_of (map_argument mapping) = map_place
place_of (pair_map_argument mapping) = pair_map_place
place_of (fold_argument folding) = fold_place

-- its one spelling: a number has no leading zero and no sign but the minus of a value below 0
abbrev pub spelling_of : Argument → List ℕ
spelling_of (handle_argument number) = decimal number
spelling_of (key_argument bytes) = bytes
spelling_of (value_argument number) = signed_decimal number
spelling_of (test_argument test) = test_text test
spelling_of (map_argument mapping) = mapping_text mapping
spelling_of (pair_map_argument mapping) = pair_mapping_text mapping
spelling_of (fold_argument folding) = folding_text folding

-- it is in its range: a handle in that of u32, a value, of a test or a map too, in that of i64
abbrev pub IsInRange : Argument → Type 0
IsInRange (handle_argument number) = number < 2 ^ 32
IsInRange (key_argument bytes) = IsKey bytes
IsInRange (value_argument number) = FitsSigned w64 number
IsInRange (test_argument test) = IsTest test
IsInRange (map_argument mapping) = IsMapping mapping
IsInRange (pair_map_argument mapping) = IsPairMapping mapping
IsInRange (fold_argument folding) = Unit {0}

-- each of them is in its range
abbrev pub AreInRange : List Argument → Type 0
AreInRange [] = Unit {0}
AreInRange (argument ∷ arguments) = IsInRange argument × AreInRange arguments

-- a verb's name, and its arguments from left to right
pub record Phrase : Type 0 where
  pub name : List ℕ
  pub arguments : List Argument

-- what a statement says
abbrev pub phrase_of : Statement → Phrase
phrase_of (Open handle) = record { name = codes "open"; arguments = handle_argument handle ∷ [] }
phrase_of (Snap handle target) = record { name = codes "snap"; arguments = handle_argument handle ∷ handle_argument target ∷ [] }
phrase_of (Drop handle) = record { name = codes "drop"; arguments = handle_argument handle ∷ [] }
phrase_of (Get handle key) = record { name = codes "get"; arguments = handle_argument handle ∷ key_argument key ∷ [] }
phrase_of (Put handle key value) = record { name = codes "put"; arguments = handle_argument handle ∷ key_argument key ∷ value_argument value ∷ [] }
phrase_of (PutIfAbsent handle key value) = record { name = codes "putifabsent"; arguments = handle_argument handle ∷ key_argument key ∷ value_argument value ∷ [] }
phrase_of (Replace handle key value) = record { name = codes "replace"; arguments = handle_argument handle ∷ key_argument key ∷ value_argument value ∷ [] }
phrase_of (ReplaceIf handle key old new) = record { name = codes "replaceif"; arguments = handle_argument handle ∷ key_argument key ∷ value_argument old ∷ value_argument new ∷ [] }
phrase_of (Remove handle key) = record { name = codes "remove"; arguments = handle_argument handle ∷ key_argument key ∷ [] }
phrase_of (RemoveIf handle key value) = record { name = codes "removeif"; arguments = handle_argument handle ∷ key_argument key ∷ value_argument value ∷ [] }
phrase_of (GetOrElse handle key value) = record { name = codes "getorelse"; arguments = handle_argument handle ∷ key_argument key ∷ value_argument value ∷ [] }
phrase_of (Size handle) = record { name = codes "size"; arguments = handle_argument handle ∷ [] }
phrase_of (Clear handle) = record { name = codes "clear"; arguments = handle_argument handle ∷ [] }
phrase_of (Pairs handle) = record { name = codes "list"; arguments = handle_argument handle ∷ [] }
phrase_of (Count handle test) = record { name = codes "count"; arguments = handle_argument handle ∷ test_argument test ∷ [] }
phrase_of (Exists handle test) = record { name = codes "exists"; arguments = handle_argument handle ∷ test_argument test ∷ [] }
phrase_of (ForAll handle test) = record { name = codes "forall"; arguments = handle_argument handle ∷ test_argument test ∷ [] }
phrase_of (Find handle test) = record { name = codes "find"; arguments = handle_argument handle ∷ test_argument test ∷ [] }
phrase_of (Filter handle test target) = record { name = codes "filter"; arguments = handle_argument handle ∷ test_argument test ∷ handle_argument target ∷ [] }
phrase_of (MapValues handle mapping target) = record { name = codes "mapvalues"; arguments = handle_argument handle ∷ map_argument mapping ∷ handle_argument target ∷ [] }
phrase_of (MapPairs handle mapping target) = record { name = codes "mappairs"; arguments = handle_argument handle ∷ pair_map_argument mapping ∷ handle_argument target ∷ [] }
phrase_of (Fold handle folding) = record { name = codes "fold"; arguments = handle_argument handle ∷ fold_argument folding ∷ [] }

-- what a statement spells: its verb's name and its arguments, a field each
abbrev pub words_of : Statement → List (List ℕ)
words_of statement = (phrase_of statement).name ∷ map spelling_of (phrase_of statement).arguments

-- each argument of the statement is in its range
abbrev pub IsLawful : Statement → Type 0
IsLawful statement = AreInRange (phrase_of statement).arguments

-- a client is a number from 0 to 63, and its statement is lawful
abbrev pub IsLawfulLine : CommandLine → Type 0
IsLawfulLine line = (line.client < MOST_CLIENTS) × IsLawful line.statement
