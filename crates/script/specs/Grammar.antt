-- The grammar: the verbs, and what stands behind each.
use Rattle.std.specs.Prelude.{ℕ, List, [], ◌∷◌, ◌≢◌, Option, codes, find, take}
use Rattle.keys.specs.Order.{bytes_eq}

-- what kind of argument stands in a place
pub data Place : Type 0 where
  handle_place : Place
  key_place : Place
  value_place : Place
  test_place : Place
  map_place : Place
  pair_map_place : Place
  fold_place : Place

-- a verb's name, and the places of its arguments from left to right
pub record Verb : Type 0 where
  pub name : List ℕ
  pub places : List Place

-- the verbs
abbrev pub verbs : List Verb
verbs =
    record { name = codes "open"; places = handle_place ∷ [] }
    ∷ record { name = codes "snap"; places = handle_place ∷ handle_place ∷ [] }
    ∷ record { name = codes "drop"; places = handle_place ∷ [] }
    ∷ record { name = codes "get"; places = handle_place ∷ key_place ∷ [] }
    ∷ record { name = codes "put"; places = handle_place ∷ key_place ∷ value_place ∷ [] }
    ∷ record { name = codes "putifabsent"; places = handle_place ∷ key_place ∷ value_place ∷ [] }
    ∷ record { name = codes "replace"; places = handle_place ∷ key_place ∷ value_place ∷ [] }
    ∷ record { name = codes "replaceif"; places = handle_place ∷ key_place ∷ value_place ∷ value_place ∷ [] }
    ∷ record { name = codes "remove"; places = handle_place ∷ key_place ∷ [] }
    ∷ record { name = codes "removeif"; places = handle_place ∷ key_place ∷ value_place ∷ [] }
    ∷ record { name = codes "getorelse"; places = handle_place ∷ key_place ∷ value_place ∷ [] }
    ∷ record { name = codes "size"; places = handle_place ∷ [] }
    ∷ record { name = codes "clear"; places = handle_place ∷ [] }
    ∷ record { name = codes "list"; places = handle_place ∷ [] }
    ∷ record { name = codes "count"; places = handle_place ∷ test_place ∷ [] }
    ∷ record { name = codes "exists"; places = handle_place ∷ test_place ∷ [] }
    ∷ record { name = codes "forall"; places = handle_place ∷ test_place ∷ [] }
    ∷ record { name = codes "find"; places = handle_place ∷ test_place ∷ [] }
    ∷ record { name = codes "filter"; places = handle_place ∷ test_place ∷ handle_place ∷ [] }
    ∷ record { name = codes "mapvalues"; places = handle_place ∷ map_place ∷ handle_place ∷ [] }
    ∷ record { name = codes "mappairs"; places = handle_place ∷ pair_map_place ∷ handle_place ∷ [] }
    ∷ record { name = codes "fold"; places = handle_place ∷ fold_place ∷ [] }
    ∷ []

-- those before count: a map's commands
abbrev pub commands : List Verb
commands = take 14 verbs

-- the name is none of theirs
abbrev pub IsUnnamed : List Verb → List ℕ → Type 0
IsUnnamed [] name = Unit {0}
IsUnnamed (verb ∷ verbs) name = (name ≢ verb.name) × IsUnnamed verbs name

-- the verb of this name, if there is one
abbrev pub verb_named : List ℕ → Option Verb
verb_named name = find (λ verb. bytes_eq verb.name name) verbs
