-- What look-ups find, one after another.
use Rattle.std.proofs.Common.{◌≡◌, ℕ, ◌+◌, ◌<◌, List, [], ◌∷◌, ◌++◌, Option, Some, length, get_or, take, flat_map, sym, ap, ◌∙◌}
use Rattle.std.specs.Option.{option_to_list}
use Rattle.std.proofs.lemmas.Grind.{flat_map-append}
use Rattle.std.proofs.lemmas.List.{append-nil, take_more}

module _ {A : Type 0} where
  -- what stands in a place stands behind what stands in the places before it
  pub held_more : (places : List (Option A)) (i : ℕ) (place : Option A) → i < length places → place ≡ get_or places i place
      → flat_map option_to_list (take (i + 1) places) ≡ flat_map option_to_list (take i places) ++ option_to_list place
  held_more places i place within is =
      ap (flat_map option_to_list) (take_more places i place within ∙ ap (λ x. take i places ++ x ∷ []) (sym is))
      ∙ flat_map-append option_to_list (take i places) (place ∷ [])
      ∙ ap (λ xs. flat_map option_to_list (take i places) ++ xs) (append-nil (option_to_list place))

  -- one more place is filled
  pub held_pushed : (places : List (Option A)) (x : A) → flat_map option_to_list (places ++ Some x ∷ []) ≡ flat_map option_to_list places ++ x ∷ []
  held_pushed places x = flat_map-append option_to_list places (Some x ∷ [])
