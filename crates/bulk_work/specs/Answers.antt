-- The answers of bulk operations.
use Rattle.std.specs.Prelude.{◌≡◌, ℕ, Bool, true, false, List, [], length, map, filter, Option, Some, None, Contains}
use Rattle.std.specs.List.{list_any, list_all}
use Rattle.std.specs.declared.cmp.Ordering.{Ordering}
use Rattle.versions.specs.Map.{Map, IsMap}
use Rattle.combiner.specs.Monoids.{folded}

-- what is asked of a map: a test, a new value, an image or an item of each pair, and the number of the handle that is to have the map that is made
pub data Question (K V I : Type 0) : Type 0 where
  count : (K → V → Bool) → Question K V I
  exists : (K → V → Bool) → Question K V I
  for_all : (K → V → Bool) → Question K V I
  find : (K → V → Bool) → Question K V I
  filtered : (K → V → Bool) → ℕ → Question K V I
  mapped : (K → V → V) → ℕ → Question K V I
  paired : (K → V → K × V) → ℕ → Question K V I
  fold : (I → I → I) → I → (K → V → I) → Question K V I

-- what may be answered
pub data Answer (K V I : Type 0) : Type 0 where
  number : ℕ → Answer K V I
  truth : Bool → Answer K V I
  found : Option (K × V) → Answer K V I
  made : Map K V → Answer K V I
  images : Map K V → Answer K V I
  item : I → Answer K V I

-- what is reported of an answer: of a map that follows from the question its number of pairs, of one of images the map
pub data Summary (K V I : Type 0) : Type 0 where
  number : ℕ → Summary K V I
  truth : Bool → Summary K V I
  found : Option (K × V) → Summary K V I
  made : ℕ → Summary K V I
  images : Map K V → Summary K V I
  item : I → Summary K V I

module _ {K V : Type 0} where
  -- whether the pair passes the test
  abbrev pub passes : (K → V → Bool) → K × V → Bool
  passes p x = p x.0 x.1

  -- the map of the pairs that pass
  abbrev pub passing : (K → V → Bool) → Map K V → Map K V
  passing p m = filter (passes p) m

  -- the map with the same keys and the new values
  abbrev pub with_values : (K → V → V) → Map K V → Map K V
  with_values f m = map (λ x. (x.0, f x.0 x.1)) m

  -- the image of the pair
  abbrev pub image : (K → V → K × V) → K × V → K × V
  image f x = f x.0 x.1

  -- n is a map whose keys are exactly those of the images of the pairs of m, and each pair of which is the image of some pair of m
  pub record IsImage (R : K → K → Ordering) (f : K → V → K × V) (m n : Map K V) : Type 0 where
    -- its keys rise strictly, so none stands twice
    pub is_map : IsMap R n
    pub from : (y : K × V) → Contains n y → (x : K × V) × Contains m x × (image f x ≡ y)
    pub keys : (x : K × V) → Contains m x → (v : V) × Contains n ((image f x).0, v)

  -- the items of the pairs
  abbrev pub items_of : {I : Type 0} → (K → V → I) → Map K V → List I
  items_of i m = map (λ x. i x.0 x.1) m

module _ {K V I : Type 0} where
  -- the answers that the question may have for a map, whose keys have the order R
  abbrev pub answers : (K → K → Ordering) → Question K V I → Map K V → Answer K V I → Type 0
  answers R (count p) m (Answer.number n) = n ≡ length (passing p m)
  answers R (exists p) m (Answer.truth b) = b ≡ list_any (passes p) m
  answers R (for_all p) m (Answer.truth b) = b ≡ list_all (passes p) m
  answers R (find p) m (Answer.found None) = list_any (passes p) m ≡ false
  answers R (find p) m (Answer.found (Some x)) = Contains m x × (passes p x ≡ true)
  answers R (filtered p to) m (Answer.made n) = n ≡ passing p m
  answers R (mapped f to) m (Answer.made n) = n ≡ with_values f m
  answers R (paired f to) m (Answer.images n) = IsImage R f m n
  answers R (fold op unit i) m (Answer.item a) = a ≡ folded op unit (items_of i m)
  answers R q m a = ⊥

  -- the map decides: its answer is that of every larger map
  abbrev pub decides : Question K V I → Map K V → Type 0
  decides (exists p) m = list_any (passes p) m ≡ true
  decides (for_all p) m = list_all (passes p) m ≡ false
  decides (find p) m = list_any (passes p) m ≡ true
  decides q m = ⊥

  -- the number of the handle that is to have the map that is made
  abbrev pub target : Question K V I → Option ℕ
  target (filtered p to) = Some to
  target (mapped f to) = Some to
  target (paired f to) = Some to
  target q = None

  -- the map that an answer makes
  abbrev pub map_of : Answer K V I → Map K V
  map_of (Answer.made m) = m
  map_of (Answer.images m) = m
  map_of a = []

  -- what is reported of an answer
  abbrev pub summary : Answer K V I → Summary K V I
  summary (Answer.number n) = Summary.number n
  summary (Answer.truth b) = Summary.truth b
  summary (Answer.found x) = Summary.found x
  summary (Answer.made m) = Summary.made (length m)
  summary (Answer.images m) = Summary.images m
  summary (Answer.item a) = Summary.item a
