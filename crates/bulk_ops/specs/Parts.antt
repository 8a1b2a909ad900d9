-- What kind of part a part is.
use Rattle.std.specs.Prelude.{◌≡◌, ◌<◌, length}
use Rattle.std.specs.declared.cmp.Ordering.{Ordering}
use Rattle.versions.specs.Map.{IsMap, with_pair}
use Rattle.versions.specs.declared.version.TheConstants.{MOST_PAIRS}
use Rattle.bulk_ops.specs.declared.part.Part.{Part}
use Rattle.bulk_ops.specs.declared.part.Part.TheVariants.{Number, Truth, Found, Made, Images, Item}

module _ {K V I : Type 0} where
  -- the part is a number
  abbrev pub HasNumber : Part K V I → Type 0
  HasNumber (Number n) = Unit {0}
  HasNumber part = ⊥

  -- the part is a truth value
  abbrev pub HasTruth : Part K V I → Type 0
  HasTruth (Truth b) = Unit {0}
  HasTruth part = ⊥

  -- the part is a pair, or that none was found
  abbrev pub HasPair : Part K V I → Type 0
  HasPair (Found x) = Unit {0}
  HasPair part = ⊥

  -- the part is a map that was made
  abbrev pub HasMap : Part K V I → Type 0
  HasMap (Made v) = Unit {0}
  HasMap part = ⊥

  -- the part is an item
  abbrev pub HasItem : Part K V I → Type 0
  HasItem (Item a) = Unit {0}
  HasItem part = ⊥

  -- the part made a map that has fewer pairs than it may have
  abbrev pub HasRoom : Part K V I → Type 0
  HasRoom (Made v) = length v.entries < v.limit
  HasRoom part = ⊥

  -- the new part's map is the old one's with the pair
  abbrev pub IsPut : (K → K → Ordering) → Part K V I → K → V → Part K V I → Type 0
  IsPut R (Made v) k x (Made w) = (w.entries ≡ with_pair R v.entries k x) × (w.limit ≡ v.limit) × (w.stamp ≡ v.stamp)
  IsPut R old k x new = ⊥

  -- the part is a map of images
  abbrev pub HasImages : Part K V I → Type 0
  HasImages (Images v w) = Unit {0}
  HasImages part = ⊥

  -- the part is a map of images, of fewer pairs than one may have and of no generation's stamp
  abbrev pub HasImageRoom : Part K V I → Type 0
  HasImageRoom (Images v w) = (length v.entries < MOST_PAIRS) × (v.stamp ≡ 0)
  HasImageRoom part = ⊥

  -- the new part's map of images is the old one's with the pair, and its keys rise strictly
  abbrev pub IsImagePut : (K → K → Ordering) → Part K V I → K → V → Part K V I → Type 0
  IsImagePut R (Images v w) k x (Images y z) = (z ≡ with_pair R v.entries k x) × IsMap R z × (y.limit ≡ MOST_PAIRS) × (y.stamp ≡ 0) × (y.entries ≡ z)
  IsImagePut R old k x new = ⊥
