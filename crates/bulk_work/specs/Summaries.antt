-- What is reported of an answer, and the map that it makes.
use Rattle.std.specs.Prelude.{◌≡◌, ℕ, Option, Some, None, option_map}
use Rattle.versions.specs.Contents.{Contents}
use Rattle.versions.specs.declared.version.TheConstants.{MOST_PAIRS}
use Rattle.bulk_work.specs.Answers as plain
use Rattle.bulk_work.specs.Pairs.{pair_of}
use Rattle.bulk_work.specs.declared.asks.Answer.{Answer}
use Rattle.bulk_work.specs.declared.asks.Answer.TheVariants.{Count, Truth, Found, Made, Images, Item}

module _ {K V I : Type 0} where
  -- what is reported, wherever its pair lies
  abbrev pub summary_of : Answer K V I → plain.Summary K V I
  summary_of (Count n) = plain.Summary.number n
  summary_of (Truth b) = plain.Summary.truth b
  summary_of (Found x) = plain.Summary.found (option_map pair_of x)
  summary_of (Made n) = plain.Summary.made n
  summary_of (Images m) = plain.Summary.images m
  summary_of (Item a) = plain.Summary.item a

  -- there is a version exactly where there is a target, and it has the answer's map, with the largest limit and no generation's stamp
  abbrev pub MakesFor : Option ℕ → plain.Answer K V I → Option (Contents K V) → Type 0
  MakesFor None a None = Unit {0}
  MakesFor (Some to) a (Some v) = (v.entries ≡ plain.map_of a) × (v.limit ≡ MOST_PAIRS) × (v.stamp ≡ 0)
  MakesFor to a v = ⊥

  -- there is an answer of which this is reported, and of which this map is made
  abbrev pub IsAnswered : (plain.Answer K V I → Type 0) → Option ℕ → Answer K V I → Option (Contents K V) → Type 0
  IsAnswered answered to told made = (a : plain.Answer K V I) × answered a × (summary_of told ≡ plain.summary a) × MakesFor to a made
