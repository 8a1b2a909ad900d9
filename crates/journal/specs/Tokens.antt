-- Lists of tokens.
use Rattle.std.specs.Prelude.{List, map, All}
use Rattle.boxcar.specs.Table.{Shelves, Where, Shows}

module _ {E : Type 0} where
  -- the entry that a token shows
  abbrev pub entry_at : Where E → E
  entry_at token = token.value

  -- the entries that the tokens show
  abbrev pub entries_of : List (Where E) → List E
  entries_of ts = map entry_at ts

  -- each token is of this vector
  abbrev pub AllShown : Shelves → List (Where E) → Type 0
  AllShown t ts = All (λ (token : Where E). Shows t token) ts
