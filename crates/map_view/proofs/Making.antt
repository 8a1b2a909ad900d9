-- What a map of new values has of the view.
use Rattle.std.proofs.Common.{◌≡◌, [], ◌∷◌, length, refl, ap, suc}
use Rattle.versions.specs.Map.{Map}
use Rattle.trie_values.specs.Values.{AreGiven}

-- as many pairs
pub length_given : {K V W : Type 0} (gives : K → V → W → Type 0) (es : Map K V) (fs : Map K W) → AreGiven gives es fs → length fs ≡ length es
length_given gives [] [] h = refl
length_given gives [] (y ∷ fs) h = absurd h
length_given gives (x ∷ es) [] h = absurd h
length_given gives (x ∷ es) (y ∷ fs) h = ap suc (length_given gives es fs h.1)
