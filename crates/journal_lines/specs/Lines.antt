-- The lines of a journal's text.
use Rattle.std.specs.Prelude.{◌≡◌, ℕ, ◌<◌, ◌^◌, ◌++◌, ◌==◌, List, [], ◌∷◌, codes, cond}
use Rattle.std.specs.List.{onto_first}
use Rattle.std.specs.Fmt.{decimal}
use Rattle.json.specs.Print.{quoted}
use Rattle.serde_json.specs.Data.{Data, number, unsigned, string, object, member, no_members}

-- the line with these members: JSON with no space, and its texts as JSON writes them
abbrev pub line_of : ℕ → List ℕ → List ℕ → ℕ → List ℕ
line_of n call reply seat =
    codes "{\"call\":" ++ (quoted call ++ (codes ",\"entry\":" ++ (decimal n ++ (codes ",\"reply\":" ++ (quoted reply ++ (codes ",\"seat\":" ++ (decimal seat ++ codes "}")))))))

-- the same members as a JSON value
abbrev pub line_data : ℕ → List ℕ → List ℕ → ℕ → Data
line_data n call reply seat = object (member (codes "call") (string call) (member (codes "entry") (number (unsigned n)) (member (codes "reply") (string reply) (member (codes "seat") (number (unsigned seat)) no_members))))

-- the line behind the last of that many entries
abbrev pub end_line : ℕ → List ℕ
end_line count = codes "{\"entries\":" ++ (decimal count ++ codes "}")

-- a line with its newline
abbrev pub ended : List ℕ → List ℕ
ended line = line ++ 10 ∷ []

-- the text is no entry's line
abbrev pub IsNoLine : List ℕ → Type 0
IsNoLine text = (n : ℕ) (call reply : List ℕ) (seat : ℕ) → n < 2 ^ 64 → seat < 2 ^ 64 → text ≡ line_of n call reply seat → ⊥

-- where the text is an entry's line, it is one with these members
abbrev pub HasMembers : List ℕ → List ℕ → List ℕ → ℕ → Type 0
HasMembers text call reply seat = (n : ℕ) (calls replies : List ℕ) (seats : ℕ) → n < 2 ^ 64 → seats < 2 ^ 64 → text ≡ line_of n calls replies seats → (call ≡ calls) × (reply ≡ replies) × (seat ≡ seats)

-- the lines of a text, each with the 0x0a that ends it, which the last may lack
abbrev pub lines_in : List ℕ → List (List ℕ)
lines_in [] = []
lines_in (b ∷ bytes) = cond (b == 10) ((b ∷ []) ∷ lines_in bytes) (onto_first b (lines_in bytes))
