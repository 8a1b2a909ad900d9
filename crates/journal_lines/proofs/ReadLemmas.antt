-- What a text reads as says whether it is a line.
use Rattle.std.proofs.Common.{◌≡◌, ℕ, ◌<◌, ◌^◌, ◌∙◌, ◌++◌, List, Some, None, codes, refl, sym, ap}
use Rattle.std.specs.Fmt.{decimal}
use Rattle.std.specs.Str.{IsUtf8}
use Rattle.std.proofs.lemmas.Fmt.{IsAscii-decimal}
use Rattle.std.proofs.lemmas.Str.{IsUtf8-append, IsUtf8-from_ascii}
use Rattle.json.specs.Print.{quoted}
use Rattle.json.proofs.Printed.Utf8.{IsUtf8-are_ascii, IsUtf8-quoted}
use Rattle.serde_json.specs.Data.{Data}
use Rattle.serde_json.specs.Read.{read}
use Rattle.journal_lines.specs.Lines.{HasMembers, IsNoLine, line_data, line_of}
use Rattle.journal_lines.proofs.LineLemmas.{line_reads}
use Rattle.journal_lines.specs.Members.{number_at, text_at}

-- what reads as nothing is no line
pub unread_is_no_line : (text : List ℕ) → read text ≡ None → IsNoLine text
unread_is_no_line text none n call reply seat hn hs is =
    let there : Some (line_data n call reply seat) ≡ None = sym (line_reads n call reply seat hn hs) ∙ ap read (sym is) ∙ none in
    cc

-- what reads as a value is a line only where the value is that of the line
pub read_is_line : (text : List ℕ) (d : Data) (n : ℕ) (call reply : List ℕ) (seat : ℕ) → read text ≡ Some d → n < 2 ^ 64 → seat < 2 ^ 64 → text ≡ line_of n call reply seat → d ≡ line_data n call reply seat
read_is_line text d n call reply seat found hn hs is =
    let same : Some d ≡ Some (line_data n call reply seat) = sym found ∙ ap read is ∙ line_reads n call reply seat hn hs in
    cc

-- a value with no text or no number at a name is no line's
pub no_call : (text : List ℕ) (d : Data) → read text ≡ Some d → text_at (codes "call") d ≡ None → IsNoLine text
no_call text d found none n call reply seat hn hs is =
    let there : Some call ≡ None = sym (ap (text_at (codes "call")) (read_is_line text d n call reply seat found hn hs is)) ∙ none in
    cc

pub no_reply : (text : List ℕ) (d : Data) → read text ≡ Some d → text_at (codes "reply") d ≡ None → IsNoLine text
no_reply text d found none n call reply seat hn hs is =
    let there : Some reply ≡ None = sym (ap (text_at (codes "reply")) (read_is_line text d n call reply seat found hn hs is)) ∙ none in
    cc

pub no_seat : (text : List ℕ) (d : Data) → read text ≡ Some d → number_at (codes "seat") d ≡ None → IsNoLine text
no_seat text d found none n call reply seat hn hs is =
    let there : Some seat ≡ None = sym (ap (number_at (codes "seat")) (read_is_line text d n call reply seat found hn hs is)) ∙ none in
    cc

pub has_members : (text : List ℕ) (d : Data) (call reply : List ℕ) (seat : ℕ) → read text ≡ Some d → text_at (codes "call") d ≡ Some call → text_at (codes "reply") d ≡ Some reply → number_at (codes "seat") d ≡ Some seat → HasMembers text call reply seat
has_members text d call reply seat found a b e n calls replies seats hn hs is =
    let same = read_is_line text d n calls replies seats found hn hs is in
    let one : Some call ≡ Some calls = sym a ∙ ap (text_at (codes "call")) same in
    let two : Some reply ≡ Some replies = sym b ∙ ap (text_at (codes "reply")) same in
    let three : Some seat ≡ Some seats = sym e ∙ ap (number_at (codes "seat")) same in
    (cc, cc, cc)

-- the line of two texts is a text
pub line_is_text : (n : ℕ) (call reply : List ℕ) (seat : ℕ) → n < 2 ^ 64 → seat < 2 ^ 64 → IsUtf8 call → IsUtf8 reply → IsUtf8 (line_of n call reply seat)
line_is_text n call reply seat hn hs hc hr =
    let number = IsUtf8-from_ascii (decimal n) (IsAscii-decimal n hn) in
    let numbers = IsUtf8-from_ascii (decimal seat) (IsAscii-decimal seat hs) in
    let last = IsUtf8-append (decimal seat) (codes "}") numbers (IsUtf8-are_ascii (codes "}") refl) in
    let seats = IsUtf8-append (codes ",\"seat\":") (decimal seat ++ codes "}") (IsUtf8-are_ascii (codes ",\"seat\":") refl) last in
    let replies = IsUtf8-append (quoted reply) (codes ",\"seat\":" ++ (decimal seat ++ codes "}")) (IsUtf8-quoted reply hr) seats in
    let named = IsUtf8-append (codes ",\"reply\":") (quoted reply ++ (codes ",\"seat\":" ++ (decimal seat ++ codes "}"))) (IsUtf8-are_ascii (codes ",\"reply\":") refl) replies in
    let entries = IsUtf8-append (decimal n) (codes ",\"reply\":" ++ (quoted reply ++ (codes ",\"seat\":" ++ (decimal seat ++ codes "}")))) number named in
    let entry = IsUtf8-append (codes ",\"entry\":") (decimal n ++ (codes ",\"reply\":" ++ (quoted reply ++ (codes ",\"seat\":" ++ (decimal seat ++ codes "}"))))) (IsUtf8-are_ascii (codes ",\"entry\":") refl) entries in
    let calls = IsUtf8-append (quoted call) (codes ",\"entry\":" ++ (decimal n ++ (codes ",\"reply\":" ++ (quoted reply ++ (codes ",\"seat\":" ++ (decimal seat ++ codes "}")))))) (IsUtf8-quoted call hc) entry in
    IsUtf8-append (codes "{\"call\":") (quoted call ++ (codes ",\"entry\":" ++ (decimal n ++ (codes ",\"reply\":" ++ (quoted reply ++ (codes ",\"seat\":" ++ (decimal seat ++ codes "}"))))))) (IsUtf8-are_ascii (codes "{\"call\":") refl) calls
