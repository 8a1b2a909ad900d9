-- A line reads as its members, and so it is the line of no others.
use Rattle.std.proofs.Common.{◌≡◌, ℕ, ◌<◌, ◌≤◌, ◌^◌, ◌∙◌, List, [], Option, Some, option_and_then, get_or, refl, sym, ap, arith, append-nil}
use Rattle.json.specs.Token.{Token}
use Rattle.json.specs.Lex.{tokens}
use Rattle.json.specs.Json as json
use Rattle.json.specs.Tree as tree
use Rattle.json.specs.Tree.{json_tokens, HasNumbers}
use Rattle.json.proofs.Printed.Decimals.{IsNumber-decimal}
use Rattle.json.proofs.Printed.Tokens.{tokens-print}
use Rattle.json.proofs.Printed.Trees.{ArePrintable-json_tokens, value-json_tokens}
use Rattle.serde_json.specs.Data.{Data}
use Rattle.serde_json.specs.Read.{of_json, read, max_depth}
use Rattle.serde_json.specs.Written.{compact_text, outline}
use Rattle.serde_json.proofs.Numbers.{number_of-decimal}
use Rattle.serde_json.proofs.OnLiterals.{serde_json_on_literals}
use Rattle.serde_json.proofs.Texts.{print-outline}
use Rattle.journal_lines.specs.Lines.{line_data, line_of, end_line}

-- the value that tokens are, of which this is what was read
abbrev whole : Option (json.Json × List Token) → Option Data
whole o = option_and_then of_json (option_and_then (λ p. json.if_last p.0 p.1) o)

-- a value whose outline reads back is read from its text
pub read_compact : (d : Data) → of_json (outline d) ≡ Some d → HasNumbers (outline d) → tree.depth (outline d) ≤ 127 → read (compact_text d) ≡ Some d
read_compact d back numbers shallow =
    let ts = json_tokens (outline d) in
    let text : tokens (compact_text d) ≡ ts = ap tokens (sym (print-outline d)) ∙ tokens-print ts (ArePrintable-json_tokens (outline d) numbers) in
    ap whole (ap (json.value max_depth) (text ∙ sym (append-nil ts)) ∙ value-json_tokens (outline d) max_depth [] shallow) ∙ back

pub line_is_compact : (n : ℕ) (call reply : List ℕ) (seat : ℕ) → compact_text (line_data n call reply seat) ≡ line_of n call reply seat
unfolding serde_json_on_literals
line_is_compact n call reply seat = refl

line_back : (n : ℕ) (call reply : List ℕ) (seat : ℕ) → n < 2 ^ 64 → seat < 2 ^ 64 → of_json (outline (line_data n call reply seat)) ≡ Some (line_data n call reply seat)
line_back n call reply seat hn hs = rw (number_of-decimal n hn, number_of-decimal seat hs) refl

line_numbers : (n : ℕ) (call reply : List ℕ) (seat : ℕ) → n < 2 ^ 64 → seat < 2 ^ 64 → HasNumbers (outline (line_data n call reply seat))
line_numbers n call reply seat hn hs = (tt, (IsNumber-decimal n hn, (tt, (IsNumber-decimal seat hs, tt))))

-- a line reads as its members
pub line_reads : (n : ℕ) (call reply : List ℕ) (seat : ℕ) → n < 2 ^ 64 → seat < 2 ^ 64 → read (line_of n call reply seat) ≡ Some (line_data n call reply seat)
line_reads n call reply seat hn hs =
    ap read (sym (line_is_compact n call reply seat)) ∙ read_compact (line_data n call reply seat) (line_back n call reply seat hn hs) (line_numbers n call reply seat hn hs) (omega arith)

-- lines with different members differ
pub same_members : (m n : ℕ) (call reply calls replies : List ℕ) (seat seats : ℕ) → m < 2 ^ 64 → n < 2 ^ 64 → seat < 2 ^ 64 → seats < 2 ^ 64
    → line_of m call reply seat ≡ line_of n calls replies seats → (m ≡ n) × (call ≡ calls) × (reply ≡ replies) × (seat ≡ seats)
same_members m n call reply calls replies seat seats hm hn hs ht e =
    let same : Some (line_data m call reply seat) ≡ Some (line_data n calls replies seats) = sym (line_reads m call reply seat hm hs) ∙ ap read e ∙ line_reads n calls replies seats hn ht in
    (cc, cc, cc, cc)

differ : (a b : ℕ) → a ≡ 99 → b ≡ 101 → a ≡ b → ⊥
differ a b p q r = omega arith

-- an entry's line is no last line
pub no_end : (n : ℕ) (call reply : List ℕ) (seat count : ℕ) → line_of n call reply seat ≡ end_line count → ⊥
no_end n call reply seat count e = differ (get_or (line_of n call reply seat) 2 0) (get_or (end_line count) 2 0) refl refl (ap (λ (l : List ℕ). get_or l 2 0) e)
