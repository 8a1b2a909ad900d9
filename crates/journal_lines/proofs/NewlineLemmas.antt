-- No line has a newline in it, so the lines of a journal's text are its lines again.
use Prim.Native.Nat.{suc}
use Rattle.std.proofs.Common.{◌≡◌, ◌≢◌, ℕ, ◌+◌, ◌<◌, ◌^◌, ◌∙◌, ◌/◌, ◌%◌, true, false, Bool, List, [], ◌∷◌, ◌++◌, length, get_or, refl, sym, arith, codes, nat_lt}
use Rattle.std.specs.Prelude.{◌==◌, cond}
use Rattle.std.specs.Char.{digit_char}
use Rattle.std.specs.Fmt.{decimal}
use Rattle.std.proofs.lemmas.Bool.Decides.{nat_tests}
use Rattle.std.proofs.lemmas.Fmt.{decimal_is_IsNumeral}
use Rattle.std.proofs.lemmas.Str.Parse.{digit_at}
use Rattle.json.specs.Print.{quoted, escape, escape_byte, escape_letter}
use Rattle.journal_lines.specs.Lines.{line_of, end_line, ended, lines_in}

-- no byte is a newline
abbrev pub IsOneLine : List ℕ → Type 0
IsOneLine [] = Unit {0}
IsOneLine (b ∷ w) = (b ≢ 10) × IsOneLine w

one_line_append : (a b : List ℕ) → IsOneLine a → IsOneLine b → IsOneLine (a ++ b)
one_line_append [] b ha hb = hb
one_line_append (x ∷ a) b ha hb = (ha.0, one_line_append a b ha.1 hb)

by_places : (w : List ℕ) → ((k : ℕ) → k < length w → get_or w k 0 ≢ 10) → IsOneLine w
by_places [] h = tt
by_places (b ∷ w) h = (h 0 (omega arith), by_places w (λ k below. h (suc k) (omega arith)))

decimal_line : (n : ℕ) → n < 2 ^ 64 → IsOneLine (decimal n)
decimal_line n fits =
    let p = decimal_is_IsNumeral n fits in
    by_places (decimal n) (λ k below e. let range = digit_at (decimal n) k p.0.1 below in omega (arith, range.0))

letter_other : (x : ℕ) → escape_letter x ≢ 10
letter_other x e = grind (arith, nat_tests)

digit_other : (d : ℕ) → digit_char d ≢ 10
digit_other d e = grind (arith, nat_tests)

by_tests : (a b : Bool) (x l d e : ℕ) → l ≢ 10 → d ≢ 10 → e ≢ 10 → (b ≡ false → x ≢ 10) → IsOneLine (cond a (92 ∷ l ∷ []) (cond b (92 ∷ 117 ∷ 48 ∷ 48 ∷ d ∷ e ∷ []) (x ∷ [])))
by_tests true b x l d e hl hd he hx = (λ is. omega arith, (hl, tt))
by_tests false true x l d e hl hd he hx = (λ is. omega arith, (λ is. omega arith, (λ is. omega arith, (λ is. omega arith, (hd, (he, tt))))))
by_tests false false x l d e hl hd he hx = (hx refl, tt)

escaped_line : (x : ℕ) → IsOneLine (escape_byte x)
unfolding escape_byte
escaped_line x = by_tests (nat_lt 0 (escape_letter x)) (nat_lt x 32) x (escape_letter x) (digit_char (x / 16)) (digit_char (x % 16)) (letter_other x) (digit_other (x / 16)) (digit_other (x % 16)) (λ no is. grind (arith, nat_tests))

escape_line : (s : List ℕ) → IsOneLine (escape s)
escape_line [] = tt
escape_line (x ∷ s) = one_line_append (escape_byte x) (escape s) (escaped_line x) (escape_line s)

quoted_line : (s : List ℕ) → IsOneLine (quoted s)
quoted_line s = (λ e. omega arith, one_line_append (escape s) (34 ∷ []) (escape_line s) (λ e. omega arith, tt))

-- whether no letter of a literal is a newline
abbrev pub are_other : List ℕ → Bool
are_other [] = true
are_other (b ∷ w) = cond (b == 10) false (are_other w)

letter_line : (t : Bool) (b : ℕ) (w : List ℕ) → (b == 10) ≡ t → cond t false (are_other w) ≡ true → (are_other w ≡ true → IsOneLine w) → IsOneLine (b ∷ w)
letter_line true b w is e more = cc
letter_line false b w is e more = ((λ same. let yes : (b == 10) ≡ true = grind (arith, nat_tests) in let bad : true ≡ false = sym yes ∙ is in cc), more e)

literal_line : (w : List ℕ) → are_other w ≡ true → IsOneLine w
literal_line [] e = tt
literal_line (b ∷ w) e = letter_line (b == 10) b w refl e (literal_line w)

-- a literal before what has none
before : (front w : List ℕ) → are_other front ≡ true → IsOneLine w → IsOneLine (front ++ w)
before front w e h = one_line_append front w (literal_line front e) h

pub line_one : (n : ℕ) (call reply : List ℕ) (seat : ℕ) → n < 2 ^ 64 → seat < 2 ^ 64 → IsOneLine (line_of n call reply seat)
line_one n call reply seat hn hs =
    let last = codes "}" in
    let seats = decimal seat ++ last in
    let behind_reply = codes ",\"seat\":" ++ seats in
    let replies = quoted reply ++ behind_reply in
    let behind_number = codes ",\"reply\":" ++ replies in
    let numbers = decimal n ++ behind_number in
    let behind_call = codes ",\"entry\":" ++ numbers in
    let calls = quoted call ++ behind_call in
    let seats_one : IsOneLine seats = one_line_append (decimal seat) last (decimal_line seat hs) (literal_line last refl) in
    let behind_reply_one : IsOneLine behind_reply = before (codes ",\"seat\":") seats refl seats_one in
    let replies_one : IsOneLine replies = one_line_append (quoted reply) behind_reply (quoted_line reply) behind_reply_one in
    let behind_number_one : IsOneLine behind_number = before (codes ",\"reply\":") replies refl replies_one in
    let numbers_one : IsOneLine numbers = one_line_append (decimal n) behind_number (decimal_line n hn) behind_number_one in
    let behind_call_one : IsOneLine behind_call = before (codes ",\"entry\":") numbers refl numbers_one in
    let calls_one : IsOneLine calls = one_line_append (quoted call) behind_call (quoted_line call) behind_call_one in
    before (codes "{\"call\":") calls refl calls_one

pub end_one : (n : ℕ) → n < 2 ^ 64 → IsOneLine (end_line n)
end_one n hn = before (codes "{\"entries\":") (decimal n ++ codes "}") refl (one_line_append (decimal n) (codes "}") (decimal_line n hn) (literal_line (codes "}") refl))

-- the first line of a text that begins with this one is this one
pub first_line : (line rest : List ℕ) → IsOneLine line → lines_in (ended line ++ rest) ≡ ended line ∷ lines_in rest
first_line [] rest h = refl
first_line (b ∷ line) rest h =
    let other : b ≢ 10 = h.0 in
    let no : (b == 10) ≡ false = grind (arith, nat_tests) in
    let more = first_line line rest h.1 in
    rw (no, more) refl
