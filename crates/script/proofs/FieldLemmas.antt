-- The first field of a line.
use Prim.Native.Nat.{zero, suc}
use Rattle.std.proofs.Common.{◌≡◌, ◌≢◌, ℕ, ◌-◌, ◌<◌, ◌≤◌, ◌∙◌, true, false, List, [], ◌∷◌, length, take, drop, get_or, refl, ap, sym, arith, nat_lt, length-drop, get_or-drop, length-take-le}
use Rattle.std.proofs.lemmas.List.Splits.{slice_split-cons_no}
use Rattle.std.proofs.lemmas.Bool.Decides.{nat_tests}
use Rattle.std.proofs.lemmas.Grind.{common_steps}
use Rattle.std.specs.List.{slice_split, filter}
use Rattle.std.specs.Prelude.{◌==◌}
use Rattle.script.specs.Lines.{fields_of}

-- spaces at the front mean nothing
pub spaces_skipped : (line : List ℕ) (n : ℕ) → n ≤ length line → ((k : ℕ) → k < n → get_or line k 0 ≡ 32) → fields_of (drop n line) ≡ fields_of line
spaces_skipped line zero l h = refl
spaces_skipped [] (suc n) l h = absurd (omega arith)
spaces_skipped (b ∷ line) (suc n) l h =
    let space : b ≡ 32 = h 0 (omega arith) in
    let more = spaces_skipped line n (omega arith) (λ k below. h (suc k) (omega arith)) in
    rw space more

-- what `slice_split` gives behind the first part
abbrev parts_after : List ℕ → List (List ℕ)
parts_after [] = []
parts_after (b ∷ line) = slice_split (λ b. b == 32) line

split_first : (line : List ℕ) (n : ℕ) → n ≤ length line → ((k : ℕ) → k < n → get_or line k 0 ≢ 32) → (n < length line → get_or line n 0 ≡ 32) → slice_split (λ b. b == 32) line ≡ take n line ∷ parts_after (drop n line)
split_first [] zero l h e = refl
split_first (b ∷ line) zero l h e = let space : b ≡ 32 = e (omega arith) in rw space refl
split_first [] (suc n) l h e = absurd (omega arith)
split_first (b ∷ line) (suc n) l h e =
    let other : b ≢ 32 = h 0 (omega arith) in
    let no : (b == 32) ≡ false = grind (arith, nat_tests) in
    let more = split_first line n (omega arith) (λ k below. h (suc k) (omega arith)) (λ below. e (omega arith)) in
    slice_split-cons_no (λ b. b == 32) b line no ∙ rw more refl

fields_after : (line : List ℕ) → (0 < length line → get_or line 0 0 ≡ 32) → filter (λ part. nat_lt 0 (length part)) (parts_after line) ≡ fields_of line
fields_after [] e = refl
fields_after (b ∷ line) e = let space : b ≡ 32 = e (omega arith) in rw space refl

at_drop : (line : List ℕ) (n : ℕ) → (n < length line → get_or line n 0 ≡ 32) → n < length line → get_or (drop n line) 0 0 ≡ 32
at_drop line n e below = get_or-drop n line 0 0 ∙ ap (λ i. get_or line i 0) (omega arith) ∙ e below

-- the first field is what stands before the first space
pub first_field : (line : List ℕ) (n : ℕ) → 0 < n → n ≤ length line → ((k : ℕ) → k < n → get_or line k 0 ≢ 32) → (n < length line → get_or line n 0 ≡ 32) → fields_of line ≡ take n line ∷ fields_of (drop n line)
first_field line n some l h e =
    let size : length (take n line) ≡ n = grind (arith, common_steps) in
    let full : nat_lt 0 (length (take n line)) ≡ true = grind (arith, nat_tests) in
    let end : 0 < length (drop n line) → get_or (drop n line) 0 0 ≡ 32 = λ below. at_drop line n e (omega (arith, length-drop n line)) in
    rw (split_first line n l h e, full, fields_after (drop n line) end) refl

-- what `next` finds behind m spaces: a field of n bytes, or none
pub next_field : (line text field rest : List ℕ) (m n : ℕ) → m ≤ length line → ((k : ℕ) → k < m → get_or line k 0 ≡ 32) → text ≡ drop m line → n ≤ length text → ((k : ℕ) → k < n → get_or text k 0 ≢ 32) → (n < length text → get_or text n 0 ≡ 32) → field ≡ take n text → rest ≡ drop n text → 0 < length field → fields_of line ≡ field ∷ fields_of rest
next_field line text field rest m n l spaces is_text h bytes end is_field is_rest some =
    let positive : 0 < n = omega (arith, ap length is_field, length-take-le n text h) in
    let skipped : fields_of text ≡ fields_of line = ap fields_of is_text ∙ spaces_skipped line m l spaces in
    sym skipped ∙ first_field text n positive h bytes end ∙ rw (← is_field, ← is_rest) refl

empty_from_length : (xs : List ℕ) → length xs ≡ 0 → xs ≡ []
empty_from_length [] e = refl
empty_from_length (x ∷ xs) e = absurd (omega arith)

is_empty : (line text : List ℕ) (m n : ℕ) → n ≡ 0 → get_or text 0 0 ≡ get_or line m 0 → length text ≡ length line - m → (m < length line → get_or line m 0 ≢ 32) → (n < length text → get_or text n 0 ≡ 32) → length text ≡ 0
is_empty line [] m n none same len other end = refl
is_empty line (b ∷ text) m n none same len other end =
    let here : get_or (b ∷ text) n 0 ≡ 32 = end (omega arith) in
    let first : get_or (b ∷ text) 0 0 ≡ 32 = ap (λ i. get_or (b ∷ text) i 0) (sym none) ∙ here in
    absurd (other (omega arith) (sym same ∙ first))

drop_nil : (n : ℕ) → drop {A = ℕ} n [] ≡ []
drop_nil zero = refl
drop_nil (suc n) = refl

pub no_field : (line text field rest : List ℕ) (m n : ℕ) → m ≤ length line → ((k : ℕ) → k < m → get_or line k 0 ≡ 32) → (m < length line → get_or line m 0 ≢ 32) → text ≡ drop m line → n ≤ length text → (n < length text → get_or text n 0 ≡ 32) → field ≡ take n text → rest ≡ drop n text → length field ≡ 0 → (fields_of line ≡ []) × (fields_of rest ≡ [])
no_field line text field rest m n l spaces other is_text h end is_field is_rest nothing =
    let none : n ≡ 0 = omega (arith, ap length is_field, length-take-le n text h) in
    let same : get_or text 0 0 ≡ get_or line m 0 = ap (λ t. get_or t 0 0) is_text ∙ get_or-drop m line 0 0 ∙ ap (λ i. get_or line i 0) (omega arith) in
    let len : length text ≡ length line - m = ap length is_text ∙ length-drop m line in
    let empty : text ≡ [] = empty_from_length text (is_empty line text m n none same len other end) in
    let skipped : fields_of text ≡ fields_of line = ap fields_of is_text ∙ spaces_skipped line m l spaces in
    (sym skipped ∙ ap fields_of empty, ap fields_of (is_rest ∙ ap (drop n) empty ∙ drop_nil n))
