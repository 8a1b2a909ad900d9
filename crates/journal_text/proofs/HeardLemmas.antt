-- What is heard of a text.
use Rattle.std.proofs.Common.{◌≡◌, ◌≢◌, true, false, ℕ, ◌<◌, ◌^◌, ◌∙◌, List, ◌∷◌, ◌++◌, ◌+◌, drop, take, length, Option, Some, None, Result, Ok, Err, IfOk, refl, ap, sym, subst, codes}
use Rattle.std.specs.Prelude.{ℤ, ◌==◌, MatchOption}
use Rattle.std.specs.Fmt.{decimal}
use Rattle.std.specs.List.{join_with_byte, slice_split}
use Rattle.std.specs.Cmp.Lexicographic.{pointwise}
use Rattle.std.proofs.lemmas.Slice.Eq.{bytes_eq-Decides, slice_eq-Decides}
use Rattle.std.proofs.lemmas.Bool.Decides.{Decides-eqb}
use Rattle.std.proofs.lemmas.List.{take-append-drop}
use Rattle.std.proofs.Math.Seq.{take-append_seam}
use Rattle.keys.specs.Order.{bytes_eq}
use Rattle.handles.specs.Machine.{open_handle, snapshot, drop_handle, on, view, freeze, finish, abandon, worker_step}
use Rattle.script.specs.Lines.{fields_of}
use Rattle.script.specs.Statements.{words_of, IsLawful}
use Rattle.script.specs.declared.statement.Statement.{Statement}
use Rattle.script.specs.declared.statement.Statement.TheVariants.{Open, Drop, GetOrElse, Pairs}
use Rattle.script.proofs.WordLemmas.{same_statement}
use Rattle.questions.specs.Program.{ProgramRequest, question_statement, request_for}
use Rattle.journal_text.specs.Calls.{IsLawfulRequest, call_text}
use Rattle.journal_text.specs.Hearing.{IsHeard, IsUnheard, IsNoCall, is_call}
use Rattle.journal_text.proofs.WordLemmas.{IsWord, literal_word, split_word}
use Rattle.journal_text.proofs.CallLemmas.{Said, plain, behind_freeze, seen, ended, dropped, said, first_word, words_said, IsLawfulSaid, words_are, lawful_said, heard, heard_said, no_verb, head_of, is_first, same_said, split_call, same_request}
use Rattle.journal_text.proofs.FieldLemmas.{fields_said, fields_call}

apart : (a b : List ℕ) → bytes_eq a b ≡ false → a ≡ b → ⊥
apart a b other e = let same : bytes_eq a b ≡ true = (bytes_eq-Decides a b).1 e in let bad : true ≡ false = sym same ∙ other in cc

-- a text that begins with a word and a space has it as its first word
first_in : (r : ProgramRequest) (w rest : List ℕ) → IsLawfulRequest r → IsWord w → w ++ 32 ∷ rest ≡ call_text r → first_word (said r) ≡ w
first_in r w rest l word e =
    let words : words_said (said r) ≡ w ∷ slice_split (λ b. b == 32) rest = sym (words_are r) ∙ sym (split_call r l) ∙ ap (slice_split (λ b. b == 32)) (sym e) ∙ split_word w rest word in
    sym (is_first (said r)) ∙ ap head_of words

text_said : (r : ProgramRequest) (a : Said) → said r ≡ a → call_text r ≡ join_with_byte 32 (words_said a)
text_said r a e = ap (join_with_byte 32) (words_are r) ∙ ap (λ (b : Said). join_with_byte 32 (words_said b)) e

-- ---- what begins with `view`, `finish` or `abandon`

only_seen : (a : Said) → first_word a ≡ codes "view" → (h : ℕ) × (a ≡ seen h)
only_seen (plain s) e = absurd (no_verb s (codes "view") refl e)
only_seen (seen h) e = (h, refl)
only_seen a e = absurd (apart (first_word a) (codes "view") refl e)

only_ended : (a : Said) → first_word a ≡ codes "finish" → (j : ℕ) × (a ≡ ended j)
only_ended (plain s) e = absurd (no_verb s (codes "finish") refl e)
only_ended (ended j) e = (j, refl)
only_ended a e = absurd (apart (first_word a) (codes "finish") refl e)

only_dropped : (a : Said) → first_word a ≡ codes "abandon" → (j : ℕ) × (a ≡ dropped j)
only_dropped (plain s) e = absurd (no_verb s (codes "abandon") refl e)
only_dropped (dropped j) e = (j, refl)
only_dropped a e = absurd (apart (first_word a) (codes "abandon") refl e)

only_behind : (a : Said) → first_word a ≡ codes "freeze" → (s : Statement) × (a ≡ behind_freeze s)
only_behind (plain s) e = absurd (no_verb s (codes "freeze") refl e)
only_behind (behind_freeze s) e = (s, refl)
only_behind a e = absurd (apart (first_word a) (codes "freeze") refl e)

pub heard_view : (number : List ℕ) (h : ℕ) → h < 2 ^ 32 → number ≡ decimal h → IsHeard (codes "view " ++ number) (view h)
heard_view number h fits is = record { lawful = fits; only = λ r l e. same_request r (view h) l fits (sym e ∙ ap (λ (n : List ℕ). codes "view " ++ n) is) }

pub unheard_view : (number : List ℕ) → ((n : ℕ) → n < 2 ^ 32 → number ≢ decimal n) → IsUnheard (codes "view " ++ number)
unheard_view number none r l e =
    let p = only_seen (said r) (first_in r (codes "view") number l (literal_word (codes "view") refl) e) in
    let lawful : IsLawfulSaid (seen p.0) = subst IsLawfulSaid p.1 (lawful_said r l) in
    none p.0 lawful (ap (drop 5) (e ∙ text_said r (seen p.0) p.1))

pub heard_finish : (number : List ℕ) (j : ℕ) → j < 2 ^ 32 → number ≡ decimal j → IsHeard (codes "finish " ++ number) (finish j)
heard_finish number j fits is = record { lawful = fits; only = λ r l e. same_request r (finish j) l fits (sym e ∙ ap (λ (n : List ℕ). codes "finish " ++ n) is) }

pub unheard_finish : (number : List ℕ) → ((n : ℕ) → n < 2 ^ 32 → number ≢ decimal n) → IsUnheard (codes "finish " ++ number)
unheard_finish number none r l e =
    let p = only_ended (said r) (first_in r (codes "finish") number l (literal_word (codes "finish") refl) e) in
    let lawful : IsLawfulSaid (ended p.0) = subst IsLawfulSaid p.1 (lawful_said r l) in
    none p.0 lawful (ap (drop 7) (e ∙ text_said r (ended p.0) p.1))

pub heard_abandon : (number : List ℕ) (j : ℕ) → j < 2 ^ 32 → number ≡ decimal j → IsHeard (codes "abandon " ++ number) (abandon j)
heard_abandon number j fits is = record { lawful = fits; only = λ r l e. same_request r (abandon j) l fits (sym e ∙ ap (λ (n : List ℕ). codes "abandon " ++ n) is) }

pub unheard_abandon : (number : List ℕ) → ((n : ℕ) → n < 2 ^ 32 → number ≢ decimal n) → IsUnheard (codes "abandon " ++ number)
unheard_abandon number none r l e =
    let p = only_dropped (said r) (first_in r (codes "abandon") number l (literal_word (codes "abandon") refl) e) in
    let lawful : IsLawfulSaid (dropped p.0) = subst IsLawfulSaid p.1 (lawful_said r l) in
    none p.0 lawful (ap (drop 8) (e ∙ text_said r (dropped p.0) p.1))

-- ---- what a statement asks

lawful_request : (s : Statement) → IsLawful s → IsLawfulRequest (request_for s)
lawful_request (Pairs h) l = l.0
lawful_request (GetOrElse h k v) l = (l.0, (l.1.0, tt))
lawful_request s l = l

-- a lawful request whose words are a statement's is what the statement asks
request_is : (r : ProgramRequest) (s : Statement) → IsLawfulRequest r → IsLawful s → words_said (said r) ≡ words_of s → (said r ≡ plain s) × (r ≡ request_for s)
request_is r s l m words =
    let same : said r ≡ plain s = same_said (said r) (plain s) (lawful_said r l) m words in
    (same, sym (heard_said r) ∙ ap heard same)

words_heard : (text : List ℕ) (r : ProgramRequest) → IsLawfulRequest r → text ≡ call_text r → words_said (said r) ≡ fields_of text
words_heard text r l e = sym (fields_call r l) ∙ ap fields_of (sym e)

pub heard_call : (text : List ℕ) (s : Statement) (heard : ProgramRequest) → IsLawful s → fields_of text ≡ words_of s → heard ≡ request_for s → IsHeard text heard
heard_call text s heard m fields is = record {
  lawful = subst IsLawfulRequest (sym is) (lawful_request s m);
  only = λ r l e. (request_is r s l m (words_heard text r l e ∙ fields)).1 ∙ sym is;
}

plain_call : (r : ProgramRequest) → is_call r ≡ true → (s : Statement) × (said r ≡ plain s)
plain_call (open_handle h) is = (_, refl)
plain_call (snapshot h to) is = (_, refl)
plain_call (drop_handle h) is = (_, refl)
plain_call (on h c) is = (_, refl)
plain_call r is = cc

pub unheard_words : (text : List ℕ) → ((s : Statement) → IsLawful s → fields_of text ≡ words_of s → ⊥) → IsNoCall text
unheard_words text none r l call e =
    let p = plain_call r call in
    none p.0 (subst IsLawfulSaid p.1 (lawful_said r l)) (sym (words_heard text r l e) ∙ ap words_said p.1)

-- ---- what stands behind `freeze`

behind : (question : List ℕ) (r : ProgramRequest) → IsLawfulRequest r → codes "freeze " ++ question ≡ call_text r → (s : Statement) × IsLawful s × (said r ≡ behind_freeze s) × (fields_of question ≡ words_of s)
behind question r l e =
    let p = only_behind (said r) (first_in r (codes "freeze") question l (literal_word (codes "freeze") refl) e) in
    let lawful : IsLawful p.0 = subst IsLawfulSaid p.1 (lawful_said r l) in
    let text : question ≡ join_with_byte 32 (words_of p.0) = ap (drop 7) (e ∙ text_said r (behind_freeze p.0) p.1) in
    (p.0, lawful, p.1, ap fields_of text ∙ fields_said (plain p.0) lawful)

question_is : (question : List ℕ) (s : Statement) (r : ProgramRequest) → IsLawful s → fields_of question ≡ words_of s → IsLawfulRequest r → codes "freeze " ++ question ≡ call_text r → (said r ≡ behind_freeze s) × (r ≡ request_for s)
question_is question s r m fields l e =
    let p = behind question r l e in
    let same : p.0 ≡ s = same_statement p.0 s p.1 m (sym p.3 ∙ fields) in
    let is : said r ≡ behind_freeze s = p.2 ∙ ap behind_freeze same in
    (is, sym (heard_said r) ∙ ap heard is)

pub heard_freeze : (question : List ℕ) (s : Statement) (heard : ProgramRequest) → IsLawful s → fields_of question ≡ words_of s → heard ≡ request_for s → IsHeard (codes "freeze " ++ question) heard
heard_freeze question s heard m fields is = record {
  lawful = subst IsLawfulRequest (sym is) (lawful_request s m);
  only = λ r l e. (question_is question s r m fields l e).1 ∙ sym is;
}

pub unheard_freeze : (question : List ℕ) → ((s : Statement) → IsLawful s → fields_of question ≡ words_of s → ⊥) → IsUnheard (codes "freeze " ++ question)
unheard_freeze question none r l e = let p = behind question r l e in none p.0 p.1 p.3

-- ---- what is read of a statement, if there is one

some_of : {A : Type 0} (P : Type 0) (Q : A → Type 0) (o : Option A) (x : A) → o ≡ Some x → MatchOption o P Q → Q x
some_of P Q o x e m = rw e at m

none_of : {A : Type 0} (P : Type 0) (Q : A → Type 0) (o : Option A) → o ≡ None → MatchOption o P Q → P
none_of P Q o e m = rw e at m

-- what a text's statement is, or that it has none
abbrev IsStatementOf : List ℕ → Option Statement → Type 0
IsStatementOf text found = MatchOption found ((s : Statement) → IsLawful s → fields_of text ≡ words_of s → ⊥) (λ s. IsLawful s × (fields_of text ≡ words_of s))

pub no_statement : (text : List ℕ) (found : Option Statement) → found ≡ None → IsStatementOf text found → (s : Statement) → IsLawful s → fields_of text ≡ words_of s → ⊥
no_statement text found e h = none_of _ (λ s. IsLawful s × (fields_of text ≡ words_of s)) found e h

pub a_statement : (text : List ℕ) (found : Option Statement) (s : Statement) → found ≡ Some s → IsStatementOf text found → IsLawful s × (fields_of text ≡ words_of s)
a_statement text found s e h = some_of ((s : Statement) → IsLawful s → fields_of text ≡ words_of s → ⊥) _ found s e h

-- a number that is one, or is none
pub a_number : (text : List ℕ) (found : Option ℕ) (n : ℕ) → found ≡ Some n → MatchOption found ((n : ℕ) → n < 2 ^ 32 → text ≢ decimal n) (λ n. text ≡ decimal n) → text ≡ decimal n
a_number text found n e h = some_of ((n : ℕ) → n < 2 ^ 32 → text ≢ decimal n) _ found n e h

pub no_number : (text : List ℕ) (found : Option ℕ) → found ≡ None → MatchOption found ((n : ℕ) → n < 2 ^ 32 → text ≢ decimal n) (λ n. text ≡ decimal n) → (n : ℕ) → n < 2 ^ 32 → text ≢ decimal n
no_number text found e h = none_of _ (λ n. text ≡ decimal n) found e h

-- ---- any text

-- what a text begins with
pub front_read : {A : Type 0} (of : A → List ℕ) (read : Option A) (text front : List ℕ)
    → MatchOption read (pointwise ◌==◌ (take (length front) text) front ≡ false) (λ x. (pointwise ◌==◌ (take (length front) text) front ≡ true) × (of x ≡ drop (length front) text) × (length (of x) + length front ≡ length text))
    → MatchOption read ((rest : List ℕ) → text ≢ front ++ rest) (λ x. text ≡ front ++ of x)
front_read of None text front never = λ rest e.
    let same : take (length front) text ≡ front = ap (take (length front)) e ∙ take-append_seam front rest in
    let yes = (slice_eq-Decides Decides-eqb (take (length front) text) front (pointwise ◌==◌ (take (length front) text) front) refl).1 same in
    let bad : true ≡ false = sym yes ∙ never in
    cc
front_read of (Some x) text front h =
    let same : take (length front) text ≡ front = (slice_eq-Decides Decides-eqb (take (length front) text) front (pointwise ◌==◌ (take (length front) text) front) refl).0 h.0 in
    sym (take-append-drop (length front) text) ∙ ap (λ (t : List ℕ). t ++ drop (length front) text) same ∙ ap (λ (t : List ℕ). front ++ t) (sym h.1)

-- what begins with none of these words is no text but a call's
pub unheard : (text : List ℕ) → ((rest : List ℕ) → text ≢ codes "view " ++ rest) → ((rest : List ℕ) → text ≢ codes "finish " ++ rest) → ((rest : List ℕ) → text ≢ codes "abandon " ++ rest) → ((rest : List ℕ) → text ≢ codes "freeze " ++ rest) → IsNoCall text → IsUnheard text
unheard text w x y z none (view h) l e = w (decimal h) e
unheard text w x y z none (finish j) l e = x (decimal j) e
unheard text w x y z none (abandon j) l e = y (decimal j) e
unheard text w x y z none (freeze h q) l e = z (join_with_byte 32 (words_of (question_statement h q))) e
unheard text w x y z none worker_step l e = absurd l
unheard text w x y z none r l e = none r l refl e

-- the same of what is answered
pub read_behind : {A E : Type 0} (of : A → ProgramRequest) (read : Result (Option A) E) (text front : List ℕ) → text ≡ front → IfOk read (λ o. MatchOption o (IsUnheard front) (λ a. IsHeard front (of a))) → IfOk read (λ o. MatchOption o (IsUnheard text) (λ a. IsHeard text (of a)))
read_behind of read text front e h = rw e h

pub some_behind : {A : Type 0} (of : A → ProgramRequest) (read : Option A) (text front : List ℕ) → text ≡ front → MatchOption read (IsUnheard front) (λ a. IsHeard front (of a)) → MatchOption read (IsUnheard text) (λ a. IsHeard text (of a))
some_behind of read text front e h = rw e h

pub read_of_any : {A E : Type 0} (of : A → ProgramRequest) (read : Result (Option A) E) (text : List ℕ) → ((rest : List ℕ) → text ≢ codes "view " ++ rest) → ((rest : List ℕ) → text ≢ codes "finish " ++ rest) → ((rest : List ℕ) → text ≢ codes "abandon " ++ rest) → ((rest : List ℕ) → text ≢ codes "freeze " ++ rest)
    → IfOk read (λ o. MatchOption o (IsNoCall text) (λ a. IsHeard text (of a))) → IfOk read (λ o. MatchOption o (IsUnheard text) (λ a. IsHeard text (of a)))
read_of_any of (Ok None) text w x y z none = unheard text w x y z none
read_of_any of (Ok (Some a)) text w x y z h = h
read_of_any of (Err e) text w x y z h = h

-- ---- what is spelled again

pub is_spelled : (text spelled : List ℕ) (heard : ProgramRequest) → IsHeard text heard → spelled ≡ call_text heard → spelled ≡ text → IsLawfulRequest heard × (text ≡ call_text heard)
is_spelled text spelled heard h is same = (h.lawful, sym same ∙ is)

pub not_spelled : (text spelled : List ℕ) (heard : ProgramRequest) → IsHeard text heard → spelled ≡ call_text heard → (spelled ≡ text → ⊥) → (r : ProgramRequest) → IsLawfulRequest r → text ≡ call_text r → ⊥
not_spelled text spelled heard h is other r l e = other (is ∙ ap call_text (sym (h.only r l e)) ∙ sym e)
