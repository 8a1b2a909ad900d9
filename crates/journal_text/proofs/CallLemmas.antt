-- What is asked is determined by its text.
use Rattle.std.proofs.Common.{◌≡◌, ℕ, ◌<◌, ◌^◌, ◌∙◌, true, false, List, [], ◌∷◌, refl, sym, ap, codes, arith}
use Rattle.std.specs.Prelude.{◌==◌, is_some, ℤ}
use Rattle.std.specs.Fmt.{decimal}
use Rattle.std.specs.List.{join_with_byte, slice_split}
use Rattle.std.proofs.lemmas.Fmt.{decimal_injective}
use Rattle.std.proofs.lemmas.Slice.Eq.{bytes_eq-Decides}
use Rattle.keys.specs.Order.{bytes_eq}
use Rattle.handles.specs.Machine.{open_handle, snapshot, drop_handle, on, view, freeze, finish, abandon, worker_step}
use Rattle.script.specs.Grammar.{verb_named}
use Rattle.script.specs.declared.statement.Statement.{Statement}
use Rattle.script.specs.declared.statement.Statement.TheVariants.{Open, Snap, Drop}
use Rattle.script.specs.Statements.{words_of, phrase_of, IsLawful}
use Rattle.script.proofs.WordLemmas.{same_statement}
use Rattle.questions.specs.Program.{ProgramRequest, command_statement, question_statement, request_for, request_of_command, request_of_question}
use Rattle.journal_text.specs.Calls.{call_text, call_words, IsLawfulRequest}
use Rattle.journal_text.proofs.WordLemmas.{argument_words, decimal_word, literal_word, name_word, split_words}

-- what is asked, in words
pub data Said : Type 0 where
  plain : Statement → Said
  behind_freeze : Statement → Said
  seen : ℕ → Said
  ended : ℕ → Said
  dropped : ℕ → Said
  silent : Said

abbrev pub said : ProgramRequest → Said
said (open_handle h) = plain (Open h)
said (snapshot h to) = plain (Snap h to)
said (drop_handle h) = plain (Drop h)
said (on h c) = plain (command_statement h c)
said (view h) = seen h
said (freeze h q) = behind_freeze (question_statement h q)
said (finish j) = ended j
said (abandon j) = dropped j
said worker_step = silent

abbrev pub first_word : Said → List ℕ
first_word (plain s) = (phrase_of s).name
first_word (behind_freeze s) = codes "freeze"
first_word (seen h) = codes "view"
first_word (ended j) = codes "finish"
first_word (dropped j) = codes "abandon"
first_word silent = []

abbrev pub words_said : Said → List (List ℕ)
words_said (plain s) = words_of s
words_said (behind_freeze s) = codes "freeze" ∷ words_of s
words_said (seen h) = codes "view" ∷ decimal h ∷ []
words_said (ended j) = codes "finish" ∷ decimal j ∷ []
words_said (dropped j) = codes "abandon" ∷ decimal j ∷ []
words_said silent = []

abbrev pub IsLawfulSaid : Said → Type 0
IsLawfulSaid (plain s) = IsLawful s
IsLawfulSaid (behind_freeze s) = IsLawful s
IsLawfulSaid (seen h) = h < 2 ^ 32
IsLawfulSaid (ended j) = j < 2 ^ 32
IsLawfulSaid (dropped j) = j < 2 ^ 32
IsLawfulSaid silent = ⊥

pub words_are : (r : ProgramRequest) → call_words r ≡ words_said (said r)
words_are (open_handle h) = refl
words_are (snapshot h to) = refl
words_are (drop_handle h) = refl
words_are (on h c) = refl
words_are (view h) = refl
words_are (freeze h q) = refl
words_are (finish j) = refl
words_are (abandon j) = refl
words_are worker_step = refl

pub lawful_said : (r : ProgramRequest) → IsLawfulRequest r → IsLawfulSaid (said r)
lawful_said (open_handle h) l = l
lawful_said (snapshot h to) l = l
lawful_said (drop_handle h) l = l
lawful_said (on h c) l = l
lawful_said (view h) l = l
lawful_said (freeze h q) l = l
lawful_said (finish j) l = l
lawful_said (abandon j) l = l
lawful_said worker_step l = l

-- the request that was said
abbrev pub heard : Said → ProgramRequest
heard (plain s) = request_for s
heard (behind_freeze s) = request_for s
heard (seen h) = view h
heard (ended j) = finish j
heard (dropped j) = abandon j
heard silent = worker_step

pub heard_said : (r : ProgramRequest) → heard (said r) ≡ r
heard_said (open_handle h) = refl
heard_said (snapshot h to) = refl
heard_said (drop_handle h) = refl
heard_said (on h c) = request_of_command h c
heard_said (view h) = refl
heard_said (freeze h q) = request_of_question h q
heard_said (finish j) = refl
heard_said (abandon j) = refl
heard_said worker_step = refl

-- a statement's name is a verb's
named : (s : Statement) → is_some (verb_named (phrase_of s).name) ≡ true
named (Open h) = refl
named s = refl

pub no_verb : (s : Statement) (name : List ℕ) → is_some (verb_named name) ≡ false → (phrase_of s).name ≡ name → ⊥
no_verb s name none is = let some : is_some (verb_named name) ≡ true = sym (ap (λ (n : List ℕ). is_some (verb_named n)) is) ∙ named s in let bad : true ≡ false = sym some ∙ none in cc

abbrev pub head_of : List (List ℕ) → List ℕ
head_of [] = []
head_of (w ∷ ws) = w

pub is_first : (a : Said) → head_of (words_said a) ≡ first_word a
is_first (plain s) = refl
is_first a = refl

-- words with other first words differ
clash : (a b : Said) → bytes_eq (first_word a) (first_word b) ≡ false → words_said a ≡ words_said b → ⊥
clash a b other e =
    let heads : first_word a ≡ first_word b = sym (is_first a) ∙ ap head_of e ∙ is_first b in
    let same : bytes_eq (first_word a) (first_word b) ≡ true = (bytes_eq-Decides (first_word a) (first_word b)).1 heads in
    let bad : true ≡ false = sym same ∙ other in
    cc

-- words say one thing
pub same_said : (a b : Said) → IsLawfulSaid a → IsLawfulSaid b → words_said a ≡ words_said b → a ≡ b
same_said (plain s) (plain t) la lb e = ap plain (same_statement s t la lb e)
same_said (plain s) (behind_freeze t) la lb e = let is : (phrase_of s).name ≡ codes "freeze" = cc in absurd (no_verb s (codes "freeze") refl is)
same_said (plain s) (seen h) la lb e = let is : (phrase_of s).name ≡ codes "view" = cc in absurd (no_verb s (codes "view") refl is)
same_said (plain s) (ended j) la lb e = let is : (phrase_of s).name ≡ codes "finish" = cc in absurd (no_verb s (codes "finish") refl is)
same_said (plain s) (dropped j) la lb e = let is : (phrase_of s).name ≡ codes "abandon" = cc in absurd (no_verb s (codes "abandon") refl is)
same_said (behind_freeze s) (plain t) la lb e = let is : (phrase_of t).name ≡ codes "freeze" = cc in absurd (no_verb t (codes "freeze") refl is)
same_said (seen h) (plain t) la lb e = let is : (phrase_of t).name ≡ codes "view" = cc in absurd (no_verb t (codes "view") refl is)
same_said (ended j) (plain t) la lb e = let is : (phrase_of t).name ≡ codes "finish" = cc in absurd (no_verb t (codes "finish") refl is)
same_said (dropped j) (plain t) la lb e = let is : (phrase_of t).name ≡ codes "abandon" = cc in absurd (no_verb t (codes "abandon") refl is)
same_said (behind_freeze s) (behind_freeze t) la lb e = let rest : words_of s ≡ words_of t = cc in ap behind_freeze (same_statement s t la lb rest)
same_said (seen m) (seen n) la lb e = let rest : decimal m ≡ decimal n = cc in ap seen (decimal_injective m n (omega arith) (omega arith) rest)
same_said (ended m) (ended n) la lb e = let rest : decimal m ≡ decimal n = cc in ap ended (decimal_injective m n (omega arith) (omega arith) rest)
same_said (dropped m) (dropped n) la lb e = let rest : decimal m ≡ decimal n = cc in ap dropped (decimal_injective m n (omega arith) (omega arith) rest)
same_said silent b la lb e = absurd la
same_said a silent la lb e = absurd lb
same_said a b la lb e = absurd (clash a b refl e)

-- between the spaces of what is said stand its words
pub split_said : (a : Said) → IsLawfulSaid a → slice_split (λ b. b == 32) (join_with_byte 32 (words_said a)) ≡ words_said a
split_said (plain s) l = split_words (phrase_of s).name _ (name_word s) (argument_words (phrase_of s).arguments l)
split_said (behind_freeze s) l = split_words (codes "freeze") (words_of s) (literal_word (codes "freeze") refl) (name_word s, argument_words (phrase_of s).arguments l)
split_said (seen h) l = split_words (codes "view") (decimal h ∷ []) (literal_word (codes "view") refl) (decimal_word h (omega arith), tt)
split_said (ended j) l = split_words (codes "finish") (decimal j ∷ []) (literal_word (codes "finish") refl) (decimal_word j (omega arith), tt)
split_said (dropped j) l = split_words (codes "abandon") (decimal j ∷ []) (literal_word (codes "abandon") refl) (decimal_word j (omega arith), tt)
split_said silent l = absurd l

pub split_call : (r : ProgramRequest) → IsLawfulRequest r → slice_split (λ b. b == 32) (call_text r) ≡ call_words r
split_call r l = ap (λ (ws : List (List ℕ)). slice_split (λ b. b == 32) (join_with_byte 32 ws)) (words_are r) ∙ split_said (said r) (lawful_said r l) ∙ sym (words_are r)

-- lawful requests of one text are one
pub same_request : (r q : ProgramRequest) → IsLawfulRequest r → IsLawfulRequest q → call_text r ≡ call_text q → r ≡ q
same_request r q lr lq e =
    let words : words_said (said r) ≡ words_said (said q) = sym (words_are r) ∙ sym (split_call r lr) ∙ ap (slice_split (λ b. b == 32)) e ∙ split_call q lq ∙ words_are q in
    let same : said r ≡ said q = same_said (said r) (said q) (lawful_said r lr) (lawful_said q lq) words in
    sym (heard_said r) ∙ ap heard same ∙ heard_said q
