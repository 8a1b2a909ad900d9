-- What is asked in its ranges, and a reply about keys that are ASCII, has a text of ASCII.
use Rattle.std.proofs.Common.{true, false, ℕ, ◌<◌, ◌≤◌, length, List, [], ◌∷◌, ◌++◌, Some, None, codes, refl, arith, map}
use Rattle.std.specs.Prelude.{ℤ, FitsSigned}
use Rattle.std.specs.Int.{w64}
use Rattle.std.specs.List.{join_with_byte, flat_map}
use Rattle.std.specs.Fmt.{decimal, signed_decimal}
use Rattle.versions.specs.Map.{Map}
use Rattle.versions.specs.Commands.{old, done, cleared}
use Rattle.versions.specs.Commands as commands
use Rattle.versions.specs.declared.refusal.Refusal.{Refusal}
use Rattle.versions.specs.declared.refusal.Refusal.TheVariants.{NoHandle}
use Rattle.bulk_work.specs.Answers as plain
use Rattle.handles.specs.Machine.{open_handle, snapshot, drop_handle, on, view, freeze, finish, abandon}
use Rattle.handles.specs.Machine.{worker_step, made, replied, viewed, frozen, finished, unfinished, refused, worked}
use Rattle.arguments.specs.Keys.{IsKey}
use Rattle.arguments.specs.Questions.{IsPairMapping, IsTest, test_text, mapping_text, pair_mapping_text, folding_text}
use Rattle.arguments.specs.declared.passing.Test.{Test}
use Rattle.arguments.specs.declared.passing.Test.TheVariants.{All, Even, Odd, Below, AtLeast, Equal, Prefix}
use Rattle.arguments.specs.declared.mapping.Mapping.{Mapping}
use Rattle.arguments.specs.declared.mapping.Mapping.TheVariants.{Set, Add, KeyLength}
use Rattle.arguments.specs.declared.pair_mapping.PairMapping.{PairMapping}
use Rattle.arguments.specs.declared.pair_mapping.PairMapping.TheVariants.{To, Initial, ByValue}
use Rattle.arguments.specs.declared.folding.Folding.{Folding}
use Rattle.arguments.specs.declared.folding.Folding.TheVariants.{Sum, Least, Greatest}
use Rattle.script.specs.Statements.{Argument, handle_argument, key_argument, value_argument, test_argument, map_argument, pair_map_argument}
use Rattle.script.specs.Statements.{fold_argument, spelling_of, IsInRange, AreInRange, phrase_of, words_of, IsLawful}
use Rattle.script.specs.Replies.{pair_text, refusal_name}
use Rattle.script.specs.declared.statement.Statement.{Statement}
use Rattle.script.specs.declared.statement.Statement.TheVariants.{Open, Snap, Drop}
use Rattle.questions.specs.Program.{ProgramRequest, ProgramOutcome, ProgramSummary, command_statement, question_statement}
use Rattle.journal_text.specs.Calls.{IsLawfulRequest, call_text, outcome_text}
use Rattle.audit.proofs.MapLemmas.{Each}
use Rattle.audit.proofs.ByteLemmas.{IsAscii, AreAscii, ascii_append, ascii_behind, ascii_decimal, ascii_joined, ascii_literal, ascii_places, ascii_signed}

-- ---- what is asked

pub ascii_key : (k : List ℕ) → IsKey k → IsAscii k
ascii_key k is = ascii_places k (λ i below. let range = is.2 i 0 below in omega (arith, range.1))

ascii_test : (t : Test) → IsTest t → IsAscii (test_text t)
ascii_test All is = ascii_literal (codes "all") refl
ascii_test Even is = ascii_literal (codes "even") refl
ascii_test Odd is = ascii_literal (codes "odd") refl
ascii_test (Below v) is = ascii_behind (codes "lt:") (signed_decimal v) refl (ascii_signed v)
ascii_test (AtLeast v) is = ascii_behind (codes "ge:") (signed_decimal v) refl (ascii_signed v)
ascii_test (Equal v) is = ascii_behind (codes "eq:") (signed_decimal v) refl (ascii_signed v)
ascii_test (Prefix k) is = ascii_behind (codes "prefix:") k refl (ascii_key k is)

ascii_mapping : (m : Mapping) → IsAscii (mapping_text m)
ascii_mapping (Set v) = ascii_behind (codes "set:") (signed_decimal v) refl (ascii_signed v)
ascii_mapping (Add v) = ascii_behind (codes "add:") (signed_decimal v) refl (ascii_signed v)
ascii_mapping KeyLength = ascii_literal (codes "keylen") refl

ascii_pair_mapping : (m : PairMapping) → IsPairMapping m → IsAscii (pair_mapping_text m)
ascii_pair_mapping (To k) is = ascii_behind (codes "to:") k refl (ascii_key k is)
ascii_pair_mapping Initial is = ascii_literal (codes "initial") refl
ascii_pair_mapping ByValue is = ascii_literal (codes "byvalue") refl

ascii_folding : (f : Folding) → IsAscii (folding_text f)
ascii_folding Sum = ascii_literal (codes "sum") refl
ascii_folding Least = ascii_literal (codes "least") refl
ascii_folding Greatest = ascii_literal (codes "greatest") refl

ascii_argument : (a : Argument) → IsInRange a → IsAscii (spelling_of a)
ascii_argument (handle_argument n) is = ascii_decimal n
ascii_argument (key_argument k) is = ascii_key k is
ascii_argument (value_argument z) is = ascii_signed z
ascii_argument (test_argument t) is = ascii_test t is
ascii_argument (map_argument m) is = ascii_mapping m
ascii_argument (pair_map_argument m) is = ascii_pair_mapping m is
ascii_argument (fold_argument f) is = ascii_folding f

ascii_arguments : (xs : List Argument) → AreInRange xs → AreAscii (map spelling_of xs)
ascii_arguments [] is = tt
ascii_arguments (x ∷ xs) is = (ascii_argument x is.0, ascii_arguments xs is.1)

ascii_name : (s : Statement) → IsAscii (phrase_of s).name
ascii_name (Open h) = ascii_literal (codes "open") refl
ascii_name s = ascii_literal (phrase_of s).name refl

ascii_words : (s : Statement) → IsLawful s → AreAscii (words_of s)
ascii_words s l = (ascii_name s, ascii_arguments (phrase_of s).arguments l)

numbered : (w : List ℕ) (n : ℕ) → IsAscii w → IsAscii (join_with_byte 32 (w ∷ decimal n ∷ []))
numbered w n h = ascii_joined (w ∷ decimal n ∷ []) (h, (ascii_decimal n, tt))

pub ascii_call : (r : ProgramRequest) → IsLawfulRequest r → IsAscii (call_text r)
ascii_call (open_handle h) l = ascii_joined (words_of (Open h)) (ascii_words (Open h) l)
ascii_call (snapshot h to) l = ascii_joined (words_of (Snap h to)) (ascii_words (Snap h to) l)
ascii_call (drop_handle h) l = ascii_joined (words_of (Drop h)) (ascii_words (Drop h) l)
ascii_call (on h c) l = ascii_joined (words_of (command_statement h c)) (ascii_words (command_statement h c) l)
ascii_call (view h) l = numbered (codes "view") h (ascii_literal (codes "view") refl)
ascii_call (freeze h q) l =
    ascii_joined (codes "freeze" ∷ words_of (question_statement h q)) (ascii_literal (codes "freeze") refl, ascii_words (question_statement h q) l)
ascii_call (finish j) l = numbered (codes "finish") j (ascii_literal (codes "finish") refl)
ascii_call (abandon j) l = numbered (codes "abandon") j (ascii_literal (codes "abandon") refl)
ascii_call worker_step l = absurd l

-- ---- replies

-- the key is ASCII, of 64 bytes at the most
abbrev pub IsPlainKey : List ℕ → Type 0
IsPlainKey k = IsAscii k × (length k ≤ 64)

-- the value is in the range of i64
abbrev pub IsPlainValue : ℤ → Type 0
IsPlainValue v = FitsSigned w64 v

-- so are all keys and values of the map
abbrev pub IsPlainMap : Map (List ℕ) ℤ → Type 0
IsPlainMap m = Each IsPlainKey IsPlainValue m

-- the key of a pair in a reply is ASCII, and so are those of a map
abbrev pub IsAsciiShown : ProgramSummary → Type 0
IsAsciiShown (plain.Summary.found (Some x)) = IsAscii x.0
IsAsciiShown (plain.Summary.images m) = IsPlainMap m
IsAsciiShown b = Unit {0}

-- the keys that the outcome shows are ASCII
abbrev pub ShowsAscii : ProgramOutcome → Type 0
ShowsAscii (viewed m) = IsPlainMap m
ShowsAscii (finished b) = IsAsciiShown b
ShowsAscii o = Unit {0}

ascii_pair : (k : List ℕ) (v : ℤ) (b : ℕ) → b < 128 → IsAscii k → IsAscii (k ++ b ∷ signed_decimal v)
ascii_pair k v b below h = ascii_append k (b ∷ signed_decimal v) h (below, ascii_signed v)

ascii_pairs : (m : Map (List ℕ) ℤ) → IsPlainMap m → IsAscii (flat_map pair_text m)
ascii_pairs [] all = tt
ascii_pairs (x ∷ m) all = ascii_append (pair_text x) (flat_map pair_text m) (omega arith, ascii_pair x.0 x.1 61 (omega arith) all.0.0) (ascii_pairs m all.2)

ascii_refusal : (e : Refusal) → IsAscii (refusal_name e)
ascii_refusal NoHandle = ascii_literal (codes "NoHandle") refl
ascii_refusal e = ascii_literal (refusal_name e) refl

ascii_shown : (b : ProgramSummary) → IsAsciiShown b → IsAscii (outcome_text (finished b))
ascii_shown (plain.Summary.number n) h = ascii_behind (codes "count ") (decimal n) refl (ascii_decimal n)
ascii_shown (plain.Summary.truth true) h = ascii_literal (codes "true") refl
ascii_shown (plain.Summary.truth false) h = ascii_literal (codes "false") refl
ascii_shown (plain.Summary.found None) h = ascii_literal (codes "none") refl
ascii_shown (plain.Summary.found (Some x)) h =
    ascii_append (codes "pair " ++ x.0) _ (ascii_behind (codes "pair ") x.0 refl h) (omega arith, ascii_signed x.1)
ascii_shown (plain.Summary.made n) h = ascii_behind (codes "count ") (decimal n) refl (ascii_decimal n)
ascii_shown (plain.Summary.images m) h = ascii_behind (codes "pairs") (flat_map pair_text m) refl (ascii_pairs m h)
ascii_shown (plain.Summary.item None) h = ascii_literal (codes "none") refl
ascii_shown (plain.Summary.item (Some n)) h = ascii_behind (codes "item ") (signed_decimal n) refl (ascii_signed n)

ascii_replied : (y : commands.Reply ℤ) → IsAscii (outcome_text (replied y))
ascii_replied (old None) = ascii_literal (codes "none") refl
ascii_replied (old (Some v)) = ascii_behind (codes "some ") (signed_decimal v) refl (ascii_signed v)
ascii_replied (done true) = ascii_literal (codes "true") refl
ascii_replied (done false) = ascii_literal (codes "false") refl
ascii_replied (commands.count n) = ascii_behind (codes "count ") (decimal n) refl (ascii_decimal n)
ascii_replied cleared = ascii_literal (codes "ok") refl

pub ascii_outcome : (o : ProgramOutcome) → ShowsAscii o → IsAscii (outcome_text o)
ascii_outcome made h = ascii_literal (codes "ok") refl
ascii_outcome (replied y) h = ascii_replied y
ascii_outcome (viewed m) h = ascii_behind (codes "pairs") (flat_map pair_text m) refl (ascii_pairs m h)
ascii_outcome (frozen j m) h = ascii_behind (codes "job ") (decimal j) refl (ascii_decimal j)
ascii_outcome (finished b) h = ascii_shown b h
ascii_outcome unfinished h = tt
ascii_outcome (refused e) h = ascii_behind (codes "refused ") (refusal_name e) refl (ascii_refusal e)
ascii_outcome worked h = tt
