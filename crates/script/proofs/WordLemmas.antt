-- What words spell: one argument, one statement at most.
use Rattle.std.proofs.Common.{◌≡◌, true, ℕ, ◌<◌, ◌∙◌, List, [], ◌∷◌, Option, Some, None, refl, sym, ap, map, inl, inr, arith}
use Rattle.std.specs.Prelude.{MatchOption}
use Rattle.std.specs.Fmt.{decimal}
use Rattle.std.proofs.lemmas.Slice.Eq.{bytes_eq-Decides}
use Rattle.keys.specs.Order.{bytes_eq}
use Rattle.std.proofs.lemmas.Fmt.{decimal_injective, signed_decimal_injective}
use Rattle.script.specs.Grammar.{Place, Verb, verb_named}
use Rattle.script.specs.Statements.{Argument, handle_argument, key_argument, value_argument, test_argument, map_argument, pair_map_argument, fold_argument, place_of, spelling_of, IsInRange, AreInRange, Phrase, phrase_of, words_of, IsLawful}
use Rattle.script.specs.Faults.{Faulty, StatementFault, CommandFault}
use Rattle.script.specs.declared.statement.Statement.{Statement}
use Rattle.script.specs.declared.statement.Statement.TheVariants.{Open}
use Rattle.script.specs.declared.fault.Reason.{Reason}
use Rattle.script.specs.declared.fault.Reason.TheVariants.{UnknownVerb}
use Rattle.script.proofs.FaultLemmas.{suited}
use Rattle.script.proofs.QuestionLemmas.{same_test, same_mapping, same_pair_mapping, same_folding}

-- a phrase's name, with the places of its arguments
abbrev form_of : Phrase → Verb
form_of phrase = record { name = phrase.name; places = map place_of phrase.arguments }

-- the grammar has it for each statement
placed : (s : Statement) → verb_named (phrase_of s).name ≡ Some (form_of (phrase_of s))
placed (Open h) = refl
placed s = refl

-- a name and arguments are of one statement
same_phrase : (s t : Statement) → bytes_eq (phrase_of s).name (phrase_of t).name ≡ true → (phrase_of s).arguments ≡ (phrase_of t).arguments → s ≡ t
same_phrase (Open h) (Open g) e f = cc
same_phrase s (Open g) e f = cc
same_phrase s t e f = cc

-- in one place a spelling spells one argument
same_argument : (a b : Argument) → place_of a ≡ place_of b → IsInRange a → IsInRange b → spelling_of a ≡ spelling_of b → a ≡ b
same_argument (handle_argument m) (handle_argument n) p ra rb e = ap handle_argument (decimal_injective m n (omega arith) (omega arith) e)
same_argument (key_argument m) (key_argument n) p ra rb e = ap key_argument e
same_argument (value_argument m) (value_argument n) p ra rb e = ap value_argument (signed_decimal_injective m n ra.sfits rb.sfits e)
same_argument (test_argument s) (test_argument t) p ra rb e = ap test_argument (same_test s t ra rb e)
same_argument (map_argument s) (map_argument t) p ra rb e = ap map_argument (same_mapping s t ra rb e)
same_argument (pair_map_argument s) (pair_map_argument t) p ra rb e = ap pair_map_argument (same_pair_mapping s t ra rb e)
same_argument (fold_argument s) (fold_argument t) p ra rb e = ap fold_argument (same_folding s t e)
same_argument a b p ra rb e = cc

same_arguments : (xs ys : List Argument) → map place_of xs ≡ map place_of ys → AreInRange xs → AreInRange ys → map spelling_of xs ≡ map spelling_of ys → xs ≡ ys
same_arguments [] [] p rx ry e = refl
same_arguments [] (y ∷ ys) p rx ry e = cc
same_arguments (x ∷ xs) [] p rx ry e = cc
same_arguments (x ∷ xs) (y ∷ ys) p rx ry e =
    let place : place_of x ≡ place_of y = cc in
    let places : map place_of xs ≡ map place_of ys = cc in
    let spelling : spelling_of x ≡ spelling_of y = cc in
    let spellings : map spelling_of xs ≡ map spelling_of ys = cc in
    let head : x ≡ y = same_argument x y place rx.0 ry.0 spelling in
    let tail : xs ≡ ys = same_arguments xs ys places rx.1 ry.1 spellings in
    cc

abbrev places_in : Option Verb → List Place
places_in None = []
places_in (Some verb) = verb.places

-- words spell one statement
pub same_statement : (s t : Statement) → IsLawful s → IsLawful t → words_of s ≡ words_of t → s ≡ t
same_statement s t ls lt e =
    let p = phrase_of s in
    let q = phrase_of t in
    let names : p.name ≡ q.name = cc in
    let spellings : map spelling_of p.arguments ≡ map spelling_of q.arguments = cc in
    let found : Some (form_of p) ≡ Some (form_of q) = sym (placed s) ∙ ap verb_named names ∙ placed t in
    let places : map place_of p.arguments ≡ map place_of q.arguments = ap places_in found in
    let arguments : p.arguments ≡ q.arguments = same_arguments p.arguments q.arguments places ls lt spellings in
    same_phrase s t ((bytes_eq-Decides p.name q.name).1 names) arguments

-- arguments in their ranges have no fault in their places
no_faulty_argument : (xs : List Argument) (reason : Reason) → AreInRange xs → Faulty (map place_of xs) (map spelling_of xs) reason → ⊥
no_faulty_argument [] reason r fault = fault
no_faulty_argument (x ∷ xs) reason r (inl (bad, is)) = bad (suited x r.0)
no_faulty_argument (x ∷ xs) reason r (inr (good, fault)) = no_faulty_argument xs reason r.1 fault

carried : (o : Option Verb) (verb : Verb) (fields : List (List ℕ)) (reason : Reason) → o ≡ Some verb → MatchOption o (reason ≡ UnknownVerb) (λ verb. Faulty verb.places fields reason) → Faulty verb.places fields reason
carried o verb fields reason found fault = rw found at fault

pub no_phrase_fault : (s : Statement) (words : List (List ℕ)) (reason : Reason) → IsLawful s → words ≡ words_of s → StatementFault words reason → ⊥
no_phrase_fault s words reason l e fault =
    let found : StatementFault (words_of s) reason = rw e at fault in
    no_faulty_argument (phrase_of s).arguments reason l (carried _ _ _ _ (placed s) found)

-- the words of a lawful statement behind a client have no fault
pub no_statement_fault : (s : Statement) (client : ℕ) (fields : List (List ℕ)) (reason : Reason) → client < 64 → IsLawful s → fields ≡ decimal client ∷ words_of s → CommandFault fields reason → ⊥
no_statement_fault s client [] reason small lawful e fault = cc
no_statement_fault s client (field ∷ fields) reason small lawful e (inl (bad, is)) = let here : field ≡ decimal client = cc in bad (client, small, here)
no_statement_fault s client (field ∷ fields) reason small lawful e (inr (good, fault)) = let rest : fields ≡ words_of s = cc in no_phrase_fault s fields reason lawful rest fault
