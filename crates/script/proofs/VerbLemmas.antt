-- Which verb a name names.
use Prim.Native.Nat.{zero, suc}
use Rattle.std.proofs.lemmas.Bool.Decides.{nat_tests}
use Rattle.std.proofs.Common.{arith, ◌≡◌, ℕ, false, true, List, [], ◌∷◌, Bool, None, refl, sym, subst}
use Rattle.std.specs.Prelude.{find, nat_lt, ◌&&◌, ◌++◌, drop}
use Rattle.std.specs.Str.{IsUtf8, IsAscii}
use Rattle.std.specs.List.{list_all}
use Rattle.std.proofs.lemmas.Str.{IsUtf8-from_ascii}
use Rattle.std.proofs.lemmas.Slice.Eq.{bytes_eq-Decides}
use Rattle.keys.specs.Order.{bytes_eq}
use Rattle.script.specs.Grammar.{IsUnnamed, Verb, commands, verbs}
use Rattle.script.specs.Faults.{StatementFault}
use Rattle.script.specs.declared.fault.Reason.TheVariants.{UnknownVerb}

unnamed : (vs : List Verb) (name : List ℕ) → IsUnnamed vs name → find (λ verb. bytes_eq verb.name name) vs ≡ None
unnamed [] name h = refl
unnamed (verb ∷ vs) name h =
    let no : bytes_eq verb.name name ≡ false = by_test (bytes_eq verb.name name) refl in
    rw no (unnamed vs name h.1)
  where
    by_test : (b : Bool) → bytes_eq verb.name name ≡ b → b ≡ false
    by_test true e = absurd (h.0 (sym ((bytes_eq-Decides verb.name name).0 e)))
    by_test false e = refl

-- a name that is no verb's is a fault
pub unknown : (name : List ℕ) (fields : List (List ℕ)) → IsUnnamed verbs name → StatementFault (name ∷ fields) UnknownVerb
unknown name fields h = rw (unnamed verbs name h) refl

-- what is neither of these lists' is not that of both together
with_more : (vs ws : List Verb) (name : List ℕ) → IsUnnamed vs name → IsUnnamed ws name → IsUnnamed (vs ++ ws) name
with_more [] ws name h more = more
with_more (verb ∷ vs) ws name h more = (h.0, with_more vs ws name h.1 more)

-- so is a name that is neither a command's nor a question's
pub unknown_question : (name : List ℕ) (fields : List (List ℕ)) → IsUnnamed commands name → IsUnnamed (drop 14 verbs) name → StatementFault (name ∷ fields) UnknownVerb
unknown_question name fields h more = unknown name fields (with_more commands (drop 14 verbs) name h more)

both : (a b : Bool) → (a && b) ≡ true → (a ≡ true) × (b ≡ true)
both true b e = (refl, e)
both false b e = cc

-- whether each byte is ASCII
abbrev is_ascii : List ℕ → Bool
is_ascii = list_all (λ b. nat_lt b 128)

utf8_from_ascii : (bs : List ℕ) → is_ascii bs ≡ true → IsUtf8 bs
utf8_from_ascii bs e = IsUtf8-from_ascii bs (each bs e)
  where
    each : (bs : List ℕ) → is_ascii bs ≡ true → IsAscii bs
    each [] e i = omega arith
    each (b ∷ bs) e zero = let low : nat_lt b 128 ≡ true = (both (nat_lt b 128) (is_ascii bs) e).0 in grind (arith, nat_tests)
    each (b ∷ bs) e (suc i) = each bs (both (nat_lt b 128) (is_ascii bs) e).1 i

-- a name that is no text is no verb's, since each verb's is ASCII
no_text : (vs : List Verb) (name : List ℕ) → list_all (λ verb. is_ascii verb.name) vs ≡ true → ¬ (IsUtf8 name) → IsUnnamed vs name
no_text [] name all bad = tt
no_text (verb ∷ vs) name all bad =
    let e = both (is_ascii verb.name) (list_all (λ verb. is_ascii verb.name) vs) all in
    (λ is. bad (subst IsUtf8 (sym is) (utf8_from_ascii verb.name e.0)), no_text vs name e.1 bad)

pub unread : (name : List ℕ) (fields : List (List ℕ)) → ¬ (IsUtf8 name) → StatementFault (name ∷ fields) UnknownVerb
unread name fields bad = unknown name fields (no_text verbs name refl bad)
