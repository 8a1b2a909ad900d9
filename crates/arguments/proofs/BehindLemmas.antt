-- What a field spells, by what stands behind its front.
use Rattle.std.proofs.Common.{◌≡◌, ◌≢◌, ◌∙◌, ◌++◌, ℕ, List, Option, Some, None, Result, Ok, Err, IfOk, ap, sym}
use Rattle.std.specs.Prelude.{ℤ, FitsSigned, MatchOption, SomeIff}
use Rattle.std.specs.Int.{w64}
use Rattle.std.specs.Fmt.{signed_decimal}
use Rattle.std.proofs.lemmas.List.{append_cancel_left}
use Rattle.arguments.specs.Keys.{IsKey}

-- a value that the rest spells, or none
pub value_of_both : (front field rest : List ℕ) (value : Option ℤ) → field ≡ front ++ rest
    → MatchOption value ((z : ℤ) → FitsSigned w64 z → rest ≢ signed_decimal z) (λ z. rest ≡ signed_decimal z)
    → MatchOption value ((z : ℤ) → FitsSigned w64 z → field ≢ front ++ signed_decimal z) (λ z. field ≡ front ++ signed_decimal z)
value_of_both front field rest None both none = λ z fits is. none z fits (append_cancel_left front rest (signed_decimal z) (sym both ∙ is))
value_of_both front field rest (Some z) both is = both ∙ ap (λ (text : List ℕ). front ++ text) is

key_of_one : (front field rest : List ℕ) (key : Option (List ℕ)) → field ≡ front ++ rest → SomeIff key (IsKey rest) rest
    → MatchOption key ((k : List ℕ) → IsKey k → field ≢ front ++ k) (λ k. IsKey k × (field ≡ front ++ k))
key_of_one front field rest None both none = λ k lawful is. none (rw (append_cancel_left front rest k (sym both ∙ is)) lawful)
key_of_one front field rest (Some k) both (lawful, is) = rw is (lawful, both)

-- a key that the rest spells, or none
pub key_of_both : {E : Type 0} (front field rest : List ℕ) (key : Result (Option (List ℕ)) E) → field ≡ front ++ rest → IfOk key (λ key. SomeIff key (IsKey rest) rest)
    → IfOk key (λ key. MatchOption key ((k : List ℕ) → IsKey k → field ≢ front ++ k) (λ k. IsKey k × (field ≡ front ++ k)))
key_of_both front field rest (Ok key) both found = key_of_one front field rest key both found
key_of_both front field rest (Err e) both found = tt
