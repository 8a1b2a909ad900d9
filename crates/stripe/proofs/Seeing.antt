-- Histories that a thread has seen, and what was written behind them.
use Rattle.std.proofs.Common.{◌≡◌, ℕ, Bool, false, List, [], ◌∷◌, ◌++◌, Option, refl, ap, sym, ◌∙◌, append_assoc, true≢false}
use Rattle.std.specs.declared.cmp.Ordering.{Ordering}
use mathlib.Core.List.{IsPrefix}
use Rattle.write_history.specs.declared.entry.Entry.{Entry}
use Rattle.write_history.specs.declared.entry.Write.{Write}
use Rattle.write_history.specs.Histories.{value_in}
use Rattle.write_history.specs.Signers.{Signer, WroteIf}

-- each list begins with itself
pub prefix_self : {A : Type 0} (xs : List A) → IsPrefix xs xs
prefix_self [] = ([], refl)
prefix_self (x ∷ xs) = (let r = prefix_self xs in r.0, ap (λ ys. x ∷ ys) (prefix_self xs).1)

pub prefix_trans : {A : Type 0} (xs ys zs : List A) → IsPrefix xs ys → IsPrefix ys zs → IsPrefix xs zs
prefix_trans xs ys zs p q = (p.0 ++ q.0, sym (append_assoc xs p.0 q.0) ∙ (ap (λ w. w ++ q.0) p.1 ∙ q.1))

-- what was written behind a history was written behind its beginning
pub wrote_behind : {K V : Type 0} (R : K → K → Ordering) (path : K → ℕ) (done : Bool) (w : Write K V) (k : K) (before : Option V) (signer : Signer) (first old new : List (Entry K V)) → IsPrefix first old → WroteIf R path done w k before signer old new → WroteIf R path done w k before signer first new
wrote_behind R path done w k before signer first old new begins wrote = (wrote.0, prefix_trans first old wrote.0 begins wrote.1, wrote.2, wrote.3, wrote.4)

-- where nothing is written, nothing is added
pub wrote_none : {K V : Type 0} (R : K → K → Ordering) (path : K → ℕ) (w : Write K V) (k : K) (before : Option V) (signer : Signer) (log : List (Entry K V)) → before ≡ value_in R path log k → WroteIf R path false w k before signer log log
wrote_none R path w k before signer log is = (log, prefix_self log, is, (λ done. absurd (true≢false (sym done))), refl)
