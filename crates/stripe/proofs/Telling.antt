-- Writes of a stripe and of the history.
use Rattle.std.proofs.Common.{◌≡◌, ℕ, ◌<◌, Bool, true, false, cond, nat_lt, List, [], ◌∷◌, ◌++◌, Option, Some, None, is_some, option_map, refl, ap, sym, ◌∙◌, subst, arith, append-nil, true≢false}
use Rattle.std.proofs.lemmas.Bool.Decides.{nat_tests}
use Rattle.std.proofs.Math.Nat.{mod-lt}
use Rattle.std.specs.declared.cmp.Ordering.{Ordering}
use Rattle.std.specs.declared.cmp.Ordering.TheVariants.{Equal}
use Rattle.std.specs.Ordering.{eq_by_cmp}
use mathlib.Core.List.{IsPrefix}
use Rattle.hash_path.specs.Digits.{fan_out}
use Rattle.logbook.specs.Pages.{Book}
use Rattle.versions.specs.Contents.{Contents}
use Rattle.versions.specs.Map.{Map, value_at, with_pair, without}
use Rattle.write_history.specs.declared.entry.Entry.{Entry}
use Rattle.write_history.specs.declared.entry.Write.{Write}
use Rattle.write_history.specs.declared.entry.Write.TheVariants.{Put, Remove, Clear}
use Rattle.write_history.specs.Histories.{IsOf, IsSame, first_digit, value_after, value_from, value_in}
use Rattle.write_history.specs.Rules.{HasHistory, Known}
use Rattle.write_history.specs.Signers.{Made, Signer, WroteIf}
use Rattle.stripe.specs.Rules.{AllKeep, Belongs, IsStripe}
use Rattle.stripe.specs.Told.{EndsCleared, Tells, as_digit}
use Rattle.stripe.proofs.Keeping.{kept_put, kept_remove}

-- a digit is below the fan-out
pub digit_low : {K : Type 0} (path : K → ℕ) (q : K) → first_digit path q < fan_out
digit_low path q = mod-lt _ (omega arith)

pub is_digit : (d : ℕ) → d < fan_out → as_digit d ≡ Some d
is_digit d low = ap (λ (b : Bool). cond b (Some d) None) (let small : nat_lt d fan_out ≡ true = grind (arith, nat_tests) in small)

pub is_none : as_digit fan_out ≡ None
is_none = refl

pub key_digit : {K : Type 0} (path : K → ℕ) (q : K) (d : ℕ) → first_digit path q ≡ d → as_digit d ≡ Some (first_digit path q)
key_digit path q d mine = ap as_digit (sym mine) ∙ is_digit (first_digit path q) (digit_low path q)

-- the value of a key stays where one is removed that has none
unchanged : {K V : Type 0} (R : K → K → Ordering) (m : Map K V) (k : K) → value_at R m k ≡ None → (q : K) (b : Bool) → (b ≡ true → k ≡ q) → cond b None (value_at R m q) ≡ value_at R m q
unchanged R m k none q true same = sym none ∙ ap (value_at R m) (same refl)
unchanged R m k none q false same = refl

module _ {K V : Type 0} (R : K → K → Ordering) (path : K → ℕ) where
  value_append : (q : K) (old : Option V) (xs ys : List (Entry K V)) → value_from R path q old (xs ++ ys) ≡ value_from R path q (value_from R path q old xs) ys
  value_append q old [] ys = refl
  value_append q old (x ∷ xs) ys = value_append q (value_after R path q old x.write) xs ys

  -- a history that leaves the digit's keys the same values tells the same
  pub tells_same : (d : ℕ) (digit : Option ℕ) (m : Map K V) (f h : List (Entry K V)) → digit ≡ as_digit d → Tells R path d m f → IsSame R path digit f h → Tells R path d m h
  tells_same d digit m f h is told same q mine = told q mine ∙ sym (same q (is ∙ key_digit path q d mine))

  -- a write of the map and of the history
  told_write : (d : ℕ) (m n : Map K V) (h : List (Entry K V)) (e : Entry K V) → Tells R path d m h → ((q : K) → value_at R n q ≡ value_after R path q (value_at R m q) e.write) → Tells R path d n (h ++ e ∷ [])
  told_write d m n h e told law q mine = law q ∙ (ap (λ (o : Option V). value_after R path q o e.write) (told q mine) ∙ sym (value_append q None h (e ∷ [])))

  -- what a write of the history says that was done once
  abbrev pub Adds : Option Book → Known K V → Signer → Entry K V → List (Entry K V) → Type 0
  Adds name t signer e new = HasHistory name → (h : List (Entry K V)) × IsPrefix t.log h × IsSame R path t.digit t.log h × Made path signer h × (new ≡ h ++ e ∷ [])

  module _ (H : K → V → Type 0) (name : Option Book) (d : ℕ) (c : Contents K V) (t : Known K V) (was : IsStripe R path H name d c t) where
    -- the part may write what is of the stripe
    pub may_add : (w : Write K V) → d < fan_out → IsOf path d w → HasHistory name → (e : ℕ) × (t.digit ≡ Some e) × IsOf path e w
    may_add w low mine named = (d, (was.told named).0 ∙ is_digit d low, mine)

    -- the pairs as they were, and a history that says the same
    pub stripe_stays : (c' : Contents K V) (t' : Known K V) → c'.limit ≡ c.limit → c'.entries ≡ c.entries → t'.digit ≡ t.digit → IsSame R path t.digit t.log t'.log → IsStripe R path H name d c' t'
    stripe_stays c' t' limit is digit same = record {
      limit = limit ∙ was.limit;
      belongs = subst (AllKeep R (Belongs path H d)) (sym is) was.belongs;
      told = λ named. (digit ∙ (was.told named).0, subst (λ (m : Map K V). Tells R path d m t'.log) (sym is) (tells_same d t.digit c.entries t.log t'.log (was.told named).0 (was.told named).1 same));
    }

    added : (n : Map K V) (t' : Known K V) (signer : Signer) (e : Entry K V) → t'.digit ≡ t.digit → Adds name t signer e t'.log → ((q : K) → value_at R n q ≡ value_after R path q (value_at R c.entries q) e.write) → HasHistory name → (t'.digit ≡ as_digit d) × Tells R path d n t'.log
    added n t' signer e digit adds law named =
        let old = was.told named in let wr = adds named in
        (digit ∙ old.0, subst (Tells R path d n) (sym wr.4) (told_write d c.entries n wr.0 e (tells_same d t.digit c.entries t.log wr.0 old.0 old.1 wr.2) law))

    module _ (law : (m : Map K V) (k q : K) (v : V) → value_at R (with_pair R m k v) q ≡ cond (eq_by_cmp R q k) (Some v) (value_at R m q)) (exact : (a b : K) → R a b ≡ Equal → a ≡ b) where
      pub stripe_put : (c' : Contents K V) (t' : Known K V) (signer : Signer) (k : K) (v : V) (e : Entry K V) → e.write ≡ Put k v → c'.limit ≡ c.limit → c'.entries ≡ with_pair R c.entries k v → H k v → first_digit path k ≡ d → t'.digit ≡ t.digit → Adds name t signer e t'.log → IsStripe R path H name d c' t'
      stripe_put c' t' signer k v e put limit is rule mine digit adds = record {
        limit = limit ∙ was.limit;
        belongs = kept_put R (Belongs path H d) law exact c.entries c'.entries k v is was.belongs (rule, mine);
        told = added c'.entries t' signer e digit adds (λ q. ap (λ (m : Map K V). value_at R m q) is ∙ (law c.entries k q v ∙ ap (λ (w : Write K V). value_after R path q (value_at R c.entries q) w) (sym put)));
      }

    module _ (law : (m : Map K V) (k q : K) → value_at R (without R m k) q ≡ cond (eq_by_cmp R k q) None (value_at R m q)) where
      pub stripe_remove : (c' : Contents K V) (t' : Known K V) (signer : Signer) (k : K) (e : Entry K V) → e.write ≡ Remove k → c'.limit ≡ c.limit → c'.entries ≡ without R c.entries k → t'.digit ≡ t.digit → Adds name t signer e t'.log → IsStripe R path H name d c' t'
      stripe_remove c' t' signer k e removal limit is digit adds = record {
        limit = limit ∙ was.limit;
        belongs = kept_remove R (Belongs path H d) law c.entries c'.entries k is was.belongs;
        told = added c'.entries t' signer e digit adds (λ q. ap (λ (m : Map K V). value_at R m q) is ∙ (law c.entries k q ∙ ap (λ (w : Write K V). value_after R path q (value_at R c.entries q) w) (sym removal)));
      }

      -- a removal that found nothing
      pub stripe_removes_none : (c' : Contents K V) (k : K) → value_at R c.entries k ≡ None → c'.limit ≡ c.limit → c'.entries ≡ without R c.entries k → ((q : K) → eq_by_cmp R k q ≡ true → k ≡ q) → IsStripe R path H name d c' t
      stripe_removes_none c' k none limit is exact = record {
        limit = limit ∙ was.limit;
        belongs = kept_remove R (Belongs path H d) law c.entries c'.entries k is was.belongs;
        told = λ named. ((was.told named).0, λ q mine. ap (λ (m : Map K V). value_at R m q) is ∙ (law c.entries k q ∙ (unchanged R c.entries k none q (eq_by_cmp R k q) (exact q) ∙ (was.told named).1 q mine)));
      }

    -- what a write tells: the value before is the one that the history had left the key
    pub wrote : (k : K) (w : Write K V) (signer : Signer) (before : Option V) (e : Entry K V) (new : List (Entry K V)) → first_digit path k ≡ d → before ≡ value_at R c.entries k → e ≡ record { by = signer.by; write = w } → Adds name t signer e new → HasHistory name → WroteIf R path true w k before signer t.log new
    wrote k w signer before e new mine is entry adds named =
        let old = was.told named in let wr = adds named in
        (wr.0, wr.1, is ∙ (old.1 k mine ∙ sym (wr.2 k (old.0 ∙ key_digit path k d mine))), (λ done. wr.3), wr.4 ∙ ap (λ (x : Entry K V). wr.0 ++ x ∷ []) entry)

    pub wrote_nothing : (k : K) (w : Write K V) (signer : Signer) (before : Option V) → first_digit path k ≡ d → before ≡ value_at R c.entries k → HasHistory name → WroteIf R path false w k before signer t.log t.log
    wrote_nothing k w signer before mine is named = (t.log, ([], append-nil t.log), is ∙ (was.told named).1 k mine, (λ done. absurd (true≢false (sym done))), refl)

    nothing : d ≡ fan_out → (q : K) (found : Option V) → value_at R c.entries q ≡ found → found ≡ None
    nothing lent q None is = refl
    nothing lent q (Some v) is = absurd (let own = (was.belongs q v is).1 in let low = digit_low path q in omega (arith, own, lent, low))

    -- a stripe that has no digit for a while has no pair
    pub none_there : d ≡ fan_out → (q : K) → value_at R c.entries q ≡ None
    none_there lent q = nothing lent q (value_at R c.entries q) refl

-- what holds with a history and with none
pub by_name : (name : Option Book) (P : Type 0) → (name ≡ None → P) → (HasHistory name → P) → P
by_name None P none some = none refl
by_name (Some b) P none some = some (b, refl)

-- a history that ends with the removal of all keys leaves no value
pub ends_none : {K V : Type 0} (R : K → K → Ordering) (path : K → ℕ) (log : List (Entry K V)) → EndsCleared log → (q : K) → value_in R path log q ≡ None
ends_none R path log ends q = ap (λ (l : List (Entry _ _)). value_in R path l q) ends.2 ∙ value_append R path q None ends.0 (record { by = ends.1; write = Clear } ∷ [])

pub none_mapped : {A B : Type 0} (f : A → B) (o : Option A) → is_some o ≡ false → option_map f o ≡ None
none_mapped f None none = refl
none_mapped f (Some x) none = absurd (true≢false none)
