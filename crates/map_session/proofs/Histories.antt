-- The value that a history leaves a key which is not written again.
use Rattle.std.proofs.Common.{◌≡◌, ℕ, Bool, false, cond, List, [], ◌∷◌, ◌++◌, Option, Some, None, refl, ap, ◌∙◌, true≢false}
use Rattle.std.specs.declared.cmp.Ordering.{Ordering}
use Rattle.std.specs.Ordering.{is_eq}
use Rattle.std.specs.Cmp.{IsTotalOrder, tied_itself}
use Rattle.write_history.specs.declared.entry.Entry.{Entry}
use Rattle.write_history.specs.declared.entry.Write.{Write}
use Rattle.write_history.specs.declared.entry.Write.TheVariants.{Put, Remove, Clear}
use Rattle.write_history.specs.Histories.{value_after, value_from, value_in}
use Rattle.map_session.specs.Sessions.{Untouched, is_write_of}

module _ {K V : Type 0} (R : K → K → Ordering) (path : K → ℕ) where
  value_append : (q : K) (old : Option V) (xs ys : List (Entry K V)) → value_from R path q old (xs ++ ys) ≡ value_from R path q (value_from R path q old xs) ys
  value_append q old [] ys = refl
  value_append q old (x ∷ xs) ys = value_append q (value_after R path q old x.write) xs ys

  left : (q : K) (old : Option V) (w : Write K V) → is_write_of R q w ≡ false → value_after R path q old w ≡ old
  left q old (Put k v) is = ap (λ (b : Bool). cond b (Some v) old) is
  left q old (Remove k) is = ap (λ (b : Bool). cond b None old) is
  left q old Clear is = absurd (true≢false is)

  stays : (q : K) (old : Option V) (es : List (Entry K V)) → Untouched R q es → value_from R path q old es ≡ old
  stays q old [] none = refl
  stays q old (e ∷ es) none = ap (λ (o : Option V). value_from R path q o es) (left q old e.write none.0) ∙ stays q old es none.1

  -- the put was the last entry
  pub just_put : IsTotalOrder R → (h : List (Entry K V)) (by : Option ℕ) (k : K) (v : V) → value_in R path (h ++ record { by = by; write = Put k v } ∷ []) k ≡ Some v
  just_put order h by k v =
      value_append k None h (record { by = by; write = Put k v } ∷ [])
      ∙ ap (λ (b : Bool). cond b (Some v) (value_in R path h k)) (ap is_eq (tied_itself order k))

  pub last_put : IsTotalOrder R → (h rest : List (Entry K V)) (by : Option ℕ) (k : K) (v : V) → Untouched R k rest → value_in R path ((h ++ record { by = by; write = Put k v } ∷ []) ++ rest) k ≡ Some v
  last_put order h rest by k v none =
      let e : Entry K V = record { by = by; write = Put k v } in
      value_append k None (h ++ e ∷ []) rest
      ∙ (stays k (value_in R path (h ++ e ∷ []) k) rest none ∙ just_put order h by k v)
