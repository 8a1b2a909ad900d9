-- Writes of a session, one behind another.
use mir.Val.{bool_byte}
use Rattle.std.proofs.Common.{◌≡◌, ℕ, ◌+◌, length, arith, Bool, true, false, List, [], ◌∷◌, ◌++◌, Option, Some, None, IfSome, is_some, unwrap_or, refl, sym, ap, ◌∙◌, subst}
use Rattle.std.proofs.lemmas.Option.{none-some}
use Rattle.std.proofs.lemmas.List.Elements.{All-push}
use Rattle.std.specs.Prelude.{All, option_map}
use Rattle.std.specs.declared.cmp.Ordering.{Ordering}
use Rattle.stripes.proofs.Lending.{length_snoc}
use Rattle.stripe.proofs.Seeing.{prefix_self, prefix_trans, wrote_behind}
use Rattle.versions.specs.Map.{Map}
use Rattle.write_history.specs.declared.entry.Write.TheVariants.{Put, Remove}
use Rattle.write_history.specs.Signers.{Signer, WroteIf, signed_if, signed_once}
use Rattle.map_session.specs.Sessions.{GoesOn, InTurn, Puts, Removes, RemovesIf, Replaces, ReplacesIf, Seen}

pub goes_on_self : {K V : Type 0} (s : Seen K V) → GoesOn s s
goes_on_self s = (prefix_self s.log, refl)

pub goes_on_on : {K V : Type 0} (s t u : Seen K V) → GoesOn s t → GoesOn t u → GoesOn s u
goes_on_on s t u p q = (prefix_trans s.log t.log u.log p.0 q.0, q.1 ∙ p.1)

module _ {A K V : Type 0} (step : A → Seen K V → Seen K V → Type 0) (behind : (x : A) (s t u : Seen K V) → GoesOn s t → step x t u → step x s u) where
  -- the first step stands behind what had been seen before
  pub turns_behind : (xs : List A) (s t u : Seen K V) → GoesOn s t → InTurn step xs t u → InTurn step xs s u
  turns_behind [] s t u p q = goes_on_on s t u p q
  turns_behind (x ∷ xs) s t u p q = (q.0, behind x s t q.0 p q.1, q.2)

  -- one step more
  pub turns_more : (xs : List A) (x : A) (s t u : Seen K V) → InTurn step xs s t → step x t u → InTurn step (xs ++ x ∷ []) s u
  turns_more [] x s t u p q = (u, behind x s t u p q, goes_on_self u)
  turns_more (y ∷ xs) x s t u p q = (p.0, p.1, turns_more xs x p.0 t u p.2 q)

  -- more is seen
  pub turns_on : (xs : List A) (s t u : Seen K V) → InTurn step xs s t → GoesOn t u → InTurn step xs s u
  turns_on [] s t u p q = goes_on_on s t u p q
  turns_on (x ∷ xs) s t u p q = (p.0, p.1, turns_on xs p.0 t u p.2 q)

module _ {K V : Type 0} (R : K → K → Ordering) (path : K → ℕ) where
  pub puts_behind : (pair : K × V) (s t u : Seen K V) → GoesOn s t → Puts R path pair t u → Puts R path pair s u
  puts_behind pair s t u p q = (
    q.0,
    wrote_behind R path true (Put pair.0 pair.1) pair.0 q.0 s.signer s.log t.log u.log p.0 (subst (λ (signer : Signer). WroteIf R path true (Put pair.0 pair.1) pair.0 q.0 signer t.log u.log) p.1 q.1),
    q.2 ∙ ap signed_once p.1,
  )

  pub removes_behind : (pair : K × V) (s t u : Seen K V) → GoesOn s t → Removes R path pair t u → Removes R path pair s u
  removes_behind pair s t u p q = (
    wrote_behind R path true (Remove pair.0) pair.0 (Some pair.1) s.signer s.log t.log u.log p.0 (subst (λ (signer : Signer). WroteIf R path true (Remove pair.0) pair.0 (Some pair.1) signer t.log u.log) p.1 q.0),
    q.1 ∙ ap signed_once p.1,
  )

  -- a key was removed that had a value
  pub removes_if : {A : Type 0} (of : A → V) (k : K) (H M : V → Type 0) (removed : Option A) (v : V) (s t : Seen K V) → option_map of removed ≡ Some v → IfSome removed (λ a. H (of a)) → M v → WroteIf R path (is_some removed) (Remove k) k (option_map of removed) s.signer s.log t.log → t.signer ≡ signed_if (is_some removed) s.signer → RemovesIf R path (is_some removed) k (λ w. H w × M w) s t
  removes_if of k H M None v s t is kept may wrote signed = absurd (none-some v is)
  removes_if of k H M (Some a) v s t is kept may wrote signed = (of a, (kept, subst M (sym (ap (λ (o : Option V). unwrap_or o v) is)) may), (wrote, signed))

  -- n keys were removed whose values hold, one behind another
  abbrev pub Removed : (K → V → Type 0) → ℕ → Seen K V → Seen K V → Type 0
  Removed G n s t = (gone : Map K V) × InTurn (Removes R path) gone s t × All (λ (pair : K × V). G pair.0 pair.1) gone × (n ≡ length gone)

  -- one more may be removed
  pub one_more_removed : (G : K → V → Type 0) (k : K) (s t u : Seen K V) (done : Bool) (n one : ℕ) → one ≡ bool_byte done → Removed G n s t → RemovesIf R path done k (G k) t u → Removed G (n + one) s u
  one_more_removed G k s t u true n one is before now = (
    before.0 ++ (k, now.0) ∷ [],
    turns_more (Removes R path) removes_behind before.0 (k, now.0) s t u before.1 now.2,
    All-push (λ (pair : K × V). G pair.0 pair.1) before.0 (k, now.0) before.2 now.1,
    omega (arith, is, before.3, length_snoc before.0 (k, now.0)),
  )
  one_more_removed G k s t u false n one is before now = (
    before.0,
    turns_on (Removes R path) removes_behind before.0 s t u before.1 now,
    before.2,
    omega (arith, is, before.3),
  )

module _ {K V : Type 0} (R : K → K → Ordering) (path : K → ℕ) (may : K → V → V → Type 0) where
  pub replaces_behind : (x : K × V × V) (s t u : Seen K V) → GoesOn s t → Replaces R path may x t u → Replaces R path may x s u
  replaces_behind x s t u p q = (
    q.0,
    wrote_behind R path true (Put x.0 x.2) x.0 (Some x.1) s.signer s.log t.log u.log p.0 (subst (λ (signer : Signer). WroteIf R path true (Put x.0 x.2) x.0 (Some x.1) signer t.log u.log) p.1 q.1),
    q.2 ∙ ap signed_once p.1,
  )

  -- a key was given a value that had one
  pub replaces_if : {A : Type 0} (of : A → V) (k : K) (before : Option A) (old made : V) (s t : Seen K V) → option_map of before ≡ Some old → may k old made → WroteIf R path (is_some before) (Put k made) k (option_map of before) s.signer s.log t.log → t.signer ≡ signed_if (is_some before) s.signer → ReplacesIf R path (is_some before) k may s t
  replaces_if of k None old made s t is may_make wrote signed = absurd (none-some old is)
  replaces_if of k (Some a) old made s t is may_make wrote signed = (of a, made, (subst (λ (v : V). may k v made) (sym (ap (λ (o : Option V). unwrap_or o old) is)) may_make, wrote, signed))

  -- n keys were given values, one behind another
  abbrev pub Replaced : ℕ → Seen K V → Seen K V → Type 0
  Replaced n s t = (given : List (K × V × V)) × InTurn (Replaces R path may) given s t × (n ≡ length given)

  -- one more may be given one
  pub one_more_replaced : (k : K) (s t u : Seen K V) (done : Bool) (n one : ℕ) → one ≡ bool_byte done → Replaced n s t → ReplacesIf R path done k may t u → Replaced (n + one) s u
  one_more_replaced k s t u true n one is before now = (
    before.0 ++ (k, now.0, now.1) ∷ [],
    turns_more (Replaces R path may) replaces_behind before.0 (k, now.0, now.1) s t u before.1 now.2,
    omega (arith, is, before.2, length_snoc before.0 (k, now.0, now.1)),
  )
  one_more_replaced k s t u false n one is before now = (
    before.0,
    turns_on (Replaces R path may) replaces_behind before.0 s t u before.1 now,
    omega (arith, is, before.2),
  )
