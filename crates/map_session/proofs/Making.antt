-- Values that are made for keys which have none.
use Rattle.std.proofs.Common.{◌≡◌, ℕ, Bool, true, false, cond, List, Option, Some, None, is_none, refl, sym, ap, ◌∙◌, subst, true≢false}
use Rattle.std.specs.declared.cmp.Ordering.{Ordering}
use Rattle.std.specs.Cmp.{IsTotalOrder}
use Rattle.write_history.specs.declared.entry.Entry.{Entry}
use Rattle.write_history.specs.declared.entry.Write.{Write}
use Rattle.write_history.specs.declared.entry.Write.TheVariants.{Put}
use Rattle.write_history.specs.Histories.{value_in}
use Rattle.write_history.specs.Signers.{Read, Signer, WroteIf, signed_if}
use Rattle.map_session.proofs.Histories.{just_put}

module _ {K V : Type 0} (R : K → K → Ordering) (path : K → ℕ) where
  -- a look-up writes nothing
  pub read_wrote : (w : Write K V) (k : K) (found : Option V) (signer : Signer) (old new : List (Entry K V)) → Read R path k found old new → WroteIf R path false w k found signer old new
  read_wrote w k found signer old new read = (new, read.0, read.1, (λ done. absurd (true≢false (sym done))), refl)

  -- what was not written may have been any write
  pub not_wrote : (w x : Write K V) (k : K) (before : Option V) (signer : Signer) (old new : List (Entry K V)) → WroteIf R path false w k before signer old new → WroteIf R path false x k before signer old new
  not_wrote w x k before signer old new wrote = (wrote.0, wrote.1, wrote.2, (λ done. absurd (true≢false (sym done))), wrote.4)

  -- a key that was found, or was put where it had no value, has that value then
  pub made_value : IsTotalOrder R → (put : Bool) (k : K) (v : V) (signer : Signer) (old new : List (Entry K V)) → WroteIf R path put (Put k v) k (cond put None (Some v)) signer old new → value_in R path new k ≡ Some v
  made_value order true k v signer old new wrote = ap (λ (l : List (Entry K V)). value_in R path l k) wrote.4 ∙ just_put R path order wrote.0 signer.by k v
  made_value order false k v signer old new wrote = ap (λ (l : List (Entry K V)). value_in R path l k) wrote.4 ∙ sym wrote.2

  -- where another value was there, that stands
  pub found_instead : (k : K) (v x : V) (written : Bool) (before : Option V) (s t : Signer) (old new : List (Entry K V)) → written ≡ is_none before → before ≡ Some x → WroteIf R path written (Put k v) k before s old new → t ≡ signed_if written s → (put : Bool) × WroteIf R path put (Put k x) k (cond put None (Some x)) s old new × (t ≡ signed_if put s) × (put ≡ true → x ≡ v)
  found_instead k v x written before s t old new absent is wrote signed =
      let no : written ≡ false = absent ∙ ap (λ (o : Option V). is_none o) is in
      let here = subst (λ (b : Bool). WroteIf R path b (Put k v) k before s old new) no wrote in (
        false,
        not_wrote (Put k v) (Put k x) k (Some x) s old new (subst (λ (o : Option V). WroteIf R path false (Put k v) k o s old new) is here),
        signed ∙ ap (λ (b : Bool). signed_if b s) no,
        (λ put. absurd (true≢false (sym put))),
      )

  -- and else the one that was made
  pub put_itself : (k : K) (v x : V) (written : Bool) (before : Option V) (s t : Signer) (old new : List (Entry K V)) → written ≡ is_none before → before ≡ None → x ≡ v → WroteIf R path written (Put k v) k before s old new → t ≡ signed_if written s → (put : Bool) × WroteIf R path put (Put k x) k (cond put None (Some x)) s old new × (t ≡ signed_if put s) × (put ≡ true → x ≡ v)
  put_itself k v x written before s t old new absent is same wrote signed =
      let yes : written ≡ true = absent ∙ ap (λ (o : Option V). is_none o) is in
      let here = subst (λ (b : Bool). WroteIf R path b (Put k v) k before s old new) yes wrote in (
        true,
        subst (λ (w : V). WroteIf R path true (Put k w) k None s old new) (sym same) (subst (λ (o : Option V). WroteIf R path true (Put k v) k o s old new) is here),
        signed ∙ ap (λ (b : Bool). signed_if b s) yes,
        (λ put. same),
      )

  -- a key that was put where it had no value has that value then
  pub put_value : IsTotalOrder R → (written : Bool) (j k : K) (v x : V) (before : Option V) (s : Signer) (old new : List (Entry K V)) → written ≡ is_none before → before ≡ None → j ≡ k → x ≡ v → WroteIf R path written (Put j v) j before s old new → value_in R path new k ≡ Some x
  put_value order written j k v x before s old new absent is key same wrote =
      let yes : written ≡ true = absent ∙ ap (λ (o : Option V). is_none o) is in
      let here = subst (λ (b : Bool). WroteIf R path b (Put j v) j before s old new) yes wrote in
      let told : value_in R path new j ≡ Some v = ap (λ (l : List (Entry K V)). value_in R path l j) here.4 ∙ just_put R path order here.0 s.by j v in
      subst (λ (i : K). value_in R path new i ≡ Some x) key (told ∙ ap (λ (w : V). Some w) (sym same))
