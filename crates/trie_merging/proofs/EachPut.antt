-- Pairs put one after another where a test holds.
use Rattle.std.proofs.Common.{◌≡◌, ℕ, zero, suc, ◌+◌, ◌*◌, ◌<◌, ◌≤◌, ◌%◌, ◌^◌, Bool, true, false, cond, ◌⊎◌, inl, inr, List, [], ◌∷◌, ◌++◌, length, take, get_or, Option, Some, None, is_some, IfSome, refl, sym, ap, ◌∙◌, subst, arith, length-append}
use mathlib.Core.Bool.{false≢true}
use Rattle.std.specs.declared.cmp.Ordering.{Ordering}
use Rattle.std.specs.declared.cmp.Ordering.TheVariants.{Equal}
use Rattle.std.specs.Ordering.{eq_by_cmp}
use Rattle.std.specs.Cmp.{IsTotalOrder}
use Rattle.std.specs.FinMap.{find}
use Rattle.std.proofs.lemmas.List.{take_more}
use Rattle.hash_path.specs.Digits.{word_digits, digit_bits}
use Rattle.trie_merging.specs.Merges.{CanMerge, PutsEach, StampsPass, written_over}
use Rattle.trie_shape.specs.Tree.{Tree, bucket, entries, IsTrie}
use Rattle.trie_copy.specs.Writes.{Writes, WritesWhere, KeysAgree}
use Rattle.trie_shape.proofs.Apart.{apart_sorted}
use Rattle.trie_shape.proofs.Finds.{tied, found_first}
use Rattle.trie_shape.proofs.Listings.{IsApart}
use Rattle.trie_merging.proofs.StampTests.{written_within}
use Rattle.trie_shape.proofs.Tries.{or_else, or_none, find_append}

either_found : {V : Type 0} (holds : Option V → Bool) (given found : Option V) → is_some (written_over holds given found) ≡ true → (is_some given ≡ true) ⊎ (is_some found ≡ true)
either_found holds None found e = inr e
either_found holds (Some v) found e = inl refl

module _ {K V : Type 0} (R : K → K → Ordering) (path : K → ℕ) (total : IsTotalOrder R) (exact : (x y : K) → R x y ≡ Equal → x ≡ y) where
  -- the pair at a place is found
  found_at : (es : List (K × V)) (i : ℕ) (e : K × V) → i < length es → e ≡ get_or es i e → is_some (find R e.0 es) ≡ true
  found_at [] i e lt is = absurd (omega arith)
  found_at (x ∷ es) zero e lt is = ap (λ y. is_some (find R y.0 (x ∷ es))) is ∙ ap is_some (found_first R total exact x es)
  found_at (x ∷ es) (suc i) e lt is =
      let rest = found_at es i e (omega arith) is in
      elim (eq_by_cmp R e.0 x.0) as (λ b. is_some (cond b (Some x.1) (find R e.0 es)) ≡ true) [ true ↦ refl | false ↦ rest ]

  -- but not among the pairs before it
  not_before : (es : List (K × V)) (i : ℕ) (e : K × V) → IsApart R total es → i < length es → e ≡ get_or es i e → find R e.0 (take i es) ≡ None
  not_before [] i e apart lt is = absurd (omega arith)
  not_before (x ∷ es) zero e apart lt is = refl
  not_before (x ∷ es) (suc i) e apart lt is = of_tie (not_before es i e apart.1 (omega arith) is) (eq_by_cmp R e.0 x.0) refl
    where
      of_tie : find R e.0 (take i es) ≡ None → (b : Bool) → eq_by_cmp R e.0 x.0 ≡ b → cond (eq_by_cmp R e.0 x.0) (Some x.1) (find R e.0 (take i es)) ≡ None
      of_tie rest true tie =
          let same : e.0 ≡ x.0 = exact e.0 x.0 (tied (R e.0 x.0) tie) in
          absurd (false≢true (sym (ap is_some apart.0) ∙ ap (λ k. is_some (find R k es)) (sym same) ∙ found_at es i e (omega arith) is))
      of_tie rest false tie = ap (λ b. cond b (Some x.1) (find R e.0 (take i es))) tie ∙ rest

  -- what is found among the first pairs is found among all
  found_in_all : (q : K) (i : ℕ) (es : List (K × V)) → is_some (find R q (take i es)) ≡ true → is_some (find R q es) ≡ true
  found_in_all q zero [] found = found
  found_in_all q zero (x ∷ es) found = absurd (false≢true found)
  found_in_all q (suc i) [] found = found
  found_in_all q (suc i) (x ∷ es) found =
      elim (eq_by_cmp R q x.0) as (λ b. is_some (cond b (Some x.1) (find R q (take i es))) ≡ true → is_some (cond b (Some x.1) (find R q es)) ≡ true) [ true ↦ λ _. refl | false ↦ λ f. found_in_all q i es f ] found

  module _ (level stamp : ℕ) (holds : Option V → Bool) where
    -- one pair put where the test holds
    record PutsOne (k : K) (v : V) (old new : Tree K V) : Type 0 where
      pub trie : IsTrie R path level new
      pub finds : (q : K) → find R q (entries new) ≡ cond (eq_by_cmp R q k) (written_over holds (Some v) (find R k (entries old))) (find R q (entries old))
      pub most : length (entries new) ≤ length (entries old) + 1
      pub stamps : (test : ℕ → Bool) → test stamp ≡ true → StampsPass test old → StampsPass test new

    one_written : (k : K) (v : V) (old new : Tree K V) → level ≤ word_digits → Writes R path level stamp k (Some v) old new → holds (find R k (entries old)) ≡ true → PutsOne k v old new
    one_written k v old new depth w passes = record {
      trie = w.trie;
      finds = λ q. w.finds q ∙ ap (λ b. cond (eq_by_cmp R q k) (cond b (Some v) (find R k (entries old))) (find R q (entries old))) (sym passes);
      most = w.most;
      stamps = λ test stamped within. written_within R path test level stamp k (Some v) old new depth stamped w within;
    }

    one_kept : (k : K) (v : V) (old : Tree K V) → IsTrie R path level old → holds (find R k (entries old)) ≡ false → PutsOne k v old old
    one_kept k v old trie fails = record {
      trie = trie;
      finds = λ q. of_tie q (eq_by_cmp R q k) refl ∙ ap (λ b. cond (eq_by_cmp R q k) (cond b (Some v) (find R k (entries old))) (find R q (entries old))) (sym fails);
      most = omega arith;
      stamps = λ test stamped within. within;
    }
      where
        of_tie : (q : K) (b : Bool) → eq_by_cmp R q k ≡ b → find R q (entries old) ≡ cond (eq_by_cmp R q k) (find R k (entries old)) (find R q (entries old))
        of_tie q true tie = ap (λ x. find R x (entries old)) (exact q k (tied (R q k) tie)) ∙ ap (λ b. cond b (find R k (entries old)) (find R q (entries old))) (sym tie)
        of_tie q false tie = ap (λ b. cond b (find R k (entries old)) (find R q (entries old))) (sym tie)

    -- one more is put
    each_more : (es : List (K × V)) (k : K) (v : V) (old now new : Tree K V) → find R k es ≡ None → PutsEach R path level stamp holds es old now → PutsOne k v now new → PutsEach R path level stamp holds (es ++ (k, v) ∷ []) old new
    each_more es k v old now new none each one = record {
      trie = one.trie;
      finds = λ q. of_tie q (eq_by_cmp R q k) refl;
      most = omega (arith, one.most, each.most, length-append es ((k, v) ∷ []));
      stamps = λ test stamped within. one.stamps test stamped (each.stamps test stamped within);
    }
      where
        of_tie : (q : K) (b : Bool) → eq_by_cmp R q k ≡ b → find R q (entries new) ≡ written_over holds (find R q (es ++ (k, v) ∷ [])) (find R q (entries old))
        of_tie q true tie =
            let same = exact q k (tied (R q k) tie) in
            one.finds q
            ∙ ap (λ b. cond b (written_over holds (Some v) (find R k (entries now))) (find R q (entries now))) tie
            ∙ ap (written_over holds (Some v)) (each.finds k ∙ ap (λ o. written_over holds o (find R k (entries old))) none ∙ ap (λ x. find R x (entries old)) (sym same))
            ∙ ap (λ o. written_over holds o (find R q (entries old))) (sym (find_append R path q es ((k, v) ∷ []) ∙ ap (λ o. or_else o (find R q ((k, v) ∷ []))) (ap (λ x. find R x es) same ∙ none) ∙ ap (λ b. cond b (Some v) None) tie))
        of_tie q false tie =
            one.finds q
            ∙ ap (λ b. cond b (written_over holds (Some v) (find R k (entries now))) (find R q (entries now))) tie
            ∙ each.finds q
            ∙ ap (λ o. written_over holds o (find R q (entries old))) (sym (find_append R path q es ((k, v) ∷ []) ∙ ap (λ b. or_else (find R q es) (cond b (Some v) None)) tie ∙ or_none (find R q es)))

    module _ (bucket_stamp : ℕ) (es : List (K × V)) (old : Tree K V) (can : CanMerge R path level (Some (bucket bucket_stamp es)) (Some old)) (i : ℕ) (e : K × V) (lt : i < length es) (is : e ≡ get_or es i e) (now : Tree K V) (each : PutsEach R path level stamp holds (take i es) old now) where
      -- the keys so far agree with the next one
      pub agree_next : KeysAgree R path level (path e.0) (entries now)
      agree_next q found = elim (either_found holds (find R q (take i es)) (find R q (entries old)) (sym (ap is_some (each.finds q)) ∙ found)) as (λ _. path q % 2 ^ (digit_bits * level) ≡ path e.0 % 2 ^ (digit_bits * level)) [
        | inl given ↦ ap (λ w. w % 2 ^ (digit_bits * level)) (can.left_trie.2.1 q (found_in_all q i es given) ∙ sym (can.left_trie.2.1 e.0 (found_at es i e lt is)))
        | inr there ↦ sym (can.agree e.0 q (found_at es i e lt is) there)
      ]

      more : take i es ++ e ∷ [] ≡ take (i + 1) es
      more = (λ j. take i es ++ is j ∷ []) ∙ sym (take_more es i e lt)

      before : find R e.0 (take i es) ≡ None
      before = not_before es i e (apart_sorted R path exact total es can.left_trie.3) lt is

      module _ (previous : Option V) (made : Option (Tree K V)) (w : WritesWhere R path level stamp e.0 (Some e.1) holds now previous made) where
        -- the next pair was put
        pub each_written : (new : Tree K V) → made ≡ Some new → PutsEach R path level stamp holds (take (i + 1) es) old new
        each_written new some =
            let writes = subst (λ o. IfSome o (λ t. Writes R path level stamp e.0 (Some e.1) now t)) some w.writes in
            let passes = sym (ap is_some (sym some) ∙ w.written) in
            subst (λ xs. PutsEach R path level stamp holds xs old new) more (each_more (take i es) e.0 e.1 old now new before each (one_written e.0 e.1 now new can.depth writes passes))

        -- or was not
        pub each_kept : made ≡ None → PutsEach R path level stamp holds (take (i + 1) es) old now
        each_kept none =
            let fails = sym (ap is_some (sym none) ∙ w.written) in
            subst (λ xs. PutsEach R path level stamp holds xs old now) more (each_more (take i es) e.0 e.1 old now now before each (one_kept e.0 e.1 now each.trie fails))
