-- A branch of one child.
use Rattle.std.proofs.Common.{◌≡◌, ℕ, ◌+◌, ◌<◌, ◌≤◌, true, false, cond, List, [], ◌∷◌, length, Some, is_some, refl, sym, ap, ◌∙◌, subst, arith}
use Rattle.std.specs.Prelude.{All}
use Rattle.std.proofs.lemmas.List.{append-nil}
use Rattle.std.proofs.lemmas.List.Elements.{All-head, All-tail}
use Rattle.std.specs.declared.cmp.Ordering.{Ordering}
use Rattle.std.specs.declared.cmp.Ordering.TheVariants.{Equal}
use Rattle.std.specs.Ordering.{eq_by_cmp}
use Rattle.std.specs.FinMap.{find}
use Rattle.hash_path.specs.Digits.{fan_out, last_level}
use Rattle.trie_shape.specs.Tree.{Tree, branch, more_trees, no_trees, entries, AreTries, IsTrie, HasTwoWords, KeysHaveDigit}
use Rattle.trie_shape.proofs.Finds.{tied}
use Rattle.trie_copy.proofs.Splits.{one_digit, digits_of_one}

module _ {K V : Type 0} (R : K → K → Ordering) (path : K → ℕ) where
  -- what is true of all keys is true of each that is found
  pub all_found : ((x y : K) → R x y ≡ Equal → x ≡ y) → (P : K → Type 0) (es : List (K × V)) → All (λ e. P e.0) es → (q : K) → is_some (find R q es) ≡ true → P q
  all_found exact P [] h q found = cc
  all_found exact P (e ∷ es) h q found =
      elim (eq_by_cmp R q e.0) as (λ b. eq_by_cmp R q e.0 ≡ b → is_some (cond b (Some e.1) (find R q es)) ≡ true → P q) [
        | true ↦ λ t f. subst P (sym (exact q e.0 (tied (R q e.0) t))) (All-head (λ x. P x.0) e es h)
        | false ↦ λ t f. all_found exact P es (All-tail (λ x. P x.0) e es h) q f
      ] refl found

  -- a branch of one child is a trie one level higher up, of the same pairs
  pub above_trie : {stamp : ℕ} (level d : ℕ) (t u : Tree K V) → level ≤ last_level → d < fan_out → IsTrie R path (level + 1) t → KeysHaveDigit R path level d (entries t) → (0 < level → HasTwoWords R path (entries t))
      → u ≡ branch stamp (length (entries t)) (one_digit d) (more_trees t no_trees) → IsTrie R path level u × (entries u ≡ entries t)
  above_trie level d t u deep below trie keys two is =
      let all = append-nil (entries t) in
      let row : AreTries R path level (d ∷ []) (more_trees t no_trees) = (keys, trie, tt) in (
        subst (IsTrie R path level) (sym is)
            (deep, omega arith, sym (ap length all), subst (λ ds. AreTries R path level ds (more_trees t no_trees)) (sym (digits_of_one d below)) row, λ up. subst (HasTwoWords R path) (sym all) (two up)),
        ap entries is ∙ all,
      )
