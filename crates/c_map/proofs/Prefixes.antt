-- How many keys of a walk pass a test.
use Rattle.std.proofs.Common.{◌≡◌, ℕ, ◌+◌, ◌≤◌, Bool, true, false, not, cond, T, List, ◌∷◌, length, refl, ap, ◌∙◌, arith}
use Rattle.std.proofs.lemmas.List.Filters.{length-filter_both}
use Rattle.std.proofs.lemmas.Float.{T_from_true}
use Rattle.std.specs.FinMap.{is_sorted}
use Rattle.std.specs.FinMap.Entries.{where_key, is_sorted-where_key}
use Rattle.trie_shape.specs.Map.{Map, IsMap}
use Rattle.keys.specs.Order.{bytes_cmp}

module _ {V : Type 0} (test : List ℕ → Bool) where
  -- no more than there are
  few_pass : (es : List (List ℕ × V)) → length (where_key bytes_cmp test es) ≤ length es
  few_pass es = omega (arith, length-filter_both (λ (e : List ℕ × V). test e.0) (λ e. not (test e.0)) (λ e. refl) es)

  -- one that passes, beside those before it, is no more than all
  pub one_more : (count : ℕ) (e : List ℕ × V) (es ahead all : List (List ℕ × V)) → ahead ≡ e ∷ es → test e.0 ≡ true
      → count + length (where_key bytes_cmp test ahead) ≡ length (where_key bytes_cmp test all) → count + 1 ≤ length all
  one_more count e es ahead all first passes counted =
      let here : where_key bytes_cmp test ahead ≡ e ∷ where_key bytes_cmp test es =
      ap (where_key bytes_cmp test) first ∙ ap (λ b. cond b (e ∷ where_key bytes_cmp test es) (where_key bytes_cmp test es)) passes in
      omega (arith, ap length here, counted, few_pass all)

true_of : (b : Bool) → T b → b ≡ true
true_of true h = refl
true_of false h = absurd h

-- as many keys pass a test in a walk as in its map
pub count_passing : {V : Type 0} (test : List ℕ → Bool) (m : Map (List ℕ) V) (walk : Map (List ℕ) V → Map (List ℕ) V) → IsMap bytes_cmp m
    → ((n : Map (List ℕ) V) → IsMap bytes_cmp n → length (walk n) ≡ length n) → (where_key bytes_cmp test (walk m) ≡ walk (where_key bytes_cmp test m))
    → length (where_key bytes_cmp test (walk m)) ≡ length (where_key bytes_cmp test m)
count_passing test m walk map count passing =
    ap length passing ∙ count (where_key bytes_cmp test m) (true_of (is_sorted bytes_cmp (where_key bytes_cmp test m)) (is_sorted-where_key bytes_cmp test m (T_from_true (is_sorted bytes_cmp m) map)))
