-- Roots of maps whose keys' words have one first digit.
use Rattle.std.proofs.Common.{◌≡◌, ◌≢◌, ℕ, ◌<◌, ◌≤◌, ◌==◌, true, false, List, [], ◌∷◌, length, Option, Some, None, is_some, IfSome, refl, sym, ap, ◌∙◌, subst, arith, inl, inr}
use Rattle.std.proofs.lemmas.Bool.{false_from_ne_true}
use Rattle.std.proofs.lemmas.Bool.Decides.{eqb_tells}
use Rattle.std.specs.declared.cmp.Ordering.{Ordering}
use Rattle.std.specs.declared.cmp.Ordering.TheVariants.{Equal}
use Rattle.std.specs.Cmp.{IsTotalOrder}
use Rattle.std.specs.FinMap.{find}
use Rattle.std.specs.Int.{bit_at}
use Rattle.hash_path.specs.Digits.{digit, fan_out}
use Rattle.trie_merging.specs.Merges.{child_at, pairs_of}
use Rattle.trie_shape.specs.Roots.{map_of}
use Rattle.trie_shape.specs.Shape.{Lacks}
use Rattle.trie_shape.specs.Tree.{Tree, branch, bucket, trees, entries, entries_of_all, IsTrie}
use Rattle.trie_shape.proofs.Counts.{has_pair}
use Rattle.trie_shape.proofs.Finds.{found_first}
use Rattle.trie_shape.proofs.Roots.{find_entries}
use Rattle.trie_shape.proofs.Tries.{at_child, find_child, find_other}
use Rattle.trie_merging.proofs.ChildAt.{IsBelow}
use Rattle.trie_merging.proofs.MergedRows.{IsSide, side}
use Rattle.united_roots.specs.Rows.{EachHasDigit, NoneHasDigit}

-- an option that is not some value is none
none_of : {A : Type 0} (o : Option A) → (is_some o ≡ true → None ≡ o) → None ≡ o
none_of (Some x) h = h refl
none_of None h = refl

module _ {K V : Type 0} (R : K → K → Ordering) (path : K → ℕ) (total : IsTotalOrder R) (exact : (x y : K) → R x y ≡ Equal → x ≡ y) where
  first_key : (es : List (K × V)) → 0 < length es → (q : K) × (is_some (find R q es) ≡ true)
  first_key [] some = absurd (omega arith)
  first_key (e ∷ es) some = (e.0, ap is_some (found_first R total exact e es))

  -- a root is one of two branches that could be put together
  pub root_side : (t : Tree K V) → IsTrie R path 0 t → (b : ℕ) × IsSide R path exact 0 b t
  root_side (branch stamp size bitmap ts) trie = (bitmap, side R path exact 0 bitmap (branch stamp size bitmap ts) refl trie)
  root_side (bucket stamp es) trie = absurd (omega (arith, trie.0))

  module _ (d : ℕ) where
    -- a branch has no child of a digit that no key has
    pub lacks_digit : d < fan_out → (stamp size bitmap : ℕ) (ts : List (Tree K V)) → IsTrie R path 0 (branch stamp size bitmap (trees ts)) → NoneHasDigit R path d (map_of R (branch stamp size bitmap (trees ts))) → (bit_at bitmap d == 1) ≡ false
    lacks_digit below stamp size bitmap ts trie none = false_from_ne_true (bit_at bitmap d == 1) (λ has.
        let c = at_child R path 0 bitmap d below ts trie.3 has in
        let a = c.around in
        let q = first_key (entries c.child) (has_pair R path 1 c.child c.trie (omega arith)) in
        let here : digit (path q.0) 0 ≡ d = c.keys q.0 q.1 in
        let same : (ds : List ℕ) → Lacks d ds → Lacks (digit (path q.0) 0) ds = λ ds. subst (λ k. Lacks k ds) (sym here) in
        let found : find R q.0 (entries_of_all (trees ts)) ≡ find R q.0 (entries c.child) =
        ap (λ xs. find R q.0 (entries_of_all (trees xs))) c.whole
        ∙ find_child R path exact 0 q.0 a.before a.after c.front c.back c.child (same a.before a.lacks_before) (same a.after a.lacks_after) c.front_ok c.back_ok in
        none q.0 (ap is_some (sym (find_entries R path total (branch stamp size bitmap (trees ts)) q.0) ∙ found) ∙ q.1) here)

    -- nor of one that no word has
    pub lacks_beyond : fan_out ≤ d → (t : Tree K V) → IsTrie R path 0 t → None ≡ child_at t d
    lacks_beyond beyond t trie = nobody (child_at t d) ((root_side t trie).1.known d)
      where
        nobody : (o : Option (Tree K V)) → IfSome o (IsBelow R path 0 d) → None ≡ o
        nobody (Some c) h = let q = first_key (entries c) (has_pair R path 1 c h.trie (omega arith)) in absurd (omega (arith, h.keys q.0 q.1))
        nobody None h = refl

    -- where all keys have the digit, the child of the digit has all pairs
    pub found_below : (t : Tree K V) → IsTrie R path 0 t → EachHasDigit R path d (map_of R t) → (q : K) → find R q (entries t) ≡ find R q (pairs_of (child_at t d))
    found_below t trie each q =
        let b = root_side t trie in
        elim (eqb_tells (digit (path q) 0) d) as (λ _. find R q (entries t) ≡ find R q (pairs_of (child_at t d))) [
          | inl e ↦ b.1.finds q ∙ ap (λ k. find R q (pairs_of (child_at t k))) e.1
          | inr e ↦ sym (none_of (find R q (entries t)) (λ some. absurd (e.1 (each q (ap is_some (sym (find_entries R path total t q)) ∙ some))))) ∙ sym (nowhere (child_at t d) (b.1.known d) e.1)
        ]
      where
        nowhere : (o : Option (Tree K V)) → IfSome o (IsBelow R path 0 d) → digit (path q) 0 ≢ d → find R q (pairs_of o) ≡ None
        nowhere (Some c) h ne = find_other R path exact 0 d q (entries c) ne h.keys
        nowhere None h ne = refl
