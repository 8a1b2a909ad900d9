-- The children of a branch that is made, one after another.
use Rattle.std.proofs.Common.{◌≡◌, ℕ, zero, suc, ◌+◌, ◌*◌, ◌%◌, ◌^◌, ◌<◌, ◌≤◌, Bool, List, [], ◌∷◌, ◌++◌, length, take, drop, get_or, Some, refl, sym, ap, ◌∙◌, subst, arith, bit_or}
use Rattle.std.proofs.lemmas.List.{append-nil, drop_more, length-append, take_all, take_more}
use Rattle.std.specs.declared.cmp.Ordering.{Ordering}
use Rattle.hash_path.specs.Digits.{fan_out}
use Rattle.trie_merging.specs.Merges.{AllStampsPass, StampsPass}
use Rattle.trie_shape.specs.Looks.{ShowsBitmap}
use Rattle.trie_shape.specs.Outline.{children, list_of}
use Rattle.trie_shape.specs.Tree.{Tree, branch, bucket, Trees, no_trees, more_trees, trees, digits_of, entries, entries_of_all, KeysHaveDigit, IsTrie, AreTries}
use Rattle.trie_shape.proofs.Empty.{no_digits}
use Rattle.trie_shape.proofs.Tries.{entries_append, join}
use Rattle.trie_shape.proofs.Unique.{Rising, rises}
use Rattle.trie_filter.specs.Passing.{AreChosen, EachHasPairs, IsLeft, IsRow, is_stamp}
use Rattle.trie_filter.proofs.LowDigits.{below_later, below_more, digits_more}
use Rattle.trie_filter.proofs.Chosen.{chosen_append, found_chosen, length_chosen}

module _ {K V : Type 0} where
  trees_list : (ts : Trees K V) → trees (list_of ts) ≡ ts
  trees_list no_trees = refl
  trees_list (more_trees t ts) = ap (more_trees t) (trees_list ts)

  some_more : (ts : List (Tree K V)) (c : Tree K V) → EachHasPairs (trees ts) → 0 < length (entries c) → EachHasPairs (trees (ts ++ c ∷ []))
  some_more [] c h here = (here, tt)
  some_more (t ∷ ts) c h here = (h.0, some_more ts c h.1 here)

  stamps_more : (test : ℕ → Bool) (ts : List (Tree K V)) (c : Tree K V) → AllStampsPass test (trees ts) → StampsPass test c → AllStampsPass test (trees (ts ++ c ∷ []))
  stamps_more test [] c h here = (here, tt)
  stamps_more test (t ∷ ts) c h here = (h.0, stamps_more test ts c h.1 here)

  -- some children have no more pairs than all
  taken_fewer : (n : ℕ) (ts : List (Tree K V)) → length (entries_of_all (trees (take n ts))) ≤ length (entries_of_all (trees ts))
  taken_fewer zero ts = omega arith
  taken_fewer (suc n) [] = omega arith
  taken_fewer (suc n) (t ∷ ts) =
      omega (arith, taken_fewer n ts, length-append (entries t) (entries_of_all (trees (take n ts))), length-append (entries t) (entries_of_all (trees ts)))

  -- a branch has the pairs of its children
  entries_children : (t : Tree K V) (b : ℕ) → ShowsBitmap b t → entries_of_all (trees (children t)) ≡ entries t
  entries_children (branch s n bitmap ts) b shown = ap entries_of_all (trees_list ts)
  entries_children (bucket s es) b shown = absurd shown

module _ {K V : Type 0} (R : K → K → Ordering) (path : K → ℕ) (gives : K → V → Bool → Type 0) (level stamp : ℕ) where
  entries_more : (row : List (Tree K V)) (c : Tree K V) → entries_of_all (trees (row ++ c ∷ [])) ≡ entries_of_all (trees row) ++ entries c
  entries_more row c = entries_append R path row (c ∷ []) ∙ ap (λ xs. entries_of_all (trees row) ++ xs) (append-nil (entries c))

  -- 1. Rows.
  row_start : IsRow R path gives level stamp [] 0 0 []
  row_start = let none : Trees K V = no_trees in record { small = omega arith; chosen = refl; tries = subst (λ ds. AreTries R path level ds none) (sym no_digits) tt; counted = refl; some = tt; stamped = tt }

  -- nothing is left of the next child
  row_gone : (es all : List (K × V)) (b size : ℕ) (row : List (Tree K V)) → IsRow R path gives level stamp es b size row → (t : Tree K V) → AreChosen gives (entries t) [] → all ≡ es ++ entries t → IsRow R path gives level stamp all b size row
  row_gone es all b size row h t gone is = record {
    small = h.small;
    chosen = subst (λ xs. AreChosen gives xs (entries_of_all (trees row))) (sym is)
        (subst (AreChosen gives (es ++ entries t)) (append-nil (entries_of_all (trees row))) (chosen_append gives es (entries_of_all (trees row)) (entries t) [] h.chosen gone));
    tries = h.tries;
    counted = h.counted;
    some = h.some;
    stamped = h.stamped;
  }

  -- or something
  row_kept : (es all : List (K × V)) (b size : ℕ) (row : List (Tree K V)) → IsRow R path gives level stamp es b size row → (t c : Tree K V) (d size2 : ℕ) → d < fan_out → b < 2 ^ d → KeysHaveDigit R path level d (entries t) → IsLeft R path gives (level + 1) stamp t (Some c) →
      size2 ≡ size + length (entries c) → all ≡ es ++ entries t → IsRow R path gives level stamp all (bit_or b (1 * 2 ^ d % 2 ^ 32)) size2 (row ++ c ∷ [])
  row_kept es all b size row h t c d size2 below small keys left sized is = record {
    small = below_later (bit_or b (1 * 2 ^ d % 2 ^ 32)) (d + 1) fan_out (omega (arith, below)) (below_more b d below small);
    chosen = subst (λ xs. AreChosen gives xs (entries_of_all (trees (row ++ c ∷ [])))) (sym is)
        (subst (AreChosen gives (es ++ entries t)) (sym (entries_more row c)) (chosen_append gives es (entries_of_all (trees row)) (entries t) (entries c) h.chosen left.0));
    tries = subst (λ ds. AreTries R path level ds (trees (row ++ c ∷ []))) (sym (digits_more b d below small))
        (join R path level (digits_of b) (d ∷ []) row (c ∷ []) h.tries ((λ q found. keys q (found_chosen gives R q (entries t) (entries c) left.0 found)), left.1.0, tt));
    counted = omega (arith, sized, h.counted, ap length (entries_more row c), length-append (entries_of_all (trees row)) (entries c));
    some = some_more row c h.some left.1.1;
    stamped = stamps_more (is_stamp stamp) row c h.stamped left.1.2;
  }

  -- 2. The children before a place, and those from there on.
  pub record IsUnderway (t : Tree K V) (n rest b size : ℕ) (row : List (Tree K V)) : Type 0 where
    pub so_far : IsRow R path gives level stamp (entries_of_all (trees (take n (children t)))) b size row
    pub left : AreTries R path level (digits_of rest) (trees (drop n (children t)))
    pub low : ℕ
    pub small : b < 2 ^ low
    pub rising : Rising low (digits_of rest)

  pub underway_start : (t : Tree K V) (b : ℕ) → ShowsBitmap b t → IsTrie R path level t → IsUnderway t 0 b 0 0 []
  underway_start (branch s n bitmap ts) b shown trie = record {
    so_far = row_start;
    left = subst (λ x. AreTries R path level (digits_of x) (trees (list_of ts))) (sym shown) (subst (AreTries R path level (digits_of bitmap)) (sym (trees_list ts)) trie.3);
    low = 0;
    small = omega arith;
    rising = rises b;
  }
  underway_start (bucket s es) b shown trie = absurd shown

  module _ (t u : Tree K V) (n rest b size : ℕ) (row : List (Tree K V)) (h : IsUnderway t n rest b size row) (lt : n < length (children t)) (is : u ≡ get_or (children t) n u) where
    next_tries : AreTries R path level (digits_of rest) (trees (u ∷ drop (n + 1) (children t)))
    next_tries = subst (λ ts. AreTries R path level (digits_of rest) (trees ts)) (drop_more (children t) n u lt ∙ ap (λ x. x ∷ drop (n + 1) (children t)) (sym is)) h.left

    -- there is a digit for the next child
    pub rest_more : 0 < rest
    rest_more = of_rest rest next_tries
      where
        of_rest : (m : ℕ) → AreTries R path level (digits_of m) (trees (u ∷ drop (n + 1) (children t))) → 0 < m
        of_rest zero g = absurd (subst (λ ds. AreTries R path level ds (trees (u ∷ drop (n + 1) (children t)))) no_digits g)
        of_rest (suc m) g = omega arith

    taken : entries_of_all (trees (take (n + 1) (children t))) ≡ entries_of_all (trees (take n (children t))) ++ entries u
    taken = ap (λ ts. entries_of_all (trees ts)) (take_more (children t) n u lt ∙ ap (λ x. take n (children t) ++ x ∷ []) (sym is)) ∙ entries_more (take n (children t)) u

    -- the next child is a trie
    pub next_trie : IsTrie R path (level + 1) u
    next_trie = of_digits (digits_of rest) next_tries
      where
        of_digits : (ds : List ℕ) → AreTries R path level ds (trees (u ∷ drop (n + 1) (children t))) → IsTrie R path (level + 1) u
        of_digits [] g = absurd g
        of_digits (d ∷ ds) g = g.1

    -- there is room for what is left of it
    pub room : (b2 : ℕ) → ShowsBitmap b2 t → (c : Tree K V) → AreChosen gives (entries u) (entries c) → size + length (entries c) ≤ length (entries t)
    room b2 shown c chosen =
        omega (
          arith,
          h.so_far.counted,
          length_chosen gives (entries_of_all (trees (take n (children t)))) (entries_of_all (trees row)) h.so_far.chosen,
          length_chosen gives (entries u) (entries c) chosen,
          ap length taken,
          length-append (entries_of_all (trees (take n (children t)))) (entries u),
          taken_fewer (n + 1) (children t),
          ap length (entries_children t b2 shown),
        )

    module _ (d rest2 : ℕ) (below : d < fan_out) (first : digits_of rest ≡ d ∷ digits_of rest2) where
      here : AreTries R path level (d ∷ digits_of rest2) (trees (u ∷ drop (n + 1) (children t)))
      here = subst (λ ds. AreTries R path level ds (trees (u ∷ drop (n + 1) (children t)))) first next_tries

      rises_on : Rising h.low (d ∷ digits_of rest2)
      rises_on = subst (Rising h.low) first h.rising

      pub underway_gone : AreChosen gives (entries u) [] → IsUnderway t (n + 1) rest2 b size row
      underway_gone gone = record {
        so_far = row_gone (entries_of_all (trees (take n (children t)))) (entries_of_all (trees (take (n + 1) (children t)))) b size row h.so_far u gone taken;
        left = here.2;
        low = d + 1;
        small = below_later b h.low (d + 1) (omega (arith, rises_on.0)) h.small;
        rising = rises_on.1;
      }

      pub underway_kept : (c : Tree K V) → IsLeft R path gives (level + 1) stamp u (Some c) → (b2 size2 : ℕ) (row2 : List (Tree K V)) → b2 ≡ bit_or b (1 * 2 ^ d % 2 ^ 32) → size2 ≡ size + length (entries c) → row2 ≡ row ++ c ∷ [] → IsUnderway t (n + 1) rest2 b2 size2 row2
      underway_kept c left b2 size2 row2 bits sized grown =
          let small : b < 2 ^ d = below_later b h.low d rises_on.0 h.small in
          subst (λ x. IsUnderway t (n + 1) rest2 x size2 row2) (sym bits) (subst (λ x. IsUnderway t (n + 1) rest2 (bit_or b (1 * 2 ^ d % 2 ^ 32)) size2 x) (sym grown) (record {
            so_far = row_kept (entries_of_all (trees (take n (children t)))) (entries_of_all (trees (take (n + 1) (children t)))) b size row h.so_far u c d size2 below small here.0 left sized taken;
            left = here.2;
            low = d + 1;
            small = below_more b d below small;
            rising = rises_on.1;
          }))

  -- all children are done
  pub underway_done : (t : Tree K V) (n rest b size b2 : ℕ) (row : List (Tree K V)) → ShowsBitmap b2 t → length (children t) ≤ n → IsUnderway t n rest b size row → IsRow R path gives level stamp (entries t) b size row
  underway_done t n rest b size b2 row shown most h =
      subst (λ es. IsRow R path gives level stamp es b size row) (ap (λ ts. entries_of_all (trees ts)) (take_all n (children t) most) ∙ entries_children t b2 shown) h.so_far
