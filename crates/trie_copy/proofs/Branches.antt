-- What a write below one child does to a branch.
use Rattle.std.proofs.Common.{◌≡◌, ℕ, ◌+◌, ◌-◌, ◌*◌, ◌<◌, ◌≤◌, Bool, true, false, cond, ◌==◌, ◌%◌, ◌^◌, List, [], ◌∷◌, ◌++◌, length, Option, Some, None, is_some, refl, sym, ap, ◌∙◌, subst, arith, length-append, get_or, set, nat_eq}
use mathlib.Core.Bool.{false≢true}
use Rattle.std.specs.Bool.{MatchBool}
use Rattle.std.specs.List.{Contains, insert, remove, starts_with}
use Rattle.std.proofs.lemmas.List.Elements.{All-cons, All-nil}
use Rattle.std.specs.declared.cmp.Ordering.{Ordering}
use Rattle.std.specs.declared.cmp.Ordering.TheVariants.{Equal}
use Rattle.std.specs.Ordering.{eq_by_cmp}
use Rattle.std.specs.Cmp.{IsTotalOrder}
use Rattle.std.specs.FinMap.{find}
use Rattle.std.specs.Int.{bit_at, bit_not, w32}
use Rattle.std.specs.Int.RustNames.{count_ones, bit_and, bit_or}
use Rattle.std.proofs.lemmas.Bool.{and_from, eq-eqb}
use Rattle.std.proofs.lemmas.Nat.{or_lt, and_le_l}
use Rattle.std.proofs.lemmas.Nat.Bits.{bit_at_set_same, bit_at_set_other, bit_at_clear_same}
use Rattle.std.proofs.lemmas.List.{get_or_at, set_at}
use Rattle.std.proofs.lemmas.List.Edits.{insert-append_right, remove-append_right}
use Rattle.hash_path.specs.Digits.{word_digits, last_level, digit, fan_out}
use Rattle.trie_shape.specs.Tree.{Tree, branch, bucket, trees, entries, entries_of_all, KeysHaveDigit, IsTrie, AreTries, digits_of, HasTwoWords}
use Rattle.trie_shape.specs.Shape.{Nodes, Lacks, nodes_below, nodes_of_all, IsRestamped, Restamps}
use Rattle.trie_shape.specs.Roots.{word_of}
use Rattle.trie_copy.specs.Writes.{Writes}
use Rattle.trie_shape.proofs.Bits.{bit_at_clear_others}
use Rattle.trie_shape.proofs.Tries.{or_else, or_none, join, entries_append, find_append, find_lacking, at_child, at_gap}
use Rattle.trie_copy.proofs.Restamps.{restamps_between, restamps_branch, nodes_append}
use Rattle.trie_shape.proofs.Spell.{starts_snoc}
use Rattle.trie_shape.proofs.Finds.{tied}
use Rattle.trie_shape.proofs.Passing.{passes_none_lacking, begins_itself}

-- what is given instead of the middle of three answers, where the others have none
among : {A : Type 0} (b : Bool) (given first middle last : Option A) → (b ≡ true → first ≡ None) → (b ≡ true → last ≡ None) →
    or_else first (or_else (cond b given middle) last) ≡ cond b given (or_else first (or_else middle last))
among true given first middle last no_first no_last = (λ i. or_else (no_first refl i) (or_else given (no_last refl i))) ∙ or_none given
among false given first middle last no_first no_last = refl

still : {A : Type 0} (b : Bool) (v : A) (o : Option A) → is_some o ≡ true → is_some (cond b (Some v) o) ≡ true
still true v o e = refl
still false v o e = e

restamps_same : (stamp : ℕ) (w : List ℕ) (olds olds2 news news2 : Nodes) → olds ≡ olds2 → news ≡ news2 → Restamps stamp w olds news → Restamps stamp w olds2 news2
restamps_same stamp w olds olds2 news news2 e f h = subst (λ ns. Restamps stamp w ns news2) e (subst (Restamps stamp w olds) f h)

-- how many pairs three lists have together
pub length-three : {X : Type 0} (xs es ys : List X) → length (xs ++ (es ++ ys)) ≡ length xs + (length es + length ys)
length-three xs es ys = length-append xs (es ++ ys) ∙ ap (λ n. length xs + n) (length-append es ys)

module _ {K V : Type 0} (R : K → K → Ordering) (path : K → ℕ) where
  -- a branch that is a trie, but for its having two words
  abbrev pub IsNearlyTrie : ℕ → Tree K V → Type 0
  IsNearlyTrie level (branch stamp size bitmap ts) = (level ≤ last_level) × (bitmap < 2 ^ fan_out) × (size ≡ length (entries_of_all ts)) × AreTries R path level (digits_of bitmap) ts
  IsNearlyTrie level (bucket stamp es) = ⊥

  trie_of_two : (level : ℕ) (t : Tree K V) → IsNearlyTrie level t → (0 < level → HasTwoWords R path (entries t)) → IsTrie R path level t
  trie_of_two level (branch stamp size bitmap ts) h two = (h.0, h.1, h.2, h.3, two)
  trie_of_two level (bucket stamp es) h two = absurd h

-- what a write does to a branch whose pairs may have become those of one word
pub record Changes {K V : Type 0} (R : K → K → Ordering) (path : K → ℕ) (level stamp : ℕ) (k : K) (given : Option V) (old new : Tree K V) : Type 0 where
  pub near : IsNearlyTrie R path level new
  pub finds : (q : K) → find R q (entries new) ≡ cond (eq_by_cmp R q k) given (find R q (entries old))
  pub least : length (entries old) ≤ length (entries new) + 1
  pub most : length (entries new) ≤ length (entries old) + 1
  pub stamps : (p : List ℕ) → length p ≡ level → starts_with nat_eq (word_of path k) p ≡ true → Restamps stamp (word_of path k) (nodes_below (word_of path) p old) (nodes_below (word_of path) p new)

module _ {K V : Type 0} (R : K → K → Ordering) (path : K → ℕ) (total : IsTotalOrder R) (exact : (x y : K) → R x y ≡ Equal → x ≡ y) (level stamp : ℕ) (k : K) (given : Option V) where
  -- what is found after the write
  abbrev pub FindsGiven : List (K × V) → List (K × V) → Type 0
  FindsGiven old new = (q : K) → find R q new ≡ cond (eq_by_cmp R q k) given (find R q old)

  -- a write of a key with the digit leaves only keys with the digit
  pub digit_kept : (d : ℕ) (old new : List (K × V)) → digit (path k) level ≡ d → FindsGiven old new → KeysHaveDigit R path level d old → KeysHaveDigit R path level d new
  digit_kept d old new here finds h q found = of_tie (eq_by_cmp R q k) refl
    where
      of_tie : (b : Bool) → eq_by_cmp R q k ≡ b → digit (path q) level ≡ d
      of_tie true e = ap (λ x. digit (path x) level) (exact q k (tied (R q k) e)) ∙ here
      of_tie false e = h q (sym (ap (λ b. is_some (cond b given (find R q old))) e) ∙ sym (ap is_some (finds q)) ∙ found)

  module _ (d : ℕ) (here : digit (path k) level ≡ d) (bs as_ : List ℕ) (lacks_before : Lacks d bs) (lacks_after : Lacks d as_) (xs ys : List (Tree K V)) (long : length xs ≡ length bs)
      (xs_ok : AreTries R path level bs (trees xs)) (ys_ok : AreTries R path level as_ (trees ys)) where
    -- what is found where the pairs of one child change
    pub find_changed : (old new : List (K × V)) → FindsGiven old new →
        FindsGiven (entries_of_all (trees xs) ++ (old ++ entries_of_all (trees ys))) (entries_of_all (trees xs) ++ (new ++ entries_of_all (trees ys)))
    find_changed old new finds q =
        let before = find R q (entries_of_all (trees xs)) in
        let after = find R q (entries_of_all (trees ys)) in
        let split : (es : List (K × V)) → find R q (entries_of_all (trees xs) ++ (es ++ entries_of_all (trees ys))) ≡ or_else before (or_else (find R q es) after) =
        λ es. find_append R path q (entries_of_all (trees xs)) (es ++ entries_of_all (trees ys)) ∙ ap (or_else before) (find_append R path q es (entries_of_all (trees ys))) in
        let same : eq_by_cmp R q k ≡ true → digit (path q) level ≡ d = λ e. ap (λ x. digit (path x) level) (exact q k (tied (R q k) e)) ∙ here in
        split new
        ∙ ap (λ o. or_else before (or_else o after)) (finds q)
        ∙ among (eq_by_cmp R q k) given before (find R q old) after
        (λ e. find_lacking R path exact level q bs xs (subst (λ x. Lacks x bs) (sym (same e)) lacks_before) xs_ok)
        (λ e. find_lacking R path exact level q as_ ys (subst (λ x. Lacks x as_) (sym (same e)) lacks_after) ys_ok)
        ∙ ap (cond (eq_by_cmp R q k) given) (sym (split old))

    -- which stamps there are where the nodes of one child change
    pub stamps_changed : level < word_digits → (before : ℕ) (p : List ℕ) → length p ≡ level → starts_with nat_eq (word_of path k) p ≡ true → (old new : Nodes) → Restamps stamp (word_of path k) old new →
        Restamps stamp (word_of path k) ((p, before) ∷ (nodes_of_all (word_of path) p bs (trees xs) ++ (old ++ nodes_of_all (word_of path) p as_ (trees ys)))) ((p, stamp) ∷ (nodes_of_all (word_of path) p bs (trees xs) ++ (new ++ nodes_of_all (word_of path) p as_ (trees ys))))
    stamps_changed lt before p deep on old new h =
        let front = nodes_of_all (word_of path) p bs (trees xs) in
        let back = nodes_of_all (word_of path) p as_ (trees ys) in
        restamps_branch stamp before (word_of path k) p (front ++ (old ++ back)) (front ++ (new ++ back)) on
        (restamps_between stamp (word_of path k) front back old new
        (passes_none_lacking R path total exact (path k) level lt p deep bs xs (subst (λ x. Lacks x bs) (sym here) lacks_before) xs_ok)
        (passes_none_lacking R path total exact (path k) level lt p deep as_ ys (subst (λ x. Lacks x as_) (sym here) lacks_after) ys_ok)
        h)

    -- a branch where the pairs and the nodes of one child change as the write says
    changes_between : level < word_digits → (before : ℕ) (old new : Tree K V) (es fs : List (K × V)) (ms ns : List ℕ → Nodes) →
        entries old ≡ entries_of_all (trees xs) ++ (es ++ entries_of_all (trees ys)) → entries new ≡ entries_of_all (trees xs) ++ (fs ++ entries_of_all (trees ys)) →
        ((p : List ℕ) → nodes_below (word_of path) p old ≡ (p, before) ∷ (nodes_of_all (word_of path) p bs (trees xs) ++ (ms p ++ nodes_of_all (word_of path) p as_ (trees ys)))) →
        ((p : List ℕ) → nodes_below (word_of path) p new ≡ (p, stamp) ∷ (nodes_of_all (word_of path) p bs (trees xs) ++ (ns p ++ nodes_of_all (word_of path) p as_ (trees ys)))) →
        FindsGiven es fs → length es ≤ length fs + 1 → length fs ≤ length es + 1 →
        ((p : List ℕ) → length p ≡ level → starts_with nat_eq (word_of path k) p ≡ true → Restamps stamp (word_of path k) (ms p) (ns p)) →
        IsNearlyTrie R path level new → Changes R path level stamp k given old new
    changes_between lt before old new es fs ms ns old_entries new_entries old_nodes new_nodes finds least most stamps near =
        let first = entries_of_all (trees xs) in
        let last = entries_of_all (trees ys) in
        let found : FindsGiven (entries old) (entries new) = λ q. ap (find R q) new_entries ∙ find_changed es fs finds q ∙ ap (λ ps. cond (eq_by_cmp R q k) given (find R q ps)) (sym old_entries) in
        let long_old : length (entries old) ≡ length first + (length es + length last) = ap length old_entries ∙ length-three first es last in
        let long_new : length (entries new) ≡ length first + (length fs + length last) = ap length new_entries ∙ length-three first fs last in
        record {
          near = near;
          finds = found;
          least = omega (arith, long_old, long_new, least);
          most = omega (arith, long_old, long_new, most);
          stamps = λ p deep on. restamps_same stamp (word_of path k) _ _ _ _ (sym (old_nodes p)) (sym (new_nodes p)) (stamps_changed lt before p deep on (ms p) (ns p) (stamps p deep on));
        }

  -- the digits that lead to a child of the key's digit lead to the key
  leads_on : (p : List ℕ) → level < word_digits → length p ≡ level → starts_with nat_eq (word_of path k) p ≡ true → (d : ℕ) → digit (path k) level ≡ d → starts_with nat_eq (word_of path k) (p ++ d ∷ []) ≡ true
  leads_on p lt deep on d here = starts_snoc (path k) p d (omega arith) ∙ and_from _ _ on (eq-eqb d (digit (path k) (length p)) (sym (ap (digit (path k)) deep ∙ here)))

  -- what a write does to the nodes of the child
  below_child : (d : ℕ) → digit (path k) level ≡ d → level < word_digits → (t u : Tree K V) → Writes R path (level + 1) stamp k given t u →
      (p : List ℕ) → length p ≡ level → starts_with nat_eq (word_of path k) p ≡ true → Restamps stamp (word_of path k) (nodes_below (word_of path) (p ++ d ∷ []) t) (nodes_below (word_of path) (p ++ d ∷ []) u)
  below_child d here lt t u writes p deep on = writes.stamps (p ++ d ∷ []) (length-append p (d ∷ []) ∙ omega (arith, deep)) (leads_on p lt deep on d here)

  -- the pairs and nodes of a branch whose children are known
  branch_entries : (t : Tree K V) (xs ys : List (Tree K V)) (u : Tree K V) (stamp0 size bitmap : ℕ) → t ≡ branch stamp0 size bitmap (trees (xs ++ u ∷ ys)) → entries t ≡ entries_of_all (trees xs) ++ (entries u ++ entries_of_all (trees ys))
  branch_entries t xs ys u stamp0 size bitmap is = ap entries is ∙ entries_append R path xs (u ∷ ys)

  branch_nodes : (t : Tree K V) (xs ys : List (Tree K V)) (u : Tree K V) (stamp0 size bitmap d : ℕ) (bs ds : List ℕ) → t ≡ branch stamp0 size bitmap (trees (xs ++ u ∷ ys)) → digits_of bitmap ≡ bs ++ d ∷ ds → length xs ≡ length bs →
      (p : List ℕ) → nodes_below (word_of path) p t ≡ (p, stamp0) ∷ (nodes_of_all (word_of path) p bs (trees xs) ++ (nodes_below (word_of path) (p ++ d ∷ []) u ++ nodes_of_all (word_of path) p ds (trees ys)))
  branch_nodes t xs ys u stamp0 size bitmap d bs ds is digits long p =
      ap (nodes_below (word_of path) p) is ∙ ap (λ xs0. (p, stamp0) ∷ nodes_of_all (word_of path) p xs0 (trees (xs ++ u ∷ ys))) digits ∙ ap (λ ns. (p, stamp0) ∷ ns) (nodes_append (word_of path) p bs (d ∷ ds) xs (u ∷ ys) long)

  -- the same where one child is left out
  gap_entries : (t : Tree K V) (xs ys : List (Tree K V)) (stamp0 size bitmap : ℕ) → t ≡ branch stamp0 size bitmap (trees (xs ++ ys)) → entries t ≡ entries_of_all (trees xs) ++ ([] ++ entries_of_all (trees ys))
  gap_entries t xs ys stamp0 size bitmap is = ap entries is ∙ entries_append R path xs ys

  gap_nodes : (t : Tree K V) (xs ys : List (Tree K V)) (stamp0 size bitmap : ℕ) (bs ds : List ℕ) → t ≡ branch stamp0 size bitmap (trees (xs ++ ys)) → digits_of bitmap ≡ bs ++ ds → length xs ≡ length bs →
      (p : List ℕ) → nodes_below (word_of path) p t ≡ (p, stamp0) ∷ (nodes_of_all (word_of path) p bs (trees xs) ++ ([] ++ nodes_of_all (word_of path) p ds (trees ys)))
  gap_nodes t xs ys stamp0 size bitmap bs ds is digits long p =
      ap (nodes_below (word_of path) p) is ∙ ap (λ xs0. (p, stamp0) ∷ nodes_of_all (word_of path) p xs0 (trees (xs ++ ys))) digits ∙ ap (λ ns. (p, stamp0) ∷ ns) (nodes_append (word_of path) p bs ds xs ys long)

  near_of_trie : (before size bitmap : ℕ) (ts : List (Tree K V)) (old : Tree K V) → old ≡ branch before size bitmap (trees ts) → IsTrie R path level old → IsNearlyTrie R path level old
  near_of_trie before size bitmap ts old is trie =
      let ok = subst (IsTrie R path level) is trie in
      subst (IsNearlyTrie R path level) (sym is) (ok.0, ok.1, ok.2, ok.3)

  -- the child of the key's digit is replaced by the one with the write
  pub nearly_replaced : (d : ℕ) → digit (path k) level ≡ d → d < fan_out → (before size bitmap : ℕ) (ts : List (Tree K V)) (old : Tree K V) → old ≡ branch before size bitmap (trees ts) → IsNearlyTrie R path level old →
      (bit_at bitmap d == 1) ≡ true → (t u : Tree K V) → t ≡ get_or ts (count_ones (bitmap % 2 ^ d)) t → Writes R path (level + 1) stamp k given t u →
      (size2 : ℕ) (new : Tree K V) → size2 + length (entries t) ≡ size + length (entries u) → new ≡ branch stamp size2 bitmap (trees (set ts (count_ones (bitmap % 2 ^ d)) u)) → Changes R path level stamp k given old new
  nearly_replaced d here below before size bitmap ts old is trie has t u at writes size2 new sized made =
      let ok = subst (IsNearlyTrie R path level) is trie in
      let c = at_child R path level bitmap d below ts ok.3 has in
      let a = c.around in
      let i = count_ones (bitmap % 2 ^ d) in
      let same : t ≡ c.child = at ∙ ap (λ xs. get_or xs i t) c.whole ∙ get_or_at c.front c.child c.back t i (c.long ∙ a.place) in
      let w = subst (λ x. Writes R path (level + 1) stamp k given x u) same writes in
      let now : set ts i u ≡ c.front ++ u ∷ c.back = ap (λ xs. set xs i u) c.whole ∙ set_at c.front c.child c.back u i (c.long ∙ a.place) in
      let old_is : old ≡ branch before size bitmap (trees (c.front ++ c.child ∷ c.back)) = is ∙ ap (λ xs. branch before size bitmap (trees xs)) c.whole in
      let new_is : new ≡ branch stamp size2 bitmap (trees (c.front ++ u ∷ c.back)) = made ∙ ap (λ xs. branch stamp size2 bitmap (trees xs)) now in
      let old_entries = branch_entries old c.front c.back c.child before size bitmap old_is in
      let new_entries = branch_entries new c.front c.back u stamp size2 bitmap new_is in
      let lt : level < word_digits = omega (arith, ok.0) in
      let counted : size2 ≡ length (entries new) = omega (
        arith,
        sized,
        ap (λ x. length (entries x)) same,
        ok.2,
        ap (λ x. length (entries x)) is,
        ap length old_entries,
        length-three (entries_of_all (trees c.front)) (entries c.child) (entries_of_all (trees c.back)),
        ap length new_entries,
        length-three (entries_of_all (trees c.front)) (entries u) (entries_of_all (trees c.back)),
      ) in
      changes_between d here a.before a.after a.lacks_before a.lacks_after c.front c.back c.long c.front_ok c.back_ok lt before old new (entries c.child) (entries u)
      (λ p. nodes_below (word_of path) (p ++ d ∷ []) c.child) (λ p. nodes_below (word_of path) (p ++ d ∷ []) u) old_entries new_entries
      (branch_nodes old c.front c.back c.child before size bitmap d a.before a.after old_is c.digits c.long) (branch_nodes new c.front c.back u stamp size2 bitmap d a.before a.after new_is c.digits c.long)
      w.finds w.least w.most (below_child d here lt c.child u w)
      (subst (IsNearlyTrie R path level) (sym new_is) (
        ok.0,
        ok.1,
        counted ∙ ap (λ x. length (entries x)) new_is,
        subst (λ ds. AreTries R path level ds (trees (c.front ++ u ∷ c.back))) (sym c.digits) (join R path level a.before (d ∷ a.after) c.front (u ∷ c.back) c.front_ok (digit_kept d (entries c.child) (entries u) here w.finds c.keys, w.trie, c.back_ok)),
      ))

  pub changes_replaced : (d : ℕ) → digit (path k) level ≡ d → d < fan_out → (before size bitmap : ℕ) (ts : List (Tree K V)) (old : Tree K V) → old ≡ branch before size bitmap (trees ts) → IsTrie R path level old →
      (bit_at bitmap d == 1) ≡ true → (t u : Tree K V) → t ≡ get_or ts (count_ones (bitmap % 2 ^ d)) t → Writes R path (level + 1) stamp k given t u →
      (size2 : ℕ) (new : Tree K V) → size2 + length (entries t) ≡ size + length (entries u) → new ≡ branch stamp size2 bitmap (trees (set ts (count_ones (bitmap % 2 ^ d)) u)) → Changes R path level stamp k given old new
  changes_replaced d here below before size bitmap ts old is trie has t u at writes size2 new sized made =
      nearly_replaced d here below before size bitmap ts old is (near_of_trie before size bitmap ts old is trie) has t u at writes size2 new sized made

  -- a child of the key's digit is added where there was none
  pub nearly_added : (d : ℕ) → digit (path k) level ≡ d → d < fan_out → (before size bitmap : ℕ) (ts : List (Tree K V)) (old : Tree K V) → old ≡ branch before size bitmap (trees ts) → IsNearlyTrie R path level old →
      (bit_at bitmap d == 1) ≡ false → (stamp0 : ℕ) (u : Tree K V) → Writes R path (level + 1) stamp k given (bucket stamp0 []) u →
      (size2 : ℕ) (new : Tree K V) → size2 ≡ size + length (entries u) → new ≡ branch stamp size2 (bit_or bitmap (1 * 2 ^ d % 2 ^ 32)) (trees (insert ts (count_ones (bitmap % 2 ^ d)) u)) → Changes R path level stamp k given old new
  nearly_added d here below before size bitmap ts old is trie lacks stamp0 u w size2 new sized made =
      let ok = subst (IsNearlyTrie R path level) is trie in
      let g = at_gap R path level bitmap d below ts ok.3 lacks in
      let a = g.around in
      let c = g.parts in
      let i = count_ones (bitmap % 2 ^ d) in
      let wider = bit_or bitmap (1 * 2 ^ d % 2 ^ 32) in
      let digits : digits_of wider ≡ a.before ++ d ∷ a.after =
      a.changed wider (bit_at_set_other w32 bitmap d below) ∙ ap (λ n. a.before ++ cond (n == 1) (d ∷ a.after) a.after) (bit_at_set_same w32 bitmap d below) in
      let now : insert ts i u ≡ c.front ++ u ∷ c.back = ap (λ xs. insert xs i u) c.whole ∙ insert-append_right c.front c.back i i u (c.long ∙ a.place) (omega arith) ∙ ap (λ n. c.front ++ insert c.back n u) {x = i - i} {y = 0} (omega arith) in
      let old_is : old ≡ branch before size bitmap (trees (c.front ++ c.back)) = is ∙ ap (λ xs. branch before size bitmap (trees xs)) c.whole in
      let new_is : new ≡ branch stamp size2 wider (trees (c.front ++ u ∷ c.back)) = made ∙ ap (λ xs. branch stamp size2 wider (trees xs)) now in
      let old_entries = gap_entries old c.front c.back before size bitmap old_is in
      let new_entries = branch_entries new c.front c.back u stamp size2 wider new_is in
      let lt : level < word_digits = omega (arith, ok.0) in
      let counted : size2 ≡ length (entries new) = omega (
        arith,
        sized,
        ok.2,
        ap (λ x. length (entries x)) is,
        ap length old_entries,
        length-three (entries_of_all (trees c.front)) [] (entries_of_all (trees c.back)),
        ap length new_entries,
        length-three (entries_of_all (trees c.front)) (entries u) (entries_of_all (trees c.back)),
      ) in
      changes_between d here a.before a.after a.lacks_before a.lacks_after c.front c.back c.long c.front_ok c.back_ok lt before old new [] (entries u)
      (λ p. []) (λ p. nodes_below (word_of path) (p ++ d ∷ []) u) old_entries new_entries
      (gap_nodes old c.front c.back before size bitmap a.before a.after old_is g.digits c.long) (branch_nodes new c.front c.back u stamp size2 wider d a.before a.after new_is digits c.long)
      w.finds w.least w.most (below_child d here lt (bucket stamp0 []) u w)
      (subst (IsNearlyTrie R path level) (sym new_is) (
        ok.0,
        or_lt fan_out bitmap (1 * 2 ^ d % 2 ^ 32) ok.1 (omega arith),
        counted ∙ ap (λ x. length (entries x)) new_is,
        subst (λ ds. AreTries R path level ds (trees (c.front ++ u ∷ c.back))) (sym digits) (join R path level a.before (d ∷ a.after) c.front (u ∷ c.back) c.front_ok (digit_kept d [] (entries u) here w.finds (λ q never. absurd (false≢true never)), w.trie, c.back_ok)),
      ))

  pub changes_added : (d : ℕ) → digit (path k) level ≡ d → d < fan_out → (before size bitmap : ℕ) (ts : List (Tree K V)) (old : Tree K V) → old ≡ branch before size bitmap (trees ts) → IsTrie R path level old →
      (bit_at bitmap d == 1) ≡ false → (stamp0 : ℕ) (u : Tree K V) → Writes R path (level + 1) stamp k given (bucket stamp0 []) u →
      (size2 : ℕ) (new : Tree K V) → size2 ≡ size + length (entries u) → new ≡ branch stamp size2 (bit_or bitmap (1 * 2 ^ d % 2 ^ 32)) (trees (insert ts (count_ones (bitmap % 2 ^ d)) u)) → Changes R path level stamp k given old new
  changes_added d here below before size bitmap ts old is trie lacks stamp0 u w size2 new sized made =
      nearly_added d here below before size bitmap ts old is (near_of_trie before size bitmap ts old is trie) lacks stamp0 u w size2 new sized made

  -- the child of the key's digit, which had no other key, is left out
  pub changes_dropped : (d : ℕ) → digit (path k) level ≡ d → d < fan_out → (before size bitmap : ℕ) (ts : List (Tree K V)) (old : Tree K V) → old ≡ branch before size bitmap (trees ts) → IsTrie R path level old →
      (bit_at bitmap d == 1) ≡ true → (t : Tree K V) → t ≡ get_or ts (count_ones (bitmap % 2 ^ d)) t → FindsGiven (entries t) [] → length (entries t) ≡ 1 →
      (size2 : ℕ) (new : Tree K V) → size2 + 1 ≡ size → new ≡ branch stamp size2 (bit_and bitmap (bit_not w32 (1 * 2 ^ d % 2 ^ 32))) (trees (remove ts (count_ones (bitmap % 2 ^ d)))) → Changes R path level stamp k given old new
  changes_dropped d here below before size bitmap ts old is trie has t at finds one size2 new sized made =
      let ok = subst (IsTrie R path level) is trie in
      let c = at_child R path level bitmap d below ts ok.3 has in
      let a = c.around in
      let i = count_ones (bitmap % 2 ^ d) in
      let narrower = bit_and bitmap (bit_not w32 (1 * 2 ^ d % 2 ^ 32)) in
      let digits : digits_of narrower ≡ a.before ++ a.after =
      a.changed narrower (bit_at_clear_others bitmap d ok.1 below) ∙ ap (λ n. a.before ++ cond (n == 1) (d ∷ a.after) a.after) (bit_at_clear_same w32 bitmap d below) in
      let same : t ≡ c.child = at ∙ ap (λ xs. get_or xs i t) c.whole ∙ get_or_at c.front c.child c.back t i (c.long ∙ a.place) in
      let now : remove ts i ≡ c.front ++ c.back = ap (λ xs. remove xs i) c.whole ∙ remove-append_right c.front (c.child ∷ c.back) i i (c.long ∙ a.place) (omega arith) ∙ ap (λ n. c.front ++ remove (c.child ∷ c.back) n) {x = i - i} {y = 0} (omega arith) in
      let old_is : old ≡ branch before size bitmap (trees (c.front ++ c.child ∷ c.back)) = is ∙ ap (λ xs. branch before size bitmap (trees xs)) c.whole in
      let new_is : new ≡ branch stamp size2 narrower (trees (c.front ++ c.back)) = made ∙ ap (λ xs. branch stamp size2 narrower (trees xs)) now in
      let old_entries = branch_entries old c.front c.back c.child before size bitmap old_is in
      let new_entries = gap_entries new c.front c.back stamp size2 narrower new_is in
      let lt : level < word_digits = omega (arith, ok.0) in
      let alone : length (entries c.child) ≡ 1 = ap (λ x. length (entries x)) (sym same) ∙ one in
      let counted : size2 ≡ length (entries new) = omega (
        arith,
        sized,
        ok.2,
        ap (λ x. length (entries x)) is,
        alone,
        ap length old_entries,
        length-three (entries_of_all (trees c.front)) (entries c.child) (entries_of_all (trees c.back)),
        ap length new_entries,
        length-three (entries_of_all (trees c.front)) [] (entries_of_all (trees c.back)),
      ) in
      changes_between d here a.before a.after a.lacks_before a.lacks_after c.front c.back c.long c.front_ok c.back_ok lt before old new (entries c.child) []
      (λ p. nodes_below (word_of path) (p ++ d ∷ []) c.child) (λ p. []) old_entries new_entries
      (branch_nodes old c.front c.back c.child before size bitmap d a.before a.after old_is c.digits c.long) (gap_nodes new c.front c.back stamp size2 narrower a.before a.after new_is digits c.long)
      (subst (λ x. FindsGiven (entries x) []) same finds) (omega (arith, alone)) (omega arith) (λ p deep on. All-nil (IsRestamped stamp (word_of path k) (nodes_below (word_of path) (p ++ d ∷ []) c.child)))
      (subst (IsNearlyTrie R path level) (sym new_is) (
        ok.0,
        omega (arith, and_le_l bitmap (bit_not w32 (1 * 2 ^ d % 2 ^ 32)), ok.1),
        counted ∙ ap (λ x. length (entries x)) new_is,
        subst (λ ds. AreTries R path level ds (trees (c.front ++ c.back))) (sym digits) (join R path level a.before a.after c.front c.back c.front_ok c.back_ok),
      ))

  -- where keys of two words are found, or at the root, the branch is a trie
  pub writes_of_two : (old new : Tree K V) → Changes R path level stamp k given old new → (0 < level → HasTwoWords R path (entries new)) → Writes R path level stamp k given old new
  writes_of_two old new c two = record { trie = trie_of_two R path level new c.near two; finds = c.finds; least = c.least; most = c.most; stamps = c.stamps }

module _ {K V : Type 0} (R : K → K → Ordering) (path : K → ℕ) (total : IsTotalOrder R) (exact : (x y : K) → R x y ≡ Equal → x ≡ y) where
  -- a put keeps two words
  pub two_kept : (k : K) (v : V) (old new : List (K × V)) → ((q : K) → find R q new ≡ cond (eq_by_cmp R q k) (Some v) (find R q old)) → HasTwoWords R path old → HasTwoWords R path new
  two_kept k v old new finds h =
      let kept : (q : K) → is_some (find R q old) ≡ true → is_some (find R q new) ≡ true = λ q e. ap is_some (finds q) ∙ still (eq_by_cmp R q k) v (find R q old) e in
      (h.0, (h.1.0, (kept h.0 h.1.1.0, kept h.1.0 h.1.1.1, h.1.1.2)))

  -- in a branch below the root keys of two words are found
  two_words : (level before size bitmap : ℕ) (ts : List (Tree K V)) (old : Tree K V) → old ≡ branch before size bitmap (trees ts) → IsTrie R path level old → 0 < level → HasTwoWords R path (entries old)
  two_words level before size bitmap ts old is trie up = subst (λ x. HasTwoWords R path (entries x)) (sym is) ((subst (IsTrie R path level) is trie).4 up)

  -- a leaf is the trie of its pair, at each level below the root
  pub leaf_trie : (stamp level : ℕ) (k : K) (v : V) → 0 < level → IsTrie R path level (bucket stamp ((k, v) ∷ []))
  leaf_trie stamp level k v up = (up, omega arith, (path k, λ q found. of_tie q found (eq_by_cmp R q k) refl), tt)
    where
      of_tie : (q : K) → is_some (find R q ((k, v) ∷ [])) ≡ true → (b : Bool) → eq_by_cmp R q k ≡ b → path q ≡ path k
      of_tie q found true e = ap path (exact q k (tied (R q k) e))
      of_tie q found false e = absurd (false≢true (sym (ap (λ b. is_some (cond b (Some v) None)) e) ∙ found))

  -- a put where no pair was makes a leaf
  pub puts_leaf : (level stamp stamp0 : ℕ) (k : K) (v : V) → 0 < level → Writes R path level stamp k (Some v) (bucket stamp0 []) (bucket stamp ((k, v) ∷ []))
  puts_leaf level stamp stamp0 k v up = record {
    trie = leaf_trie stamp level k v up;
    finds = λ q. refl;
    least = omega arith;
    most = omega arith;
    stamps = λ p deep on. All-cons (IsRestamped stamp (word_of path k) []) (word_of path k, stamp) []
        (subst (λ b. MatchBool b (stamp ≡ stamp) (Contains {X = List ℕ × ℕ} [] (word_of path k, stamp))) (sym (begins_itself (word_of path k))) refl)
        (All-nil (IsRestamped stamp (word_of path k) []));
  }

  -- a put below the child of the key's digit
  pub puts_replaced : (level stamp : ℕ) (k : K) (v : V) (d : ℕ) → digit (path k) level ≡ d → d < fan_out → (before size bitmap : ℕ) (ts : List (Tree K V)) (old : Tree K V) → old ≡ branch before size bitmap (trees ts) → IsTrie R path level old →
      (bit_at bitmap d == 1) ≡ true → (t u : Tree K V) → t ≡ get_or ts (count_ones (bitmap % 2 ^ d)) t → Writes R path (level + 1) stamp k (Some v) t u →
      (size2 : ℕ) (new : Tree K V) → size2 + length (entries t) ≡ size + length (entries u) → new ≡ branch stamp size2 bitmap (trees (set ts (count_ones (bitmap % 2 ^ d)) u)) → Writes R path level stamp k (Some v) old new
  puts_replaced level stamp k v d here below before size bitmap ts old is trie has t u at writes size2 new sized made =
      let c = changes_replaced R path total exact level stamp k (Some v) d here below before size bitmap ts old is trie has t u at writes size2 new sized made in
      writes_of_two R path total exact level stamp k (Some v) old new c (λ up. two_kept k v (entries old) (entries new) c.finds (two_words level before size bitmap ts old is trie up))

  -- a put of a leaf where no child has the key's digit
  pub puts_added : (level stamp : ℕ) (k : K) (v : V) (d : ℕ) → digit (path k) level ≡ d → d < fan_out → (before size bitmap : ℕ) (ts : List (Tree K V)) (old : Tree K V) → old ≡ branch before size bitmap (trees ts) → IsTrie R path level old →
      (bit_at bitmap d == 1) ≡ false → (u : Tree K V) → u ≡ bucket stamp ((k, v) ∷ []) →
      (new : Tree K V) → new ≡ branch stamp (size + 1) (bit_or bitmap (1 * 2 ^ d % 2 ^ 32)) (trees (insert ts (count_ones (bitmap % 2 ^ d)) u)) → Writes R path level stamp k (Some v) old new
  puts_added level stamp k v d here below before size bitmap ts old is trie lacks u leaf new made =
      let leaf_put = subst (Writes R path (level + 1) stamp k (Some v) (bucket 0 [])) (sym leaf) (puts_leaf (level + 1) stamp 0 k v (omega arith)) in
      let c = changes_added R path total exact level stamp k (Some v) d here below before size bitmap ts old is trie lacks 0 u leaf_put (size + 1) new (omega (arith, ap (λ x. length (entries x)) leaf)) made in
      writes_of_two R path total exact level stamp k (Some v) old new c (λ up. two_kept k v (entries old) (entries new) c.finds (two_words level before size bitmap ts old is trie up))
