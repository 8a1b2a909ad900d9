-- What a walk keeps of the path that it is on, when it enters a branch and when it comes back.
use Rattle.std.proofs.Common.{◌≡◌, ℕ, suc, ◌+◌, ◌-◌, ◌≤◌, List, [], ◌∷◌, ◌++◌, length, refl, sym, ap, ◌∙◌, subst, arith, append_assoc, length-append}
use Rattle.std.proofs.lemmas.List.{append-nil}
use Rattle.std.specs.declared.cmp.Ordering.{Ordering}
use Rattle.std.proofs.lemmas.List.Sums.{sum_by-cons}
use Rattle.hash_path.specs.Digits.{last_level}
use Rattle.trie_shape.specs.Counts.{node_count}
use Rattle.trie_shape.specs.Outline.{children}
use Rattle.trie_shape.specs.Tree.{Tree, entries}
use Rattle.iter.specs.Subtries.{pairs_of_all, nodes_of_all, AllStand}
use Rattle.iter.specs.Stacks.{trees_of, IsWithin, unwalked, subtries, Descend, IsSound}
use Rattle.iter.specs.declared.children.Children.{Children}
use Rattle.iter.specs.declared.ahead.Ahead.{Ahead}
use Rattle.iter.proofs.Subtries.{pairs_append, nodes_append, none_stand}

module _ {K V : Type 0} where
  -- the branch below all others is walked first
  pub unwalked_last : {S X Y : Type 0} (cs : List (Children K V S X Y)) (c : Children K V S X Y) → unwalked (cs ++ c ∷ []) ≡ trees_of c ++ unwalked cs
  unwalked_last [] c = sym (append-nil (trees_of c))
  unwalked_last (x ∷ cs) c = ap (λ ts. ts ++ trees_of x) (unwalked_last cs c) ∙ append_assoc (trees_of c) (unwalked cs) (trees_of x)

pub empty_right : {X : Type 0} (xs ys : List X) → xs ++ ys ≡ [] → ys ≡ []
empty_right [] ys e = e
empty_right (x ∷ xs) ys e = cc

empty_front : {X : Type 0} (xs ys : List X) → xs ++ ys ≡ [] → xs ≡ []
empty_front [] ys e = refl
empty_front (x ∷ xs) ys e = cc

module _ {K V : Type 0} (R : K → K → Ordering) (path : K → ℕ) where
  descend_push : {S X Y : Type 0} (level : ℕ) (cs : List (Children K V S X Y)) (c : Children K V S X Y) → Descend R path level cs → IsWithin c → AllStand R path (level + length cs) (trees_of c) → Descend R path level (cs ++ c ∷ [])
  descend_push level [] c h within stand = let here : level + 0 ≡ level = omega arith in (within, subst (λ n. AllStand R path n (trees_of c)) here stand, tt)
  descend_push level (x ∷ cs) c h within stand = let next : level + suc (length cs) ≡ suc level + length cs = omega arith in
      (h.0, h.1, descend_push (suc level) cs c h.2 within (subst (λ n. AllStand R path n (trees_of c)) next stand))

  descend_front : {S X Y : Type 0} (level : ℕ) (cs : List (Children K V S X Y)) (c : Children K V S X Y) → Descend R path level (cs ++ c ∷ []) → Descend R path level cs
  descend_front level [] c h = tt
  descend_front level (x ∷ cs) c h = (h.0, h.1, descend_front (suc level) cs c h.2)

  descend_last : {S X Y : Type 0} (level : ℕ) (cs : List (Children K V S X Y)) (c : Children K V S X Y) → Descend R path level (cs ++ c ∷ []) → IsWithin c × AllStand R path (level + length cs) (trees_of c)
  descend_last level [] c h = let here : level ≡ level + 0 = omega arith in (h.0, subst (λ n. AllStand R path n (trees_of c)) here h.1)
  descend_last level (x ∷ cs) c h =
      let later = descend_last (suc level) cs c h.2 in
      let next : suc level + length cs ≡ level + suc (length cs) = omega arith in
      (later.0, subst (λ n. AllStand R path n (trees_of c)) next later.1)

  -- into a branch
  pub entered_sound : {S X Y : Type 0} (a b : Ahead K V S X Y) (kept : Children K V S X Y) → IsSound R path a → a.level ≤ last_level → IsWithin kept → AllStand R path a.level (trees_of kept)
      → b.above.items ≡ a.above.items ++ kept ∷ [] → b.above.capacity ≡ a.above.capacity → b.level ≡ a.level + 1 → IsWithin b.here → AllStand R path b.level (trees_of b.here) → IsSound R path b
  entered_sound a b kept s high within stand items capacity level below stands =
      let n : ℕ = length a.above.items in
      let long : length b.above.items ≡ n + 1 = ap length items ∙ length-append a.above.items (kept ∷ []) in
      let low : a.level - n ≡ b.level - length b.above.items = omega (arith, long, level, s.deep) in
      let here : a.level ≡ (a.level - n) + n = omega (arith, s.deep) in
      let all = descend_push (a.level - n) a.above.items kept s.above within (subst (λ k. AllStand R path k (trees_of kept)) here stand) in
      record {
        deep = omega (arith, long, level, s.deep);
        low = omega (arith, level, high);
        room = omega (arith, capacity, s.room);
        within = below;
        here = stands;
        above = subst (λ k. Descend R path k b.above.items) low (subst (Descend R path (a.level - n)) (sym items) all);
      }

  -- back to the branch above
  pub left_sound : {S X Y : Type 0} (a b : Ahead K V S X Y) → IsSound R path a → a.above.items ≡ b.above.items ++ b.here ∷ [] → b.above.capacity ≡ a.above.capacity → b.level ≡ a.level - 1 → IsSound R path b
  left_sound a b s items capacity level =
      let n : ℕ = length b.above.items in
      let long : length a.above.items ≡ n + 1 = ap length items ∙ length-append b.above.items (b.here ∷ []) in
      let low : a.level - length a.above.items ≡ b.level - n = omega (arith, long, level, s.deep) in
      let all = subst (λ k. Descend R path k (b.above.items ++ b.here ∷ [])) low (subst (Descend R path (a.level - length a.above.items)) items s.above) in
      let last = descend_last (b.level - n) b.above.items b.here all in
      let here : (b.level - n) + n ≡ b.level = omega (arith, long, level, s.deep) in
      record {
        deep = omega (arith, long, level, s.deep);
        low = omega (arith, level, s.low);
        room = omega (arith, capacity, s.room);
        within = last.0;
        here = subst (λ k. AllStand R path k (trees_of b.here)) here last.1;
        above = descend_front (b.level - n) b.above.items b.here all;
      }

  -- with fewer children of the branch that it is in
  pub stepped_sound : {S X Y : Type 0} (a b : Ahead K V S X Y) → IsSound R path a → b.above.items ≡ a.above.items → b.above.capacity ≡ a.above.capacity → b.level ≡ a.level → IsWithin b.here → AllStand R path a.level (trees_of b.here) → IsSound R path b
  stepped_sound a b s items capacity level within stand =
      let long = ap length items in
      let low : a.level - length a.above.items ≡ b.level - length b.above.items = omega (arith, long, level) in
      record {
        deep = omega (arith, long, level, s.deep);
        low = omega (arith, level, s.low);
        room = omega (arith, capacity, s.room);
        within = within;
        here = subst (λ k. AllStand R path k (trees_of b.here)) (sym level) stand;
        above = subst (λ k. Descend R path k b.above.items) low (subst (Descend R path (a.level - length a.above.items)) (sym items) s.above);
      }

  none_above : {S X Y : Type 0} (level : ℕ) (cs : List (Children K V S X Y)) → Descend R path level cs → pairs_of_all (unwalked cs) ≡ [] → unwalked cs ≡ []
  none_above level [] h e = refl
  none_above level (c ∷ cs) h e =
      let both = sym (pairs_append (unwalked cs) (trees_of c)) ∙ e in
      let first = none_above (suc level) cs h.2 (empty_front (pairs_of_all (unwalked cs)) (pairs_of_all (trees_of c)) both) in
      let last = none_stand R path level (trees_of c) h.1 (empty_right (pairs_of_all (unwalked cs)) (pairs_of_all (trees_of c)) both) in
      λ i. first i ++ last i

  -- a walk without pairs has no subtries to enter
  pub no_pairs_no_subtries : {S X Y : Type 0} (a : Ahead K V S X Y) → IsSound R path a → pairs_of_all (subtries a) ≡ [] → subtries a ≡ []
  no_pairs_no_subtries a s e =
      let both = sym (pairs_append (trees_of a.here) (unwalked a.above.items)) ∙ e in
      let here = none_stand R path a.level (trees_of a.here) s.here (empty_front (pairs_of_all (trees_of a.here)) (pairs_of_all (unwalked a.above.items)) both) in
      let above = none_above (a.level - length a.above.items) a.above.items s.above (empty_right (pairs_of_all (trees_of a.here)) (pairs_of_all (unwalked a.above.items)) both) in
      λ i. here i ++ above i

module _ {K V : Type 0} where
  -- back at the branch above, the same is still to come
  pub left_same : {S X Y : Type 0} (a b : Ahead K V S X Y) → trees_of a.here ≡ [] → a.above.items ≡ b.above.items ++ b.here ∷ [] → subtries b ≡ subtries a
  left_same a b none items = sym (unwalked_last b.above.items b.here) ∙ ap unwalked (sym items) ∙ sym (ap (λ ts. ts ++ unwalked a.above.items) none)

  -- in a branch, its children come before what comes after it
  pub entered_trees : {S X Y : Type 0} (a b : Ahead K V S X Y) (kept : Children K V S X Y) → b.above.items ≡ a.above.items ++ kept ∷ [] → subtries b ≡ trees_of b.here ++ (trees_of kept ++ unwalked a.above.items)
  entered_trees a b kept items = ap (λ ts. trees_of b.here ++ ts) (ap unwalked items ∙ unwalked_last a.above.items kept)

  -- and the pairs are the same
  pub entered_pairs : {S X Y : Type 0} (a b : Ahead K V S X Y) (kept : Children K V S X Y) (t : Tree K V) → trees_of a.here ≡ t ∷ trees_of kept → b.above.items ≡ a.above.items ++ kept ∷ [] → trees_of b.here ≡ children t → entries t ≡ pairs_of_all (children t)
      → pairs_of_all (subtries a) ≡ pairs_of_all (subtries b)
  entered_pairs a b kept t first items below pairs =
      let after : List (Tree K V) = trees_of kept ++ unwalked a.above.items in
      ap (λ ts. pairs_of_all (ts ++ unwalked a.above.items)) first
      ∙ ap (λ es. es ++ pairs_of_all after) pairs
      ∙ sym (pairs_append (children t) after)
      ∙ ap (λ ts. pairs_of_all (ts ++ after)) (sym below)
      ∙ ap pairs_of_all (sym (entered_trees a b kept items))

  -- and there is one node less to enter
  pub entered_nodes : {S X Y : Type 0} (a b : Ahead K V S X Y) (kept : Children K V S X Y) (t : Tree K V) → trees_of a.here ≡ t ∷ trees_of kept → b.above.items ≡ a.above.items ++ kept ∷ [] → trees_of b.here ≡ children t → node_count t ≡ suc (nodes_of_all (children t))
      → nodes_of_all (subtries a) ≡ suc (nodes_of_all (subtries b))
  entered_nodes a b kept t first items below nodes =
      let after : List (Tree K V) = trees_of kept ++ unwalked a.above.items in
      let old = ap (λ ts. nodes_of_all (ts ++ unwalked a.above.items)) first ∙ sum_by-cons node_count t after in
      let new = ap nodes_of_all (entered_trees a b kept items) ∙ ap (λ ts. nodes_of_all (ts ++ after)) below ∙ nodes_append (children t) after in
      omega (arith, old, new, nodes)
