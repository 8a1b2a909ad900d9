-- Each move of a deque keeps its rule.
use Rattle.std.proofs.Common.{◌≡◌, ◌≢◌, ℕ, zero, suc, ◌+◌, ◌-◌, ◌<◌, ◌≤◌, List, [], ◌∷◌, ◌++◌, set, sym, refl, ap, ◌∙◌, subst, ⊎_elim, inl, inr, arith}
use Rattle.std.specs.List.{sum_by}
use Rattle.std.proofs.lemmas.List.Sums.{sum_by-cons, sum_by-append}
use mathlib.Core.Option.{some, some-ne-none}
use lib.ListN.{get_elem?}
use Rattle.crossbeam_deque.specs.Tasks.{Pushes, Takes, Pops, Finds, Forks, Merges}
use Rattle.crossbeam_deque.proofs.Lists.{at_set, at_snoc}
use Rattle.ruled_deques.specs.declared.rule.DequeView.{DequeView}
use Rattle.ruled_deques.specs.Rule.{deque_view, StandIn, IdleIsEmpty, InOrder, Balanced, Settled}

module _ {T : Type 0} where
  pub deque_view_is : (v : DequeView T) (n : ℕ) (xs ys : List T) → v.shares ≡ n → v.pushed ≡ xs → v.taken ≡ ys → v ≡ deque_view n xs ys
  deque_view_is v n xs ys p q r = λ i. deque_view (p i) (q i) (r i)

  -- the total after a change of one pass
  total_set : (f : DequeView T → ℕ) (views : List (DequeView T)) (port : ℕ) (v w : DequeView T) → get_elem? views port ≡ some v → sum_by f (set views port w) + f v ≡ sum_by f views + f w
  total_set f [] port v w e = absurd (some-ne-none v (sym e))
  total_set f (x ∷ xs) zero v w e =
      let same : x ≡ v = cc in
      omega (arith, sum_by-cons f w xs, sum_by-cons f x xs, ap f same)
  total_set f (x ∷ xs) (suc port) v w e =
      omega (arith, total_set f xs port v w e, sum_by-cons f x (set xs port w), sum_by-cons f x xs)

  -- where all parts are here, the others count nothing
  total_zero : (f : DequeView T → ℕ) (views : List (DequeView T)) → ((port : ℕ) (v : DequeView T) → get_elem? views port ≡ some v → v.shares ≡ 0 → f v ≡ 0) → sum_by (λ v. v.shares) views ≡ 0 → sum_by f views ≡ 0
  total_zero f [] idle none = refl
  total_zero f (x ∷ xs) idle none =
      let c = sum_by-cons (λ (v : DequeView T). v.shares) x xs in
      let mine : f x ≡ 0 = idle 0 x refl (omega arith) in
      let rest : sum_by f xs ≡ 0 = total_zero f xs (λ port v e. idle (suc port) v e) (omega arith) in
      omega (arith, sum_by-cons f x xs)

  pub share_le : (views : List (DequeView T)) (port : ℕ) (v : DequeView T) → get_elem? views port ≡ some v → v.shares ≤ sum_by (λ u. u.shares) views
  share_le [] port v e = absurd (some-ne-none v (sym e))
  share_le (x ∷ xs) zero v e =
      let same : x ≡ v = cc in
      let p : x.shares ≡ v.shares = ap (λ (u : DequeView T). u.shares) same in
      omega (arith, sum_by-cons (λ (u : DequeView T). u.shares) x xs)
  share_le (x ∷ xs) (suc port) v e = omega (arith, share_le xs port v e, sum_by-cons (λ (u : DequeView T). u.shares) x xs)

  total_one : (f : DequeView T → ℕ) (views : List (DequeView T)) (port : ℕ) (v : DequeView T) → ((j : ℕ) (u : DequeView T) → get_elem? views j ≡ some u → u.shares ≡ 0 → f u ≡ 0) → get_elem? views port ≡ some v → sum_by (λ u. u.shares) views ≡ v.shares → sum_by f views ≡ f v
  total_one f [] port v idle e whole = absurd (some-ne-none v (sym e))
  total_one f (x ∷ xs) zero v idle e whole =
      let same : x ≡ v = cc in
      let c = sum_by-cons (λ (u : DequeView T). u.shares) x xs in
      let p : x.shares ≡ v.shares = ap (λ (u : DequeView T). u.shares) same in
      let rest : sum_by f xs ≡ 0 = total_zero f xs (λ j u at. idle (suc j) u at) (omega arith) in
      omega (arith, sum_by-cons f x xs, ap f same)
  total_one f (x ∷ xs) (suc port) v idle e whole =
      let c = sum_by-cons (λ (u : DequeView T). u.shares) x xs in
      let b : v.shares ≤ sum_by (λ (u : DequeView T). u.shares) xs = share_le xs port v e in
      let mine : f x ≡ 0 = idle 0 x refl (omega arith) in
      let rest : sum_by f xs ≡ f v = total_one f xs port v (λ j u at. idle (suc j) u at) e (omega arith) in
      omega (arith, sum_by-cons f x xs)

  idle_set : (views : List (DequeView T)) (port : ℕ) (w : DequeView T) → (w.shares ≡ 0 → (w.pushed ≡ []) × (w.taken ≡ [])) → IdleIsEmpty views → IdleIsEmpty (set views port w)
  idle_set views port w mine idle j u e none = ⊎_elim (λ (x : (j ≡ port) × (w ≡ u)). subst (λ (y : DequeView T). y.shares ≡ 0 → (y.pushed ≡ []) × (y.taken ≡ [])) x.1 mine none)
      (λ (x : (j ≢ port) × (get_elem? views j ≡ some u)). idle j u x.1 none) (at_set views port j w u e)

  -- the pushes of the owner stay
  order_set : (items : List T) (views : List (DequeView T)) (port : ℕ) (v w : DequeView T) → get_elem? views port ≡ some v → (port ≡ 0 → StandIn items v.pushed → StandIn items w.pushed) → InOrder items views → InOrder items (set views port w)
  order_set items views port v w at keep order u e = ⊎_elim (λ (x : (0 ≡ port) × (w ≡ u)).
      let P : DequeView T → Type 0 = λ y. StandIn items y.pushed in
      subst P x.1 (keep (sym x.0) (order v (subst (λ n. get_elem? views n ≡ some v) (sym x.0) at))))
      (λ (x : (0 ≢ port) × (get_elem? views 0 ≡ some u)). order u x.1) (at_set views port 0 w u e)

  -- fewer items
  order_less : (items fewer : List T) (views : List (DequeView T)) → ((ys : List T) → StandIn items ys → StandIn fewer ys) → InOrder items views → InOrder fewer views
  order_less items fewer views less order u e = less u.pushed (order u e)

  pub stand_push : (xs ys : List T) (p : T) → StandIn xs ys → StandIn (xs ++ p ∷ []) (ys ++ p ∷ [])
  stand_push [] [] p h = inl (refl, tt)
  stand_push [] (y ∷ ys) p h = inr (stand_push [] ys p tt)
  stand_push (x ∷ xs) [] p h = absurd h
  stand_push (x ∷ xs) (y ∷ ys) p h = ⊎_elim (λ (a : (x ≡ y) × StandIn xs ys). inl (a.0, stand_push xs ys p a.1)) (λ (b : StandIn (x ∷ xs) ys). inr (stand_push (x ∷ xs) ys p b)) h

  pub stand_more : (xs ys zs : List T) → StandIn xs ys → StandIn xs (ys ++ zs)
  stand_more [] ys zs h = tt
  stand_more (x ∷ xs) [] zs h = absurd h
  stand_more (x ∷ xs) (y ∷ ys) zs h = ⊎_elim (λ (a : (x ≡ y) × StandIn xs ys). inl (a.0, stand_more xs ys zs a.1)) (λ (b : StandIn (x ∷ xs) ys). inr (stand_more (x ∷ xs) ys zs b)) h

  pub stand_tail : (x : T) (xs ys : List T) → StandIn (x ∷ xs) ys → StandIn xs ys
  stand_tail x [] ys h = tt
  stand_tail x (z ∷ xs) [] h = absurd h
  stand_tail x (z ∷ xs) (y ∷ ys) h = ⊎_elim (λ (a : (x ≡ y) × StandIn (z ∷ xs) ys). inr a.1) (λ (b : StandIn (x ∷ z ∷ xs) ys). inr (stand_tail x (z ∷ xs) ys b)) h

  pub stand_drop : (xs items ys : List T) → StandIn (xs ++ items) ys → StandIn items ys
  stand_drop [] items ys h = h
  stand_drop (x ∷ xs) items ys h = stand_drop xs items ys (stand_tail x (xs ++ items) ys h)

  pub stand_front : (xs : List T) (p : T) (ys : List T) → StandIn (xs ++ p ∷ []) ys → StandIn xs ys
  stand_front [] p ys h = tt
  stand_front (x ∷ xs) p [] h = absurd h
  stand_front (x ∷ xs) p (y ∷ ys) h = ⊎_elim (λ (a : (x ≡ y) × StandIn (xs ++ p ∷ []) ys). inl (a.0, stand_front xs p ys a.1)) (λ (b : StandIn (x ∷ (xs ++ p ∷ [])) ys). inr (stand_front (x ∷ xs) p ys b)) h

  idle_first : (port : ℕ) (v : DequeView T) → get_elem? (deque_view 17 [] [] ∷ []) port ≡ some v → v.shares ≡ 0 → (v.pushed ≡ []) × (v.taken ≡ [])
  idle_first zero v e none =
      let w : DequeView T = deque_view 17 [] [] in
      let same : w ≡ v = cc in
      let p : 17 ≡ v.shares = ap (λ (u : DequeView T). u.shares) same in
      absurd (omega arith)
  idle_first (suc port) v e none = absurd (some-ne-none v (sym e))

  pub begins : Balanced {T = T} [] (deque_view 17 [] [] ∷ [])
  begins = (refl, (λ h. refl), idle_first, λ v e. tt)

  pub pushes : (port : ℕ) (v : DequeView T) (x : T) → port ≡ 0 → 0 < v.shares → Pushes Balanced port v (x ∷ []) (λ w. w ≡ deque_view v.shares (v.pushed ++ x ∷ []) v.taken)
  pushes port v x first some_share items views b at =
      let w : DequeView T = deque_view v.shares (v.pushed ++ x ∷ []) v.taken in (
        w,
        (
          (let s = total_set (λ u. u.shares) views port v w at in let p = b.0 in omega arith),
          (λ h.
              let s = total_set (λ u. sum_by h u.pushed) views port v w at in
              let t = total_set (λ u. sum_by h u.taken) views port v w at in
              let p = b.1 h in
              omega (arith, sum_by-append h v.pushed (x ∷ []), sum_by-append h items (x ∷ []))),
          idle_set views port w (λ none. absurd (omega arith)) b.2,
          λ u e. ⊎_elim (λ (y : (0 ≡ port) × (w ≡ u)).
              let P : DequeView T → Type 0 = λ z. StandIn (items ++ x ∷ []) z.pushed in
              subst P y.1 (stand_push items v.pushed x (b.3 v (subst (λ n. get_elem? views n ≡ some v) first at))))
              (λ (y : (0 ≢ port) × (get_elem? views 0 ≡ some u)). absurd (y.0 (sym first))) (at_set views port 0 w u e),
        ),
        refl,
      )

  pub takes : (port : ℕ) (v : DequeView T) → 0 < v.shares → Takes Balanced port v 1 (λ xs w. w ≡ deque_view v.shares v.pushed (v.taken ++ xs))
  takes port v some_share xs items views _ _ b at =
      let w : DequeView T = deque_view v.shares v.pushed (v.taken ++ xs) in (
        w,
        (
          (let s = total_set (λ u. u.shares) views port v w at in let p = b.0 in omega arith),
          (λ h.
              let s = total_set (λ u. sum_by h u.pushed) views port v w at in
              let t = total_set (λ u. sum_by h u.taken) views port v w at in
              let p = b.1 h in
              omega (arith, sum_by-append h v.taken xs, sum_by-append h xs items)),
          idle_set views port w (λ none. absurd (omega arith)) b.2,
          order_set items views port v w at (λ _ s. s) (order_less (xs ++ items) items views (λ ys s. stand_drop xs items ys s) b.3),
        ),
        refl,
      )

  pub pops : (port : ℕ) (v : DequeView T) → 0 < v.shares → Pops Balanced port v (λ xs w. w ≡ deque_view v.shares v.pushed (v.taken ++ xs))
  pops port v some_share x items views b at =
      let w : DequeView T = deque_view v.shares v.pushed (v.taken ++ x ∷ []) in (
        w,
        (
          (let s = total_set (λ u. u.shares) views port v w at in let p = b.0 in omega arith),
          (λ h.
              let s = total_set (λ u. sum_by h u.pushed) views port v w at in
              let t = total_set (λ u. sum_by h u.taken) views port v w at in
              let p = b.1 h in
              omega (arith, sum_by-append h v.taken (x ∷ []), sum_by-append h items (x ∷ []))),
          idle_set views port w (λ none. absurd (omega arith)) b.2,
          order_set items views port v w at (λ _ s. s) (order_less (items ++ x ∷ []) items views (λ ys s. stand_front items x ys s) b.3),
        ),
        refl,
      )

  pub finds : (port : ℕ) (v : DequeView T) → Finds Balanced port v (Settled v)
  finds port v views b at =
      let p = b.0 in
      let le = share_le views port v at in (
        omega arith,
        λ whole h.
            let i = total_one (λ u. sum_by h u.pushed) views port v (λ j u e none. ap (sum_by h) (b.2 j u e none).0) at (b.0 ∙ sym whole) in
            let o = total_one (λ u. sum_by h u.taken) views port v (λ j u e none. ap (sum_by h) (b.2 j u e none).1) at (b.0 ∙ sym whole) in
            let e = b.1 h in
            omega arith,
      )

  first_snoc : (l : List (DequeView T)) (r u v : DequeView T) → get_elem? l 0 ≡ some v → get_elem? (l ++ r ∷ []) 0 ≡ some u → get_elem? l 0 ≡ some u
  first_snoc [] r u v at e = absurd (some-ne-none v (sym at))
  first_snoc (x ∷ xs) r u v at e = e

  first_set0 : (views : List (DequeView T)) (v w : DequeView T) → get_elem? views 0 ≡ some v → get_elem? (set views 0 w) 0 ≡ some w
  first_set0 [] v w at = absurd (some-ne-none v (sym at))
  first_set0 (x ∷ xs) v w at = refl

  first_set : (views : List (DequeView T)) (v w : DequeView T) (port : ℕ) → port ≡ 0 → get_elem? views 0 ≡ some v → get_elem? (set views port w) 0 ≡ some w
  first_set views v w port first at = subst (λ n. get_elem? (set views n w) 0 ≡ some w) (sym first) (first_set0 views v w at)

  pub forks : (port : ℕ) (v : DequeView T) → port ≡ 0 → 1 < v.shares → Forks Balanced port v (deque_view (v.shares - 1) v.pushed v.taken) (deque_view 1 [] [])
  forks port v first some_share items views b at =
      let w : DequeView T = deque_view (v.shares - 1) v.pushed v.taken in
      let r : DequeView T = deque_view 1 [] [] in
      let l : List (DequeView T) = set views port w in
      let at' : get_elem? views 0 ≡ some v = subst (λ n. get_elem? views n ≡ some v) first at in
      let old : InOrder items l = order_set items views port v w at (λ _ s. s) b.3 in (
        (let s = total_set (λ u. u.shares) views port v w at in let p = b.0 in omega (arith, sum_by-append (λ (u : DequeView T). u.shares) l (r ∷ []))),
        (λ h.
            let s = total_set (λ u. sum_by h u.pushed) views port v w at in
            let t = total_set (λ u. sum_by h u.taken) views port v w at in
            let p = b.1 h in
            omega (arith, sum_by-append (λ (u : DequeView T). sum_by h u.pushed) l (r ∷ []), sum_by-append (λ (u : DequeView T). sum_by h u.taken) l (r ∷ []))),
        (λ j u e none. ⊎_elim (λ x. idle_set views port w (λ no. absurd (omega arith)) b.2 j u x none) (λ (is : r ≡ u). let P : DequeView T → Type 0 = λ y. y.shares ≡ 1 in let one = subst P is refl in absurd (omega (arith, one))) (at_snoc l r u j e)),
        λ u e. old u (first_snoc l r u w (first_set views v w port first at') e),
      )

  pub merges : (port : ℕ) (v : DequeView T) (other : ℕ) (u : DequeView T) → port ≡ 0 → 0 < v.shares → Merges Balanced port v other u (deque_view (v.shares + u.shares) (v.pushed ++ u.pushed) (v.taken ++ u.taken)) (deque_view 0 [] [])
  merges port v other u first some_share items views b at two at' =
      let both : DequeView T = deque_view (v.shares + u.shares) (v.pushed ++ u.pushed) (v.taken ++ u.taken) in
      let none : DequeView T = deque_view 0 [] [] in
      let l : List (DequeView T) = set views port both in (
        (let s = total_set (λ y. y.shares) views port v both at in let t = total_set (λ y. y.shares) l other u none at' in let p = b.0 in omega arith),
        (λ h.
            let s = total_set (λ y. sum_by h y.pushed) views port v both at in
            let s' = total_set (λ y. sum_by h y.pushed) l other u none at' in
            let t = total_set (λ y. sum_by h y.taken) views port v both at in
            let t' = total_set (λ y. sum_by h y.taken) l other u none at' in
            let p = b.1 h in
            omega (arith, sum_by-append h v.pushed u.pushed, sum_by-append h v.taken u.taken)),
        idle_set l other none (λ _. (refl, refl)) (idle_set views port both (λ no. absurd (omega arith)) b.2),
        order_set items l other u none at' (λ zero_too. absurd (two (zero_too ∙ sym first))) (order_set items views port v both at (λ _ s. stand_more items v.pushed u.pushed s) b.3),
      )
