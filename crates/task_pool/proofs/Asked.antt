-- What workers asked a gate for.
use Rattle.std.proofs.Common.{◌≡◌, ℕ, ◌<◌, ◌^◌, List, [], ◌∷◌, ◌++◌, length, map, refl, sym, ap, subst, ◌∙◌, append_assoc, arith}
use Rattle.std.specs.Prelude.{All}
use Rattle.std.proofs.lemmas.List.{append-nil, map-append, length-map}
use Rattle.std.proofs.lemmas.List.Elements.{All-nil, All-push}
use Rattle.iter.specs.declared.interval.Interval.{Interval}
use Rattle.ruled_deques.proofs.Steps.{push_at}
use Rattle.partial_results.specs.Worked.{all_of}
use Rattle.task_pool.specs.Asked.{EachAsked, KeepsAsked}

module _ (Asked : ℕ → Interval → Type 0) where
  pub kept_at : (p q : ℕ) (x y : List Interval) → p ≡ q → KeepsAsked Asked p x y → KeepsAsked Asked q x y
  kept_at p q x y e is = λ k at small was. is k (e ∙ at) small was

  pub kept_both : (p : ℕ) (x y z : List Interval) → KeepsAsked Asked p x y → KeepsAsked Asked p y z → KeepsAsked Asked p x z
  kept_both p x y z first second = λ k at small was. second k at small (first k at small was)

  -- one interval more, for which a worker asked under its number
  pub kept_one : (p n : ℕ) (i : Interval) (x y : List Interval) → y ≡ x ++ i ∷ [] → (p < 2 ^ 32 → n ≡ p) → Asked n i → KeepsAsked Asked p x y
  kept_one p n i x y more named ask = λ k at small was.
      let number : n ≡ k = named (subst (λ j. j < 2 ^ 32) (sym at) small) ∙ at in
      subst (All (Asked k)) (sym more) (All-push (Asked k) x i was (subst (λ j. Asked j i) number ask))

  -- a worker that had worked nothing asked for all
  pub all_asked : (p i : ℕ) (x y : List Interval) → p ≡ i → i < 2 ^ 32 → x ≡ [] → KeepsAsked Asked p x y → All (Asked i) y
  all_asked p i x y at small none is = is i at small (subst (All (Asked i)) (sym none) (All-nil (Asked i)))

  -- lists of nothing
  none_of : (xs ys : List Interval) → xs ++ ys ≡ [] → (xs ≡ []) × (ys ≡ [])
  none_of [] ys e = (refl, e)
  none_of (x ∷ xs) ys e = absurd (omega (arith, ap length e))

  -- one list more
  pub asked_push : (ls ms : List (List Interval)) (l : List Interval) → ms ≡ ls ++ l ∷ [] → EachAsked Asked ls → All (Asked (length ls)) l → EachAsked Asked ms
  asked_push ls ms l e each last = push_at (λ k xs. All (Asked k) xs) ls ms l e last each

  -- and lists of nothing behind them, for those that never began
  pub asked_behind : (ls rs : List (List Interval)) → all_of rs ≡ [] → EachAsked Asked ls → EachAsked Asked (ls ++ rs)
  asked_behind ls [] none each = subst (EachAsked Asked) (sym (append-nil ls)) each
  asked_behind ls (r ∷ rs) none each =
      let n = none_of r (all_of rs) none in
      let one : EachAsked Asked (ls ++ r ∷ []) = asked_push ls (ls ++ r ∷ []) r refl each (subst (All (Asked (length ls))) (sym n.0) (All-nil (Asked (length ls)))) in
      subst (EachAsked Asked) (append_assoc ls (r ∷ []) rs) (asked_behind (ls ++ r ∷ []) rs n.1 one)

  pub none_asked : (lists : List (List Interval)) → all_of lists ≡ [] → EachAsked Asked lists
  none_asked lists none = asked_behind [] lists none (λ k d lt. absurd (omega arith))

  -- the lists of a report: those of the workers, and the caller's
  pub asked_last : {X : Type 0} (f : X → List Interval) (ls ms : List X) (l : X) (n : ℕ) → ms ≡ ls ++ l ∷ [] → length ls ≡ n → EachAsked Asked (map f ls) → All (Asked n) (f l) → EachAsked Asked (map f ms)
  asked_last f ls ms l n e len each last =
      let number : n ≡ length (map f ls) = sym len ∙ sym (length-map ls f) in
      asked_push (map f ls) (map f ms) (f l) (ap (map f) e ∙ map-append f ls (l ∷ [])) each (subst (λ k. All (Asked k) (f l)) number last)
