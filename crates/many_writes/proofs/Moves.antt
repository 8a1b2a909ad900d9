-- Items that wait, and items that had their turn.
use Rattle.std.proofs.Common.{◌≡◌, ℕ, ◌+◌, ◌<◌, List, [], ◌∷◌, ◌++◌, length, get_or, set, OnOk, Result, Ok, Err, refl, ap, sym, ◌∙◌, subst, inl, inr, arith, append_assoc, get_or-set_same}
use Rattle.std.proofs.lemmas.List.{get_or_default, length-set}
use Rattle.std.proofs.lemmas.List.Elements.{All-head, All-tail}
use Rattle.std.proofs.lemmas.Slice.Zip.{AllZip-long}
use Rattle.many_writes.proofs.Zips.{zip_all, zip_at, zip_on, zip_self, zip_set}
use Rattle.std.specs.Prelude.{All}
use Rattle.std.specs.List.{AllZip}
use Rattle.many_writes.specs.Parts.{IsParted}
use Rattle.many_writes.specs.Turns.{Goes, IsDone, IsSound, Stands, answers_in, done_from, left_in}
use Rattle.hash_path.specs.declared.word.Path.{Path}
use Rattle.many_writes.specs.declared.turn.Turn.{Turn}
use Rattle.many_writes.specs.declared.turn.Turn.TheVariants.{Waits, Done}

module _ {T B : Type 0} (R : T → B → Type 0) where
  pub goes_self : (t : Turn T B) → Goes R t t
  goes_self (Waits p x) = (refl, refl)
  goes_self (Done b) = refl

  pub goes_on : (t u v : Turn T B) → Goes R t u → Goes R u v → Goes R t v
  goes_on (Waits p x) (Waits q y) (Waits r z) a b = (b.0 ∙ a.0, b.1 ∙ a.1)
  goes_on (Waits p x) (Waits q y) (Done c) a b = subst (λ (w : T). R w c) a.1 b
  goes_on (Waits p x) (Done c) (Waits r z) a b = absurd b
  goes_on (Waits p x) (Done c) (Done d) a b = subst (R x) (sym b) a
  goes_on (Done c) (Waits q y) v a b = absurd a
  goes_on (Done c) (Done d) (Waits r z) a b = absurd b
  goes_on (Done c) (Done d) (Done e) a b = b ∙ a

  pub done_stays : (t u : Turn T B) → Goes R t u → IsDone t → IsDone u
  done_stays (Waits p x) u a d = absurd d
  done_stays (Done b) (Waits q y) a d = a
  done_stays (Done b) (Done c) a d = tt

  pub sound_stays : (path : T → ℕ) (G : T → Type 0) (t u : Turn T B) → Goes R t u → IsSound path G t → IsSound path G u
  sound_stays path G (Waits p x) (Waits q y) a s = (ap (λ (w : _). w.0) a.0 ∙ (s.0 ∙ ap path (sym a.1)), subst G (sym a.1) s.1)
  sound_stays path G (Waits p x) (Done b) a s = tt
  sound_stays path G (Done b) (Waits q y) a s = absurd a
  sound_stays path G (Done b) (Done c) a s = tt

  -- where all had their turn, what came of the items stands to them
  pub answers_stand : (path : T → ℕ) (xs : List T) (ts us : List (Turn T B)) → AllZip (Stands path) xs ts → AllZip (Goes R) ts us → All IsDone us → AllZip R xs (answers_in us)
  answers_stand path [] [] [] p q d = tt
  answers_stand path [] [] (u ∷ us) p q d = absurd q
  answers_stand path [] (t ∷ ts) us p q d = absurd p
  answers_stand path (x ∷ xs) [] us p q d = absurd p
  answers_stand path (x ∷ xs) (t ∷ ts) [] p q d = absurd q
  answers_stand path (x ∷ xs) (Done b ∷ ts) (u ∷ us) p q d = absurd p.0
  answers_stand path (x ∷ xs) (Waits w y ∷ ts) (Waits v z ∷ us) p q d = absurd (All-head IsDone (Waits v z) us d)
  answers_stand path (x ∷ xs) (Waits w y ∷ ts) (Done b ∷ us) p q d =
      (subst (λ (z : T). R z b) p.0.0 q.0, answers_stand path xs ts us p.1 q.1 (All-tail IsDone (Done b) us d))

  -- each item is done or left
  pub turns_part : (path : T → ℕ) (n : ℕ) (xs : List T) (ts us : List (Turn T B)) → AllZip (Stands path) xs ts → AllZip (Goes R) ts us → IsParted R n xs (done_from n us) (left_in us)
  turns_part path n [] [] [] p q = (refl, refl)
  turns_part path n [] [] (u ∷ us) p q = absurd q
  turns_part path n [] (t ∷ ts) us p q = absurd p
  turns_part path n (x ∷ xs) [] us p q = absurd p
  turns_part path n (x ∷ xs) (t ∷ ts) [] p q = absurd q
  turns_part path n (x ∷ xs) (Done b ∷ ts) (u ∷ us) p q = absurd p.0
  turns_part path n (x ∷ xs) (Waits w y ∷ ts) (Waits v z ∷ us) p q =
      inr (left_in us, ap (λ (k : T). k ∷ left_in us) (q.0.1 ∙ p.0.0), turns_part path (n + 1) xs ts us p.1 q.1)
  turns_part path n (x ∷ xs) (Waits w y ∷ ts) (Done b ∷ us) p q =
      inl (b, done_from (n + 1) us, refl, subst (λ (z : T). R z b) p.0.0 q.0, turns_part path (n + 1) xs ts us p.1 q.1)

  pub all_go_on : (ts us vs : List (Turn T B)) → AllZip (Goes R) ts us → AllZip (Goes R) us vs → AllZip (Goes R) ts vs
  all_go_on = zip_on (Goes R) (Goes R) (Goes R) goes_on

  pub all_stay : (ts : List (Turn T B)) → AllZip (Goes R) ts ts
  all_stay = zip_self (Goes R) goes_self

  -- where the item of one place goes on, all do
  pub one_goes : (ts : List (Turn T B)) (i : ℕ) (t u : Turn T B) → i < length ts → Goes R (get_or ts i t) u → AllZip (Goes R) ts (set ts i u)
  one_goes ts i t u within goes =
      zip_set (Goes R) ts ts i u (λ x p. goes_on x (get_or ts i u) u p (subst (λ (w : Turn T B). Goes R w u) (get_or_default ts i t u within) goes)) (all_stay ts)

  pub then_goes : (ts us : List (Turn T B)) (i : ℕ) (t u : Turn T B) → i < length us → AllZip (Goes R) ts us → Goes R (get_or us i t) u → AllZip (Goes R) ts (set us i u)
  then_goes ts us i t u within so_far goes = all_go_on ts us (set us i u) so_far (one_goes us i t u within goes)

  pub sound_at : (path : T → ℕ) (G : T → Type 0) (ts us : List (Turn T B)) → AllZip (Goes R) ts us → All (IsSound path G) ts → (i : ℕ) (d : Turn T B) → i < length us → IsSound path G (get_or us i d)
  sound_at path G ts us goes sound = zip_all (Goes R) (IsSound path G) (IsSound path G) (sound_stays path G) ts us goes sound

  pub all_sound : (path : T → ℕ) (G : T → Type 0) (ts us : List (Turn T B)) → AllZip (Goes R) ts us → All (IsSound path G) ts → All (IsSound path G) us
  all_sound path G ts us goes sound = zip_all (Goes R) (IsSound path G) (IsSound path G) (sound_stays path G) ts us goes sound

  -- an item that had its turn stays, where all go on
  pub done_remains : (ts us : List (Turn T B)) (i : ℕ) → i < length ts → AllZip (Goes R) ts us → ((d : Turn T B) → IsDone (get_or ts i d)) → (d : Turn T B) → IsDone (get_or us i d)
  done_remains ts us i within goes done d =
      zip_at (Goes R) IsDone IsDone done_stays ts us i d d (omega (arith, within, AllZip-long (Goes R) ts us goes)) goes (done d)

  -- the item of a place had its turn, and then others had theirs
  pub done_then : (ts us : List (Turn T B)) (i : ℕ) (u : Turn T B) → i < length ts → IsDone u → AllZip (Goes R) (set ts i u) us → (d : Turn T B) → IsDone (get_or us i d)
  done_then ts us i u within done goes =
      done_remains (set ts i u) us i (omega (arith, within, length-set ts i u)) goes (λ d. subst IsDone (sym (get_or-set_same ts i u d within)) done)

module _ {T B : Type 0} where
  -- items that wait are sound where that holds of each
  pub stands_sound : (path : T → ℕ) (G : T → Type 0) (x : T) (t : Turn T B) → Stands path x t → G x → IsSound path G t
  stands_sound path G x (Waits p y) s g = (s.1 ∙ ap path (sym s.0), subst G (sym s.0) g)
  stands_sound path G x (Done b) s g = absurd s

  pub all_stand_sound : (path : T → ℕ) (G : T → Type 0) (xs : List T) (ts : List (Turn T B)) → AllZip (Stands path) xs ts → All G xs → All (IsSound path G) ts
  all_stand_sound path G = zip_all (Stands path) G (IsSound path G) (stands_sound path G)

  pub answers_more : (old new all : List B) (b : B) (ts us : List (Turn T B)) → ts ≡ Done b ∷ us → new ≡ old ++ b ∷ [] → old ++ answers_in ts ≡ all → new ++ answers_in us ≡ all
  answers_more old new all b ts us is more so_far =
      ap (λ (xs : List B). xs ++ answers_in us) more ∙ (append_assoc old (b ∷ []) (answers_in us) ∙ (ap (λ (xs : List (Turn T B)). old ++ answers_in xs) (sym is) ∙ so_far))

  pub done_more : (old new all : List (ℕ × B)) (n : ℕ) (b : B) (ts us : List (Turn T B)) → ts ≡ Done b ∷ us → new ≡ old ++ (n, b) ∷ [] → old ++ done_from n ts ≡ all → new ++ done_from (n + 1) us ≡ all
  done_more old new all n b ts us is more so_far =
      ap (λ (xs : List (ℕ × B)). xs ++ done_from (n + 1) us) more ∙ (append_assoc old ((n, b) ∷ []) (done_from (n + 1) us) ∙ (ap (λ (xs : List (Turn T B)). old ++ done_from n xs) (sym is) ∙ so_far))

  pub left_more : (old new all : List T) (p : Path) (x : T) (ts us : List (Turn T B)) → ts ≡ Waits p x ∷ us → new ≡ old ++ x ∷ [] → old ++ left_in ts ≡ all → new ++ left_in us ≡ all
  left_more old new all p x ts us is more so_far =
      ap (λ (xs : List T). xs ++ left_in us) more ∙ (append_assoc old (x ∷ []) (left_in us) ∙ (ap (λ (xs : List (Turn T B)). old ++ left_in xs) (sym is) ∙ so_far))

pub on_ok : {T E : Type 0} (r : Result T E) (P : Type 0) → P → OnOk r P
on_ok (Ok x) P p = p
on_ok (Err e) P p = tt
