-- The ghost side of a turn and of a deal: `logbook`'s steps without the word. Assumes `Logic`.
use Rattle.std.proofs.Common.{◌≡◌, ℕ, zero, suc, ◌+◌, ◌-◌, ◌<◌, ◌⊎◌, inl, inr, true, List, [], ◌∷◌, ◌++◌, map, length, set, sym, ap, ◌∙◌, refl, subst, arith}
use mathlib.Core.List.{IsPrefix}
use seplogic.Ra.Pcs.{OpDef, OpDef-comm}
use seplogic.Ra.Ura.{Ura}
use base.Fraction.{full_share}
use base.Share.{quarter, three_quarters}
use base.FractionLaws.{not-OpDef-full_share}
use base.Stored.{Coded}
use base.Algebras.{pcs, shares}
use base.Logic.{SProp, ent, sep, ex, all, guard, upd, id⊢, apply∗, all_e, upd_i, guard_i}
use base.Fml.{Fml, ftrue, finv, fnamed}
use base.Growing.{latest}
use base.Shift.{Keyless}
use types.Logic.{Logic, sem}
use types.Growing.{latest_grows, latest_shows, latest_bounds}
use types.Keyed.{entries_beside, entry_keyless}
use types.Kit.{‵, raw, ◌⊛◌, some, given, ◌$◌, ◌∵◌, !, qed, by, move, keep, drop, split, split3, join, fsplit, fsplit3, fjoin, fjoin3, fpick, fpack, pick, learn, show, check, frame, assume, suffices, settle, done, updating, now, use0, use1, use2, use3, rewrite}
use denote.Steps.{nothing}
use Rattle.logbook.specs.Pages.{Cell, cell, Book, Calm}
use Rattle.logbook.specs.Kept.{halved, home, part, pens_own, roster, logs, Rules, reached, standing, contents, seen_owns}
use Rattle.logbook.proofs.Roster.{prefix_out, prefix_in, resets, joined, Reset, at_home}
use Rattle.ghost_log.specs.Cells.{Agree, AllDiffer, AreHome, Count, cells_after, counted, rights_own}
use Rattle.ghost_log.specs.Turns.{Added, Allows, MayTurn, Turned}
use Rattle.ghost_log.proofs.Counting.{agree_else, home_else}

pub rights_keyless : (δ : ℕ) (rights : List Count) → Keyless (rights_own δ rights)
rights_keyless δ [] = tt
rights_keyless δ (c ∷ rest) = (entry_keyless halved δ c.0 _, rights_keyless δ rest)

module _ {M : Type 1} {𝓤 : Ura M} (𝓛 : Logic 𝓤) where
  open 𝓛 use {H, A as At}

  abbrev Pr : Type 2
  Pr = SProp 𝓤

  abbrev ◌⊢◌ : Pr → Pr → Type 1
  P ⊢ Q = ent 𝓤 P Q

  abbrev ◌∗◌ : Pr → Pr → Pr
  P ∗ Q = sep 𝓤 P Q

  abbrev ⟦◌⟧ : Fml → Pr
  ⟦ P ⟧ = sem 𝓛 P

  infix 26 ◌⊢◌
  infixr 35 ◌∗◌
  module _ (δ : ℕ) where
    -- rights to two lists of cells are rights to both together
    pub rights_join : (xs ys : List Count) → ⟦ rights_own δ xs ⟧ ∗ ⟦ rights_own δ ys ⟧ ⊢ ⟦ rights_own δ (xs ++ ys) ⟧
    rights_join [] ys = qed 𝓛 (‵ (rights_own δ []) ∷ ‵ (rights_own δ ys) ∷ []) ∵ drop ! $ done !
    rights_join (x ∷ xs) ys = qed 𝓛 (‵ (rights_own δ (x ∷ xs)) ∷ ‵ (rights_own δ ys) ∷ []) ∵ fsplit ! $ move ! (1 ∷ 2 ∷ []) $
        use2 𝓛 (‵ (rights_own δ (xs ++ ys))) (rights_join xs ys) $ move ! (1 ∷ 0 ∷ []) $ fjoin ! $ done !

    pub rights_cut : (xs ys : List Count) → ⟦ rights_own δ (xs ++ ys) ⟧ ⊢ ⟦ rights_own δ xs ⟧ ∗ ⟦ rights_own δ ys ⟧
    rights_cut [] ys = qed 𝓛 (‵ (rights_own δ ys) ∷ []) ∵ nothing ! $ done !
    rights_cut (x ∷ xs) ys = qed 𝓛 (‵ (rights_own δ (x ∷ (xs ++ ys))) ∷ []) ∵ fsplit ! $ move ! (1 ∷ []) $
        use1 𝓛 (‵ (rights_own δ xs) ⊛ ‵ (rights_own δ ys)) (rights_cut xs ys) $ split ! $ move ! (2 ∷ 0 ∷ []) $ fjoin ! $ done !

    -- the first right of a row
    pub one_right : (k n : ℕ) → 0 < n → ⟦ pens_own δ k n ⟧ ⊢ ⟦ rights_own δ ((k, 0) ∷ []) ⟧ ∗ ⟦ pens_own δ (k + 1) (n - 1) ⟧
    one_right k zero some_left = absurd (omega arith)
    one_right k (suc n) some_left =
        let on : suc k ≡ k + 1 = omega arith in let less : n ≡ suc n - 1 = omega arith in
        qed 𝓛 (‵ (part δ k quarter 0) ∷ ‵ (pens_own δ (suc k) n) ∷ []) ∵ rewrite ! 1 (λ (j : ℕ). ‵ (pens_own δ j n)) on refl $ rewrite ! 1 (λ (j : ℕ). ‵ (pens_own δ (k + 1) j)) less refl $
        nothing ! $ move ! (1 ∷ 0 ∷ []) $ fjoin ! $ done !

    -- a cell to which there is a right is one of the book's
    within : (cs : List Cell) (k i j v : ℕ) → j ≡ k + i → ⟦ roster δ k cs ⟧ ∗ ⟦ part δ j quarter v ⟧ ⊢ guard 𝓤 (i < length cs) (⟦ roster δ k cs ⟧ ∗ ⟦ part δ j quarter v ⟧)
    within [] k i j v e = qed 𝓛 (‵ (roster δ k []) ∷ ‵ (part δ j quarter v) ∷ []) ∵ move ! (1 ∷ 0 ∷ []) $
        use2 𝓛 (given (OpDef halved.op (quarter, v) (full_share, 0)) (‵ (part δ j quarter v) ⊛ ‵ (roster δ k []))) (entries_beside halved 𝓛 δ k j (λ _. (full_share, 0)) (quarter, v) (omega arith)) $
        learn ! (λ x. absurd (not-OpDef-full_share quarter ((OpDef-comm (pcs shares) {a = quarter} {b = full_share}).0 x.0)))
    within (c ∷ cs) k zero j v e = qed 𝓛 (‵ (roster δ k (c ∷ cs)) ∷ ‵ (part δ j quarter v) ∷ []) ∵ check ! ((let r : zero < suc (length cs) = omega arith in r)) $ done !
    within (c ∷ cs) k (suc i) j v e = qed 𝓛 ((‵ (home δ k c.0 c.1) ⊛ ‵ (roster δ (suc k) cs)) ∷ ‵ (part δ j quarter v) ∷ []) ∵ split ! $ move ! (1 ∷ 2 ∷ []) $
        use2 𝓛 (given (i < length cs) (‵ (roster δ (suc k) cs) ⊛ ‵ (part δ j quarter v))) (within cs (suc k) i j v (omega arith)) $ learn ! (λ l. check ! ((let r : suc i < suc (length cs) = omega (arith, l) in r)) $
        split ! $ move ! (2 ∷ 0 ∷ []) $ join ! $ done !)

    module _ (m : ℕ) where
      abbrev pub Raised : List Cell → List Count → Pr
      Raised cs rights = guard 𝓤 (Agree cs rights) (⟦ roster δ 0 (cells_after m cs rights) ⟧ ∗ ⟦ rights_own δ (counted m rights) ⟧)

      -- the cells of the rights have the numbers of the rights, and both are m higher then
      pub raises : (rights : List Count) (cs : List Cell) → AreHome cs rights → AllDiffer rights → ⟦ roster δ 0 cs ⟧ ∗ ⟦ rights_own δ rights ⟧ ⊢ upd 𝓤 (Raised cs rights)
      raises [] cs home differ = qed 𝓛 (‵ (roster δ 0 cs) ∷ ‵ (rights_own δ []) ∷ []) ∵ suffices ! _ (upd_i 𝓤 (Raised cs [])) $ check ! tt $ done !
      raises (c ∷ rest) cs home differ =
          let k : ℕ = c.0 in let n : ℕ = c.1 in let n' : ℕ = n + m in let x : ℕ = (cell cs k).0 in let ds : List Cell = set cs k (n', true) in let Z : Pr = Raised cs (c ∷ rest) in
          qed 𝓛 (‵ (roster δ 0 cs) ∷ ‵ (rights_own δ (c ∷ rest)) ∷ []) ∵ move ! (1 ∷ []) $ fsplit ! $ move ! (2 ∷ 0 ∷ []) $
          -- [the cells; the right; the other rights]
          use2 𝓛 (given (k < length cs) (‵ (roster δ 0 cs) ⊛ ‵ (part δ k quarter n))) (within cs 0 k k n (omega arith)) $ learn ! (λ l. split ! $
          use1 𝓛 (‵ (part δ k three_quarters x) ⊛ raw (all 𝓤 (Reset 𝓛 δ 0 cs k k))) (at_home 𝓛 δ cs 0 k k (omega arith) l (home.0 l)) $ split ! $ move ! (2 ∷ 0 ∷ []) $
          use2 𝓛 (given (n ≡ x) (‵ (part δ k full_share n))) (joined 𝓛 δ k n x) $ learn ! (λ same.
          use1 𝓛 (raw (upd 𝓤 (⟦ part δ k quarter n' ⟧ ∗ ⟦ part δ k three_quarters n' ⟧))) (resets 𝓛 δ k n n') $ settle 𝓛 Z (‵ (part δ k quarter n') ⊛ ‵ (part δ k three_quarters n')) $ split ! $ move ! (2 ∷ []) $
          use1 𝓛 (raw (Reset 𝓛 δ 0 cs k k n')) (all_e 𝓤 (Reset 𝓛 δ 0 cs k k) n') $ move ! (2 ∷ 0 ∷ []) $
          use2 𝓛 (‵ (roster δ 0 ds)) (apply∗ 𝓤 ⟦ part δ k three_quarters n' ⟧ ⟦ roster δ 0 ds ⟧) $ move ! (0 ∷ 2 ∷ []) $
          use2 𝓛 (raw (upd 𝓤 (Raised ds rest))) (raises rest ds (home_else cs k (n', true) rest differ.0 home.1) differ.1) $ settle 𝓛 Z (given (Agree ds rest) (‵ (roster δ 0 (cells_after m ds rest)) ⊛ ‵ (rights_own δ (counted m rest)))) $
          learn ! (λ agree. split ! $ suffices ! _ (upd_i 𝓤 Z) $ check ! ((λ i. (sym same i, home.0 l i)), agree_else cs k (n', true) rest differ.0 agree) $
          move ! (2 ∷ 1 ∷ []) $ fjoin ! $ move ! (1 ∷ 0 ∷ []) $ done !)))

  module _ {E : Type 0} (cv : Coded E) (rule : Rules E) (bk : Book) (names : List ℕ) where
    abbrev J : Fml
    J = contents cv.code rule bk.log_name bk.cells_name names

    abbrev N : Fml
    N = fnamed bk.number J

    abbrev had : List E → Fml
    had = reached cv.code bk.log_name

    abbrev top : List E → Fml
    top log = latest logs full_share bk.log_name (map cv.code log)

    abbrev K : List E → Fml
    K = seen_owns cv.code rule bk names

    abbrev Q : Type 0
    Q = Calm (rule.keeps names)

    opened : (log : List E) → ⟦ K log ⟧ ⊢ guard 𝓤 Q (⟦ N ⟧ ∗ ⟦ had log ⟧)
    unfolding Rattle.logbook.specs.Kept.seal
    opened log = id⊢ 𝓤 _

    closed : (log : List E) → Q → ⟦ N ⟧ ∗ ⟦ had log ⟧ ⊢ ⟦ K log ⟧
    unfolding Rattle.logbook.specs.Kept.seal
    closed log q = guard_i 𝓤 Q (⟦ N ⟧ ∗ ⟦ had log ⟧) q

    under : (log l : List E) → ⟦ top log ⟧ ∗ ⟦ had l ⟧ ⊢ guard 𝓤 (IsPrefix l log) (⟦ top log ⟧ ∗ ⟦ had l ⟧)
    under log l = qed 𝓛 (‵ (top log) ∷ ‵ (had l) ∷ []) ∵ use2 𝓛 (given (IsPrefix (map cv.code l) (map cv.code log)) (‵ (top log) ⊛ ‵ (had l))) (latest_bounds logs 𝓛 full_share bk.log_name (map cv.code log) (map cv.code l)) $
        learn ! (λ p. check ! (prefix_out cv l log p) $ done !)

    shown : (log : List E) → ⟦ top log ⟧ ⊢ ⟦ top log ⟧ ∗ ⟦ had log ⟧
    shown log = latest_shows logs 𝓛 full_share bk.log_name (map cv.code log) (map cv.code log) (logs.same (map cv.code log))

    shut : (cs : List Cell) (log : List E) → rule.holds cs log → ⟦ roster bk.cells_name 0 cs ⟧ ∗ ⟦ top log ⟧ ∗ ⟦ rule.keeps names (rule.shows log) ⟧ ⊢ ⟦ J ⟧
    shut cs log so = qed 𝓛 (‵ (roster bk.cells_name 0 cs) ∷ ‵ (top log) ∷ ‵ (rule.keeps names (rule.shows log)) ∷ []) ∵ nothing ! $ fpack ! (rule.holds cs log) (λ _. ftrue) so $ move ! (3 ∷ 0 ∷ []) $ fjoin ! $
        move ! (1 ∷ 2 ∷ 0 ∷ []) $ fjoin3 ! $ fpack ! (List Cell × List E) (standing cv.code rule bk.log_name bk.cells_name names) (cs, log) $ done !

    abbrev Open : List E → List Cell × List E → Pr
    Open l s = guard 𝓤 (rule.holds s.0 s.1 × IsPrefix l s.1) (⟦ roster bk.cells_name 0 s.0 ⟧ ∗ ⟦ top s.1 ⟧ ∗ ⟦ rule.keeps names (rule.shows s.1) ⟧)

    looked : (l : List E) → ⟦ J ⟧ ∗ ⟦ had l ⟧ ⊢ ex 𝓤 (Open l)
    looked l = qed 𝓛 (‵ J ∷ ‵ (had l) ∷ []) ∵ fpick ! (λ s. fsplit3 ! $ move ! (2 ∷ []) $ fsplit ! $ move ! (1 ∷ []) $ fpick ! (λ so. drop ! $ move ! (2 ∷ 3 ∷ []) $
        use2 𝓛 (given (IsPrefix l s.1) (‵ (top s.1) ⊛ ‵ (had l))) (under s.1 l) $ learn ! (λ p. split ! $ show ! (Open l) s $ check ! (so, p) $ keep ! (3 ∷ 0 ∷ 2 ∷ []) $ done !)))

    abbrev seeing : List E → types.Kit.Item 𝓤
    seeing l = some (λ (s : List Cell × List E). given (rule.holds s.0 s.1 × IsPrefix l s.1) (‵ (roster bk.cells_name 0 s.0) ⊛ ‵ (top s.1) ⊛ ‵ (rule.keeps names (rule.shows s.1))))

    abbrev Adding : List Count → List E → List E → List E → Pr
    Adding rights v more new = guard 𝓤 (Added rule.holds rights v more new) (⟦ K new ⟧ ∗ ⟦ rights_own bk.cells_name (counted (length more) rights) ⟧)

    adding : (rights : List Count) (v more : List E) → Allows rule.holds rule.shows rights v more → ⟦ K v ⟧ ∗ ⟦ rights_own bk.cells_name rights ⟧ ⊢ H.⇛ (ex 𝓤 (Adding rights v more))
    adding rights v more law = let δ : ℕ = bk.cells_name in let m : ℕ = length more in let Y : Pr = ex 𝓤 (Adding rights v more) in let Z : Pr = ⟦ J ⟧ ∗ Y in
        qed 𝓛 (‵ (K v) ∷ ‵ (rights_own δ rights) ∷ []) ∵
        use1 𝓛 (given Q (‵ N ⊛ ‵ (had v))) (opened v) $ learn ! (λ calm. split ! $
        use1 𝓛 (‵ N ⊛ ‵ N) (𝓛.invs.named_dup bk.number J) $ split ! $ use1 𝓛 (‵ (finv J)) (𝓛.invs.named_inv bk.number J) $
        suffices ! _ (𝓛.invs.inv_acc J Y) $ frame ! $ assume ! (‵ J) $ move ! (0 ∷ 2 ∷ []) $
        use2 𝓛 (seeing v) (looked v) $ pick ! (λ at. learn ! (λ so. split3 ! $
        let cs : List Cell = at.0 in let log : List E = at.1 in let log' : List E = log ++ more in let r = law.1 cs log so.0 in let ds : List Cell = cells_after m cs rights in
        -- [the cells; the log; what clients keep; N; the rights]
        move ! (0 ∷ 4 ∷ []) $ use2 𝓛 (raw (upd 𝓤 (Raised δ m cs rights))) (raises δ m rights cs r.0 law.0) $ settle 𝓛 Z (given (Agree cs rights) (‵ (roster δ 0 ds) ⊛ ‵ (rights_own δ (counted m rights)))) $ learn ! (λ agree. split ! $
        let go = r.1 so.1 agree in move ! (2 ∷ []) $
        -- [the log; the cells; the rights; what clients keep; N]
        use1 𝓛 (raw (upd 𝓤 ⟦ top log' ⟧)) (latest_grows logs 𝓛 bk.log_name (map cv.code log) (map cv.code log') (prefix_in cv log more)) $ settle 𝓛 Z (‵ (top log')) $
        use1 𝓛 (‵ (top log') ⊛ ‵ (had log')) (shown log') $ split ! $
        rewrite ! 4 (λ (l : List E). ‵ (rule.keeps names l)) (sym go.1) refl $ move ! (2 ∷ 0 ∷ 4 ∷ []) $
        suffices ! _ (upd_i 𝓤 Z) $ use3 𝓛 (‵ J) (shut ds log' go.0) $ frame ! $
        -- [that the log was reached; the rights; N]
        show ! (Adding rights v more) log' $ check ! (log, cs, so.0, so.1, agree, refl) $
        move ! (2 ∷ 0 ∷ []) $ use2 𝓛 (‵ (K log')) (closed log' calm) $ done !))))

    -- the log once the turn is taken, and the rights, which may be of another book where there are none
    abbrev pub Turning : Book → List Count → List E → List E → List E → Pr
    Turning of_rights rights v more new = guard 𝓤 (Turned rule.holds rights v more new) (⟦ K new ⟧ ∗ ⟦ rights_own of_rights.cells_name (counted (length more) rights) ⟧)

    pub turns : (of_rights : Book) (rights : List Count) (v more : List E) → MayTurn rule.holds rule.shows of_rights bk rights v more → ⟦ K v ⟧ ∗ ⟦ rights_own of_rights.cells_name rights ⟧ ⊢ H.⇛ (ex 𝓤 (Turning of_rights rights v more))
    turns of_rights [] v more may = qed 𝓛 (‵ (K v) ∷ ‵ (rights_own of_rights.cells_name []) ∷ []) ∵ updating ! $ now ! $ show ! (Turning of_rights [] v more) v $ check ! refl $ done !
    turns of_rights (c ∷ rest) v more may = subst (λ (b : Book). ⟦ K v ⟧ ∗ ⟦ rights_own b.cells_name (c ∷ rest) ⟧ ⊢ H.⇛ (ex 𝓤 (Turning b (c ∷ rest) v more))) (sym may.0) (adding (c ∷ rest) v more may.1)

  -- rights are shared out anew
  abbrev Deal : Book → Book → List Count → List Count → List Count → List Count → Type 1
  Deal a b xs ys xs' ys' = ⟦ rights_own a.cells_name xs ⟧ ∗ ⟦ rights_own b.cells_name ys ⟧ ⊢ ⟦ rights_own a.cells_name xs' ⟧ ∗ ⟦ rights_own b.cells_name ys' ⟧

  dealt_same : (b : Book) (xs ys xs' ys' : List Count) → (ys' ++ xs' ≡ ys ++ xs) ⊎ (xs' ++ ys' ≡ ys ++ xs) → Deal b b xs ys xs' ys'
  dealt_same b xs ys xs' ys' (inl e) = let δ : ℕ = b.cells_name in qed 𝓛 (‵ (rights_own δ xs) ∷ ‵ (rights_own δ ys) ∷ []) ∵ move ! (1 ∷ 0 ∷ []) $
      use2 𝓛 (‵ (rights_own δ (ys ++ xs))) (rights_join δ ys xs) $ rewrite ! 0 (λ (zs : List Count). ‵ (rights_own δ zs)) (sym e) refl $
      use1 𝓛 (‵ (rights_own δ ys') ⊛ ‵ (rights_own δ xs')) (rights_cut δ ys' xs') $ split ! $ move ! (1 ∷ 0 ∷ []) $ done !
  dealt_same b xs ys xs' ys' (inr e) = let δ : ℕ = b.cells_name in qed 𝓛 (‵ (rights_own δ xs) ∷ ‵ (rights_own δ ys) ∷ []) ∵ move ! (1 ∷ 0 ∷ []) $
      use2 𝓛 (‵ (rights_own δ (ys ++ xs))) (rights_join δ ys xs) $ rewrite ! 0 (λ (zs : List Count). ‵ (rights_own δ zs)) (sym e) refl $
      use1 𝓛 (‵ (rights_own δ xs') ⊛ ‵ (rights_own δ ys')) (rights_cut δ xs' ys') $ split ! $ done !

  append_none : (xs : List Count) → xs ++ [] ≡ xs
  append_none [] = refl
  append_none (x ∷ xs) = ap (λ (ys : List Count). x ∷ ys) (append_none xs)

  -- nothing was dealt where `self` has none before and after
  kept_whole : (xs ys xs' ys' : List Count) → xs ≡ [] → xs' ≡ [] → (ys' ++ xs' ≡ ys ++ xs) ⊎ (xs' ++ ys' ≡ ys ++ xs) → ys ≡ ys'
  kept_whole xs ys xs' ys' none none' (inl e) = sym (append_none ys) ∙ (ap (λ (zs : List Count). ys ++ zs) (sym none) ∙ (sym e ∙ (ap (λ (zs : List Count). ys' ++ zs) none' ∙ append_none ys')))
  kept_whole xs ys xs' ys' none none' (inr e) = sym (append_none ys) ∙ (ap (λ (zs : List Count). ys ++ zs) (sym none) ∙ (sym e ∙ ap (λ (zs : List Count). zs ++ ys') none'))

  pub dealt : (a b : Book) (xs ys xs' ys' : List Count) → ((xs ≡ []) × (xs' ≡ [])) ⊎ (a ≡ b) → (ys' ++ xs' ≡ ys ++ xs) ⊎ (xs' ++ ys' ≡ ys ++ xs) → Deal a b xs ys xs' ys'
  dealt a b xs ys xs' ys' (inl none) all = qed 𝓛 (‵ (rights_own a.cells_name xs) ∷ ‵ (rights_own b.cells_name ys) ∷ []) ∵
      rewrite ! 0 (λ (zs : List Count). ‵ (rights_own a.cells_name zs)) (none.0 ∙ sym none.1) refl $ rewrite ! 1 (λ (zs : List Count). ‵ (rights_own b.cells_name zs)) (kept_whole xs ys xs' ys' none.0 none.1 all) refl $ done !
  dealt a b xs ys xs' ys' (inr same) all = subst (λ (c : Book). Deal a c xs ys xs' ys') same (dealt_same a xs ys xs' ys' all)
