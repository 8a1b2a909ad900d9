-- Written by tools/c_walks. `tambyulo_texts_fork` meets its contract: what lies behind a pointer is lent to the call, and comes back.
use Rattle.tambyulo_c.proofs.Steps.{ℕ, List, [], ◌∷◌, refl, w64, proved, full_share, id⊢, sep, ftrue, flft, flent, named, vptr, fact, tables, WpFn, sem, Body, lft_new, lft_end, ‵, raw, ◌⊛◌, some, later, prop, ◌$◌, ◌∵◌, !, qed, done, move, keep, use1, use2, use3, split, join, fsplit, pick, await, regoal, suffices, frame, group, show, enter, of_opd, addr, stop, no_more, and_then, returns, alloc_all, pass_all, free_all, look_at, get, through, sets, lands_as, u64, yes, RattleType, Is, shows, lends_ref, ref_back, mem, part_at, uint_Lawful, Ptr, RawPtr, block_ptr, ptr_val, lies_at, in_a_block, rawptr_vals, rawptr_Tells, MutRef, plain, nothing, heard, peeks, calls_at, Lasts, lasts, triple_of, Stays, walk_of, says, stay_dropped, Goes-dropped, ends_at, framed}
use Rattle.tambyulo_c.specs.Rows as rows
use Rattle.c_map.specs.Outcomes.{Forks}
use Rattle.c_map.specs.Stored.{Stored}
use Rattle.tambyulo_c.specs.contracts.exported_texts.tambyulo_texts_fork as f
use Rattle.tambyulo_c.proofs.exported_texts.tambyulo_texts_fork.Statement.{statement}
use Rattle.tambyulo_c.proofs.exported_texts.tambyulo_texts_fork.Code as code
use Rattle.c_map.specs.contracts.texts.fork as g
use Rattle.c_map.proofs.texts.fork.Met as g-met

abbrev R : RattleType
R = rows.texts

abbrev stayed : Stays f.ended.signature.params f.ended.kept
stayed = (stay_dropped _ yes, (stay_dropped _ yes, tt))

pub tambyulo_texts_fork_spec : {M : Type 1} → statement M
tambyulo_texts_fork_spec 𝓤 𝓛 𝓜 𝓡 wired =
    let c = f.clauses 𝓛 𝓜.mem 𝓡.returns in let W = walk_of 𝓛 f.ended stayed c in let 𝓣 = tables 𝓤 𝓛.H 𝓜 𝓡 𝓡.env in
    let G = triple_of 𝓛 g.signature (g.spec 𝓛 𝓜.mem 𝓡.returns) in
    proved 𝓛 f.ended stayed c 𝓜 𝓡 (Goes-dropped 𝓛 0 (plain (λ _. RawPtr)) yes (λ κs x w. refl), (Goes-dropped 𝓛 0 (plain (λ _. RawPtr)) yes (λ κs x w. refl), tt))
    f.Key.name code.function (code.unfolded 𝓤 𝓛.H 𝓜 𝓡 wired)
    (λ κs. (rawptr_vals, (rawptr_vals, tt))) (λ κs. (rawptr_Tells, (rawptr_Tells, tt))) (λ κs qs bounds a m are.
    let y : Ptr → Ptr → W.Ghost = λ p_source p_target. ((κs, qs, bounds, (p_source, (p_target, tt)), (rawptr_vals p_source, (rawptr_vals p_target, tt))), m) in
    qed 𝓛 ((‵ ftrue ⊛ ‵ (RawPtr.own_val a.0 (rawptr_vals a.0)) ⊛ ‵ (RawPtr.own_val a.1.0 (rawptr_vals a.1.0)) ⊛ ‵ ftrue) ∷ (‵ (lies_at R full_share a.0 m.0) ⊛ ‵ (lies_at R full_share a.1.0 m.1)) ∷ []) ∵
    split ! $
    move ! (1 ∷ []) $
    split ! $
    move ! (1 ∷ []) $
    split ! $
    move ! (4 ∷ []) $
    split ! $
    keep ! (0 ∷ 1 ∷ []) $
    in_a_block ! a.0 (λ p. lies_at R full_share p m.0) (id⊢ 𝓤 _) (λ b_source o_source e_source.
    regoal ! (λ p. prop (WpFn 𝓤 𝓛.H 𝓣.C 𝓣.Λ code.function (ptr_val p ∷ ptr_val a.1.0 ∷ []) (W.post (y p a.1.0)))) e_source refl $
    move ! (1 ∷ []) $
    in_a_block ! a.1.0 (λ p. lies_at R full_share p m.1) (id⊢ 𝓤 _) (λ b_target o_target e_target.
    regoal ! (λ p. prop (WpFn 𝓤 𝓛.H 𝓣.C 𝓣.Λ code.function (ptr_val (block_ptr b_source o_source) ∷ ptr_val p ∷ []) (W.post (y (block_ptr b_source o_source) p)))) e_target refl $
    enter ! _ _ _ _ _ $ alloc_all ! (λ l. pass_all ! refl ((tt, tt), ((tt, tt), tt)) $
    sets ! (of_opd ! (get ! refl)) refl (tt, tt) $ sets ! (addr ! (through ! refl (stop !))) refl (tt, tt) $
    sets ! (of_opd ! (get ! refl)) refl (tt, tt) $ sets ! (addr ! (through ! refl (stop !))) refl (tt, tt) $
    lft_new ! tt (λ α_source.
    move ! (2 ∷ []) $
    use1 𝓛 (later (some (λ (γ : ℕ). ‵ ((MutRef (named 0) (α_source ∷ []) R).own_val (record { ref_ptr = (b_source, o_source); ghost_name = γ; now = m.0 }) (vptr b_source o_source ∷ [])) ⊛ ‵ (flent (α_source ∷ []) (Body (mem R) b_source o_source γ))))) (lends_ref 𝓛 R (named 0) (α_source ∷ []) m.0 b_source o_source) $ await ! tt $ pick ! (λ γ_source.
    split ! $
    lft_new ! tt (λ α_target.
    move ! (4 ∷ []) $
    use1 𝓛 (later (some (λ (γ : ℕ). ‵ ((MutRef (named 0) (α_target ∷ []) R).own_val (record { ref_ptr = (b_target, o_target); ghost_name = γ; now = m.1 }) (vptr b_target o_target ∷ [])) ⊛ ‵ (flent (α_target ∷ []) (Body (mem R) b_target o_target γ))))) (lends_ref 𝓛 R (named 0) (α_target ∷ []) m.1 b_target o_target) $ await ! tt $ pick ! (λ γ_target.
    split ! $
    let z : G.Ghost = (((α_source ∷ [], (α_target ∷ [], tt)), (full_share, (full_share, tt)), tt, (record { ref_ptr = (b_source, o_source); ghost_name = γ_source; now = m.0 }, (record { ref_ptr = (b_target, o_target); ghost_name = γ_target; now = m.1 }, tt)), (vptr b_source o_source ∷ [], (vptr b_target o_target ∷ [], tt))), tt) in
    nothing ! $
    move ! (1 ∷ 0 ∷ []) $
    join ! $
    move ! (3 ∷ 0 ∷ []) $
    join ! $
    nothing ! $
    move ! (3 ∷ 0 ∷ []) $
    join ! $
    move ! (4 ∷ 0 ∷ []) $
    join ! $
    join ! $
    nothing ! $
    move ! (1 ∷ 0 ∷ []) $
    use2 𝓛 (raw (G.pre z)) (id⊢ 𝓤 _) $
    calls_at ! (framed 𝓤 𝓛.H 𝓜 𝓣) G (g-met.met 𝓤 𝓛 𝓜 𝓡 (code.calls-c_map::texts::fork 𝓡.env wired)) z (and_then ! (get ! refl) (and_then ! (get ! refl) (no_more !))) (λ u.
    use1 𝓛 (later (some (λ (r : ℕ). ((‵ (flft (α_source ∷ []) full_share) ⊛ ‵ (flft (α_target ∷ []) full_share) ⊛ ‵ ftrue) ⊛ ‵ (u64.own_val r (u ∷ []))) ⊛ some (λ (ws : Lasts g.ended z.0.0 z.0.3). ‵ (lasts g.ended z.0.0 z.0.3 ws) ⊛ raw (fact 𝓤 (Forks m.0 m.1 r ws.0 ws.1.0)))))) (id⊢ 𝓤 _) $
    await ! tt $ pick ! (λ r.
    split ! $
    split ! $
    split ! $
    lft_end ! tt $
    move ! (1 ∷ []) $
    split ! $
    lft_end ! tt $
    move ! (3 ∷ []) $
    peeks ! u64 (Is u64) (shows 𝓛 u64) r (u ∷ []) (λ is. lands_as ! refl refl ((uint_Lawful 𝓛 w64).typed r _ is).0 $
    move ! (4 ∷ []) $
    pick ! (λ ws.
    split ! $
    move ! (1 ∷ []) $
    heard ! _ (λ done_.
    fsplit ! $
    fsplit ! $
    move ! (6 ∷ 8 ∷ 0 ∷ []) $
    use3 𝓛 (later (‵ (part_at R full_share ws.0 b_source o_source))) (ref_back 𝓛 R (α_source ∷ []) γ_source ws.0 b_source o_source) $ await ! tt $
    move ! (2 ∷ []) $
    fsplit ! $
    fsplit ! $
    move ! (6 ∷ 8 ∷ 0 ∷ []) $
    use3 𝓛 (later (‵ (part_at R full_share ws.1.0 b_target o_target))) (ref_back 𝓛 R (α_target ∷ []) γ_target ws.1.0 b_target o_target) $ await ! tt $
    returns ! (look_at ! 0 refl) $ free_all ! refl $
    keep ! (5 ∷ 6 ∷ 3 ∷ 0 ∷ []) $
    suffices ! _ (ends_at 𝓛 f.ended stayed c (y (block_ptr b_source o_source) (block_ptr b_target o_target)) u r (tt, (tt, tt)) (tt, (tt, tt))) $
    nothing ! $
    nothing ! $
    join ! $
    nothing ! $
    join ! $
    move ! (2 ∷ 0 ∷ 1 ∷ []) $
    group ! 3 $ frame ! $
    show ! (λ (n : Stored (List ℕ) × Stored (List ℕ)). sep 𝓤 (sem 𝓛 (lies_at R full_share (block_ptr b_source o_source) n.0)) (sep 𝓤 (sem 𝓛 (lies_at R full_share (block_ptr b_target o_target) n.1)) (fact 𝓤 (Forks m.0 m.1 r n.0 n.1)))) (ws.0, ws.1.0) $ frame ! $ says ! done_ $ done !)))))))))))))
