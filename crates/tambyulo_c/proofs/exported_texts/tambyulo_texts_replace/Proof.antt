-- Written by tools/c_walks. `tambyulo_texts_replace` meets its contract: what lies behind a pointer is lent to the call, and comes back.
use Rattle.tambyulo_c.proofs.Steps.{ℕ, List, [], ◌∷◌, length, refl, proved, full_share, id⊢, sep, ftrue, flft, flent, named, vptr, fact, tables, WpFn, sem, Body, lft_new, lft_end, ‵, raw, ◌⊛◌, some, later, prop, ◌$◌, ◌∵◌, !, qed, done, move, keep, use1, use2, use3, split, join, fsplit, pick, await, regoal, suffices, frame, group, show, enter, of_opd, addr, stop, no_more, and_then, returns, alloc_all, pass_all, free_all, look_at, get, through, sets, lands_as, u8, yes, RattleType, Is, shows, lends_ref, ref_back, mem, part_at, Ptr, RawPtr, block_ptr, ptr_val, lies_at, in_a_block, rawptr_vals, rawptr_Tells, MutRef, plain, shr_slice_of, ShrSlice, slice_val, shr_slice_vals, shr_slice_Tells, nothing, heard, peeks, calls_at, Lasts, lasts, triple_of, Stays, walk_of, says, stay_dropped, Goes-dropped, ends_at, framed, heap_val, heap_Tells}
use denote.Struct.Laws as laws
use Rattle.std.specs.contracts.alloc.Global as heap
use Rattle.c_map.specs.contracts.answer.Answer as Answer
use Rattle.c_map.proofs.answer.Answer.TheLaws as Answer'
use Rattle.c_map.specs.declared.answer.Answer.{Answer as Answered}
use Rattle.tambyulo_c.specs.Rows as rows
use Rattle.c_map.specs.Texts.{Does}
use Rattle.c_map.specs.Outcomes.{outcome}
use Rattle.c_map.specs.Stored.{Stored}
use Rattle.versions.specs.Commands as commands
use Rattle.tambyulo_c.specs.contracts.exported_texts.tambyulo_texts_replace as f
use Rattle.tambyulo_c.proofs.exported_texts.tambyulo_texts_replace.Statement.{statement}
use Rattle.tambyulo_c.proofs.exported_texts.tambyulo_texts_replace.Code as code
use Rattle.c_map.specs.contracts.texts.replace as g
use Rattle.c_map.proofs.texts.replace.Met as g-met

abbrev R : RattleType
R = rows.texts

abbrev stayed : Stays f.ended.signature.params f.ended.kept
stayed = (stay_dropped _ yes, (stay_dropped _ yes, (stay_dropped _ yes, (stay_dropped _ yes, tt))))

pub tambyulo_texts_replace_spec : {M : Type 1} → statement M
tambyulo_texts_replace_spec 𝓤 𝓛 𝓜 𝓡 wired =
    let c = f.clauses 𝓛 𝓜.mem 𝓡.returns in let W = walk_of 𝓛 f.ended stayed c in let 𝓣 = tables 𝓤 𝓛.H 𝓜 𝓡 𝓡.env in
    let G = triple_of 𝓛 g.signature (g.spec 𝓛 𝓜.mem 𝓡.returns) in
    proved 𝓛 f.ended stayed c 𝓜 𝓡 (Goes-dropped 𝓛 2 (plain (λ _. RawPtr)) yes (λ κs x w. refl), (Goes-dropped 𝓛 2 (plain (λ _. heap.the_row)) yes (λ κs x w. refl), (Goes-dropped 𝓛 2 (shr_slice_of (0 ∷ []) tt (plain (λ _. u8))) yes (λ κs x w. refl), (Goes-dropped 𝓛 2 (shr_slice_of (1 ∷ []) tt (plain (λ _. u8))) yes (λ κs x w. refl), tt))))
    f.Key.name code.function (code.unfolded 𝓤 𝓛.H 𝓜 𝓡 wired)
    (λ κs. (rawptr_vals, ((λ _. heap_val ∷ []), (shr_slice_vals, (shr_slice_vals, tt))))) (λ κs. (rawptr_Tells, (heap_Tells, (shr_slice_Tells (named 0) κs.0 u8, (shr_slice_Tells (named 1) κs.1.0 u8, tt))))) (λ κs qs bounds a m are.
    let y : Ptr → W.Ghost = λ p_map. ((κs, qs, bounds, (p_map, (a.1.0, (a.1.1.0, (a.1.1.1.0, tt)))), (rawptr_vals p_map, (heap_val ∷ [], (shr_slice_vals a.1.1.0, (shr_slice_vals a.1.1.1.0, tt))))), m) in
    qed 𝓛 (((‵ (flft κs.0 qs.0) ⊛ ‵ (flft κs.1.0 qs.1.0) ⊛ ‵ ftrue) ⊛ ‵ (RawPtr.own_val a.0 (rawptr_vals a.0)) ⊛ ‵ (heap.the_row.own_val a.1.0 (heap_val ∷ [])) ⊛ ‵ ((ShrSlice (named 0) κs.0 u8).own_val a.1.1.0 (shr_slice_vals a.1.1.0)) ⊛ ‵ ((ShrSlice (named 1) κs.1.0 u8).own_val a.1.1.1.0 (shr_slice_vals a.1.1.1.0)) ⊛ ‵ ftrue) ∷ (‵ (lies_at R full_share a.0 m)) ∷ []) ∵
    split ! $
    split ! $
    move ! (1 ∷ []) $
    split ! $
    move ! (3 ∷ []) $
    split ! $
    move ! (1 ∷ []) $
    split ! $
    move ! (1 ∷ []) $
    split ! $
    move ! (1 ∷ []) $
    split ! $
    move ! (8 ∷ []) $
    keep ! (0 ∷ 4 ∷ 3 ∷ 1 ∷ 8 ∷ 6 ∷ []) $
    in_a_block ! a.0 (λ p. lies_at R full_share p m) (id⊢ 𝓤 _) (λ b_map o_map e_map.
    regoal ! (λ p. prop (WpFn 𝓤 𝓛.H 𝓣.C 𝓣.Λ code.function (ptr_val p ∷ heap_val ∷ slice_val a.1.1.0.ref_ptr (length a.1.1.0.now) ∷ slice_val a.1.1.1.0.ref_ptr (length a.1.1.1.0.now) ∷ []) (W.post (y p)))) e_map refl $
    enter ! _ _ _ _ _ $ alloc_all ! (λ l. pass_all ! refl ((tt, tt), ((tt, ((tt, tt), tt)), ((tt, (tt, (record { fits = are.1.1.0.0.1.0 }, tt))), ((tt, (tt, (record { fits = are.1.1.1.0.0.1.0 }, tt))), tt)))) $
    sets ! (of_opd ! (get ! refl)) refl (tt, tt) $ sets ! (addr ! (through ! refl (stop !))) refl (tt, tt) $
    lft_new ! tt (λ α_map.
    move ! (1 ∷ []) $
    use1 𝓛 (later (some (λ (γ : ℕ). ‵ ((MutRef (named 0) (α_map ∷ []) R).own_val (record { ref_ptr = (b_map, o_map); ghost_name = γ; now = m }) (vptr b_map o_map ∷ [])) ⊛ ‵ (flent (α_map ∷ []) (Body (mem R) b_map o_map γ))))) (lends_ref 𝓛 R (named 0) (α_map ∷ []) m b_map o_map) $ await ! tt $ pick ! (λ γ_map.
    split ! $
    let z : G.Ghost = (((α_map ∷ [], (κs.0, (κs.1.0, tt))), (full_share, (qs.0, (qs.1.0, tt))), tt, (record { ref_ptr = (b_map, o_map); ghost_name = γ_map; now = m }, (a.1.0, (a.1.1.0, (a.1.1.1.0, tt)))), (vptr b_map o_map ∷ [], (heap_val ∷ [], (shr_slice_vals a.1.1.0, (shr_slice_vals a.1.1.1.0, tt))))), tt) in
    nothing ! $
    move ! (6 ∷ 0 ∷ []) $
    join ! $
    move ! (5 ∷ 0 ∷ []) $
    join ! $
    move ! (4 ∷ 0 ∷ []) $
    join ! $
    move ! (1 ∷ 0 ∷ []) $
    join ! $
    nothing ! $
    move ! (5 ∷ 0 ∷ []) $
    join ! $
    move ! (4 ∷ 0 ∷ []) $
    join ! $
    move ! (3 ∷ 0 ∷ []) $
    join ! $
    join ! $
    nothing ! $
    move ! (1 ∷ 0 ∷ []) $
    use2 𝓛 (raw (G.pre z)) (id⊢ 𝓤 _) $
    calls_at ! (framed 𝓤 𝓛.H 𝓜 𝓣) G (g-met.met 𝓤 𝓛 𝓜 𝓡 (code.calls-c_map::texts::replace 𝓡.env wired)) z (and_then ! (get ! refl) (and_then ! (get ! refl) (and_then ! (get ! refl) (and_then ! (get ! refl) (no_more !))))) (λ u.
    use1 𝓛 (later (some (λ (r : Answered). ((‵ (flft (α_map ∷ []) full_share) ⊛ ‵ (flft κs.0 qs.0) ⊛ ‵ (flft κs.1.0 qs.1.0) ⊛ ‵ ftrue) ⊛ ‵ (Answer.the_row.own_val r (u ∷ []))) ⊛ some (λ (ws : Lasts g.ended z.0.0 z.0.3). ‵ (lasts g.ended z.0.0 z.0.3 ws) ⊛ raw (fact 𝓤 (Does m (commands.replace a.1.1.0.now a.1.1.1.0.now) (outcome r.status r.value) ws.0)))))) (id⊢ 𝓤 _) $
    await ! tt $ pick ! (λ r.
    split ! $
    split ! $
    split ! $
    lft_end ! tt $
    move ! (2 ∷ []) $
    peeks ! Answer.the_row (Is Answer.the_row) (shows 𝓛 Answer.the_row) r (u ∷ []) (λ is. lands_as ! refl refl ((laws.lawful Answer.the_type Answer'.the_laws 𝓛).typed r _ is).0 $
    move ! (3 ∷ []) $
    pick ! (λ ws.
    split ! $
    move ! (1 ∷ []) $
    heard ! _ (λ done_.
    fsplit ! $
    fsplit ! $
    move ! (4 ∷ 6 ∷ 0 ∷ []) $
    use3 𝓛 (later (‵ (part_at R full_share ws.0 b_map o_map))) (ref_back 𝓛 R (α_map ∷ []) γ_map ws.0 b_map o_map) $ await ! tt $
    returns ! (look_at ! 0 refl) $ free_all ! refl $
    keep ! (3 ∷ 4 ∷ 0 ∷ []) $
    suffices ! _ (ends_at 𝓛 f.ended stayed c (y (block_ptr b_map o_map)) u r (tt, (tt, (tt, (tt, tt)))) (tt, (tt, (tt, (tt, tt))))) $
    nothing ! $
    nothing ! $
    join ! $
    nothing ! $
    join ! $
    nothing ! $
    join ! $
    nothing ! $
    join ! $
    move ! (2 ∷ 0 ∷ 1 ∷ []) $
    group ! 3 $ frame ! $
    show ! (λ (n : Stored (List ℕ)). sep 𝓤 (sem 𝓛 (lies_at R full_share (block_ptr b_map o_map) n)) (fact 𝓤 (Does m (commands.replace a.1.1.0.now a.1.1.1.0.now) (outcome r.status r.value) n))) ws.0 $ says ! done_ $ done !))))))))))
