-- Written by tools/c_walks. `tambyulo_page_from` meets its contract: what lies behind a pointer is lent to the call, and comes back.
use Rattle.tambyulo_c.proofs.Steps.{◌≡◌, ℕ, [], ◌∷◌, length, refl, w64, proved, full_share, id⊢, sep, ftrue, flft, flent, named, vptr, vint, fact, tables, WpFn, sem, Body, lft_new, lft_end, ‵, raw, ◌⊛◌, some, later, prop, ◌$◌, ◌∵◌, !, qed, done, move, keep, use1, use2, use3, split, join, fsplit, pick, await, regoal, suffices, frame, group, show, feq_l, fjoin, sub, whole, agg, from, fld, hop, enter, of_opd, addr, stop, no_more, and_then, returns, look_in_at, get_in, alloc_all, pass_all, free_all, look_at, get, through, sets, lands_as, u8, u64, yes, RattleType, Is, shows, lends_ref, ref_back, mem, part_at, uint_vals, uint_Tells, Ptr, RawPtr, block_ptr, ptr_val, lies_at, in_a_block, rawptr_vals, rawptr_Tells, MutRef, plain, MutSlice, slice_val, mut_slice_vals, mut_slice_Tells, nothing, heard, peeks, calls_at, Lasts, lasts, triple_of, Stays, walk_of, says, stay_dropped, Goes-dropped, gave_slice, Goes-gave_slice, ends_at, framed}
use denote.Struct.Laws as laws
use Rattle.c_map.specs.contracts.answer.Page as Page
use Rattle.c_map.proofs.answer.Page.TheLaws as Page'
use Rattle.c_map.specs.declared.answer.Page.{Page as Paged}
use Rattle.tambyulo_c.specs.Rows as rows
use Rattle.c_map.specs.Numbers.{IsPage}
use Rattle.c_map.specs.Stored.{Stored}
use Rattle.tambyulo_c.specs.contracts.exported_numbers.tambyulo_page_from as f
use Rattle.tambyulo_c.proofs.exported_numbers.tambyulo_page_from.Statement.{statement}
use Rattle.tambyulo_c.proofs.exported_numbers.tambyulo_page_from.Code as code
use Rattle.c_map.specs.contracts.numbers.page_from as g
use Rattle.c_map.proofs.numbers.page_from.Met as g-met

abbrev R : RattleType
R = rows.numbers

abbrev stayed : Stays f.ended.signature.params f.ended.kept
stayed = (stay_dropped _ yes, (stay_dropped _ yes, (gave_slice (0 ∷ []) tt (plain (λ _. u8)), tt)))

pub tambyulo_page_from_spec : {M : Type 1} → statement M
tambyulo_page_from_spec 𝓤 𝓛 𝓜 𝓡 wired =
    let c = f.clauses 𝓛 𝓜.mem 𝓡.returns in let W = walk_of 𝓛 f.ended stayed c in let 𝓣 = tables 𝓤 𝓛.H 𝓜 𝓡 𝓡.env in
    let G = triple_of 𝓛 g.signature (g.spec 𝓛 𝓜.mem 𝓡.returns) in
    proved 𝓛 f.ended stayed c 𝓜 𝓡 (Goes-dropped 𝓛 1 (plain (λ _. RawPtr)) yes (λ κs x w. refl), (Goes-dropped 𝓛 1 (plain (λ _. u64)) yes (λ κs x w. refl), (Goes-gave_slice 𝓛 1 0 tt (plain (λ _. u8)), tt)))
    f.Key.name code.function (code.unfolded 𝓤 𝓛.H 𝓜 𝓡 wired)
    (λ κs. (rawptr_vals, (uint_vals w64, (mut_slice_vals, tt)))) (λ κs. (rawptr_Tells, (uint_Tells w64, (mut_slice_Tells (named 0) κs.0 u8, tt)))) (λ κs qs bounds a m are.
    let y : Ptr → W.Ghost = λ p_map. ((κs, qs, bounds, (p_map, (a.1.0, (a.1.1.0, tt))), (rawptr_vals p_map, (uint_vals w64 a.1.0, (mut_slice_vals a.1.1.0, tt)))), m) in
    qed 𝓛 (((‵ (flft κs.0 qs.0) ⊛ ‵ ftrue) ⊛ ‵ (RawPtr.own_val a.0 (rawptr_vals a.0)) ⊛ ‵ (u64.own_val a.1.0 (uint_vals w64 a.1.0)) ⊛ ‵ ((MutSlice (named 0) κs.0 u8).own_val a.1.1.0 (mut_slice_vals a.1.1.0)) ⊛ ‵ ftrue) ∷ (‵ (lies_at R full_share a.0 m)) ∷ []) ∵
    split ! $
    split ! $
    move ! (2 ∷ []) $
    split ! $
    move ! (1 ∷ []) $
    split ! $
    move ! (1 ∷ []) $
    split ! $
    move ! (6 ∷ []) $
    keep ! (0 ∷ 3 ∷ 1 ∷ 5 ∷ []) $
    in_a_block ! a.0 (λ p. lies_at R full_share p m) (id⊢ 𝓤 _) (λ b_map o_map e_map.
    regoal ! (λ p. prop (WpFn 𝓤 𝓛.H 𝓣.C 𝓣.Λ code.function (ptr_val p ∷ vint w64 a.1.0 ∷ slice_val a.1.1.0.ref_ptr (length a.1.1.0.now) ∷ []) (W.post (y p)))) e_map refl $
    enter ! _ _ _ _ _ $ alloc_all ! (λ l. pass_all ! refl ((tt, tt), ((tt, record { fits = are.1.0.1 }), ((tt, (tt, (record { fits = are.1.1.0.0.1.0 }, tt))), tt))) $
    sets ! (of_opd ! (get ! refl)) refl (tt, tt) $ sets ! (addr ! (through ! refl (stop !))) refl (tt, tt) $
    sets ! (addr ! (from ! (fld ! refl (hop ! (look_in_at ! 3 (sub ! 0 refl (whole !))) (stop !))))) refl (tt, tt) $
    sets ! (agg ! (and_then ! (get ! refl) (and_then ! (get_in ! (fld ! refl (stop !)) (sub ! 1 refl (whole !))) (no_more !)))) refl (tt, (tt, (record { fits = are.1.1.0.0.1.0 }, tt))) $
    lft_new ! tt (λ α_map.
    move ! (1 ∷ []) $
    use1 𝓛 (later (some (λ (γ : ℕ). ‵ ((MutRef (named 0) (α_map ∷ []) R).own_val (record { ref_ptr = (b_map, o_map); ghost_name = γ; now = m }) (vptr b_map o_map ∷ [])) ⊛ ‵ (flent (α_map ∷ []) (Body (mem R) b_map o_map γ))))) (lends_ref 𝓛 R (named 0) (α_map ∷ []) m b_map o_map) $ await ! tt $ pick ! (λ γ_map.
    split ! $
    let z : G.Ghost = (((α_map ∷ [], (κs.0, tt)), (full_share, (qs.0, tt)), tt, (record { ref_ptr = (b_map, o_map); ghost_name = γ_map; now = m }, (a.1.0, (a.1.1.0, tt))), (vptr b_map o_map ∷ [], (uint_vals w64 a.1.0, (mut_slice_vals a.1.1.0, tt)))), tt) in
    nothing ! $
    move ! (5 ∷ 0 ∷ []) $
    join ! $
    move ! (4 ∷ 0 ∷ []) $
    join ! $
    move ! (1 ∷ 0 ∷ []) $
    join ! $
    nothing ! $
    move ! (4 ∷ 0 ∷ []) $
    join ! $
    move ! (3 ∷ 0 ∷ []) $
    join ! $
    join ! $
    nothing ! $
    move ! (1 ∷ 0 ∷ []) $
    use2 𝓛 (raw (G.pre z)) (id⊢ 𝓤 _) $
    calls_at ! (framed 𝓤 𝓛.H 𝓜 𝓣) G (g-met.met 𝓤 𝓛 𝓜 𝓡 (code.calls-c_map::numbers::page_from 𝓡.env wired)) z (and_then ! (get ! refl) (and_then ! (get ! refl) (and_then ! (get ! refl) (no_more !)))) (λ u.
    use1 𝓛 (later (some (λ (r : Paged). ((‵ (flft (α_map ∷ []) full_share) ⊛ ‵ (flft κs.0 qs.0) ⊛ ‵ ftrue) ⊛ ‵ (Page.the_row.own_val r (u ∷ []))) ⊛ some (λ (ws : Lasts g.ended z.0.0 z.0.3). ‵ (lasts g.ended z.0.0 z.0.3 ws) ⊛ raw (fact 𝓤 ((ws.0 ≡ m) × IsPage m a.1.0 a.1.1.0.now r ws.1.1.0)))))) (id⊢ 𝓤 _) $
    await ! tt $ pick ! (λ r.
    split ! $
    split ! $
    split ! $
    lft_end ! tt $
    move ! (2 ∷ []) $
    peeks ! Page.the_row (Is Page.the_row) (shows 𝓛 Page.the_row) r (u ∷ []) (λ is. lands_as ! refl refl ((laws.lawful Page.the_type Page'.the_laws 𝓛).typed r _ is).0 $
    move ! (3 ∷ []) $
    pick ! (λ ws.
    split ! $
    move ! (1 ∷ []) $
    heard ! _ (λ done_.
    fsplit ! $
    fsplit ! $
    move ! (4 ∷ 6 ∷ 0 ∷ []) $
    use3 𝓛 (later (‵ (part_at R full_share ws.0 b_map o_map))) (ref_back 𝓛 R (α_map ∷ []) γ_map ws.0 b_map o_map) $ await ! tt $
    move ! (2 ∷ []) $
    fsplit ! $
    move ! (1 ∷ []) $
    fsplit ! $
    fsplit ! $
    fsplit ! $
    move ! (1 ∷ []) $
    feq_l ! (λ same.
    fjoin ! $
    returns ! (look_at ! 0 refl) $ free_all ! refl $
    keep ! (5 ∷ 6 ∷ 0 ∷ 3 ∷ []) $
    suffices ! _ (ends_at 𝓛 f.ended stayed c (y (block_ptr b_map o_map)) u r (tt, (tt, (ws.1.1.0, tt))) (tt, (tt, (same, tt)))) $
    nothing ! $
    move ! (3 ∷ 0 ∷ []) $
    join ! $
    nothing ! $
    join ! $
    nothing ! $
    join ! $
    move ! (2 ∷ 0 ∷ 1 ∷ []) $
    group ! 3 $ frame ! $
    show ! (λ (n : Stored ℕ). sep 𝓤 (sem 𝓛 (lies_at R full_share (block_ptr b_map o_map) n)) (fact 𝓤 ((n ≡ m) × IsPage m a.1.0 a.1.1.0.now r ws.1.1.0))) ws.0 $ says ! done_ $ done !)))))))))))
