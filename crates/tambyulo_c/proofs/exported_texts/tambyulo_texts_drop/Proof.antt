-- Written by tools/c_walks. `tambyulo_texts_drop` meets its contract: the map is read out of its memory, which is room again, and passed on.
use Rattle.tambyulo_c.proofs.Steps.{[], ◌∷◌, refl, ap, proved, full_share, id⊢, ftrue, fat, Val, vunit, part_out, tables, WpFn, ‵, raw, ◌⊛◌, some, later, prop, ◌$◌, ◌∵◌, !, qed, done, move, drop, use1, use2, split, join, pick, await, regoal, suffices, group, feq_i, feq_l, enter, of_opd, unit_lit, load, look, stop, no_more, and_then, returns, alloc_all, pass_all, free_all, look_at, get, through, sets, lands_as, unit, yes, RattleType, Is, shows, lone, Ptr, RawPtr, block_ptr, lies_at, room_at, in_a_block, rawptr_vals, rawptr_Tells, plain, nothing, peeks, only, calls_at, ensured, on_entry, triple_of, Stays, walk_of, stay_dropped, Goes-dropped, ends_at, framed}
use Rattle.tambyulo_c.specs.Rows as rows
use Rattle.tambyulo_c.proofs.RowLaws as row_laws
use Rattle.tambyulo_c.specs.contracts.exported_texts.tambyulo_texts_drop as f
use Rattle.tambyulo_c.proofs.exported_texts.tambyulo_texts_drop.Statement.{statement}
use Rattle.tambyulo_c.proofs.exported_texts.tambyulo_texts_drop.Code as code
use Rattle.c_map.specs.contracts.texts.finish as g
use Rattle.c_map.proofs.texts.finish.Met as g-met

abbrev R : RattleType
R = rows.texts

abbrev stayed : Stays f.ended.signature.params f.ended.kept
stayed = (stay_dropped _ yes, tt)

pub tambyulo_texts_drop_spec : {M : Type 1} → statement M
tambyulo_texts_drop_spec 𝓤 𝓛 𝓜 𝓡 wired =
    let c = f.clauses 𝓛 𝓜.mem 𝓡.returns in let W = walk_of 𝓛 f.ended stayed c in let 𝓣 = tables 𝓤 𝓛.H 𝓜 𝓡 𝓡.env in
    let G = triple_of 𝓛 g.signature (g.spec 𝓛 𝓜.mem 𝓡.returns) in
    proved 𝓛 f.ended stayed c 𝓜 𝓡 (Goes-dropped 𝓛 0 (plain (λ _. RawPtr)) yes (λ κs x w. refl), tt)
    f.Key.name code.function (code.unfolded 𝓤 𝓛.H 𝓜 𝓡 wired)
    (λ κs. (rawptr_vals, tt)) (λ κs. (rawptr_Tells, tt)) (λ κs qs bounds a m are.
    let y : Ptr → W.Ghost = λ p. ((κs, qs, bounds, (p, tt), (rawptr_vals p, tt)), m) in
    qed 𝓛 (raw (on_entry 𝓛 f.signature κs qs a (y a.0).0.4) ∷ ‵ (lies_at R full_share a.0 m) ∷ []) ∵ drop ! $
    in_a_block ! a.0 (λ p. lies_at R full_share p m) (id⊢ 𝓤 _) (λ b o e.
    regoal ! (λ p. prop (WpFn 𝓤 𝓛.H 𝓣.C 𝓣.Λ code.function (rawptr_vals p) (W.post (y p)))) e refl $
    enter ! _ _ _ _ _ $ alloc_all ! (λ l. pass_all ! refl ((tt, tt), tt) $
    use1 𝓛 (some (λ (v : Val). ‵ (fat full_share (lone R.mir) b o v) ⊛ ‵ (R.own_val m (v ∷ [])))) (part_out 𝓛 R refl full_share m b o) $ pick ! (λ v. split ! $
    move ! (1 ∷ []) $ peeks ! R (Is R) (shows 𝓛 R) m (v ∷ []) (λ is.
    -- [what the map owns; its cell; the locals]
    sets ! (of_opd ! (get ! refl)) refl (tt, tt) $
    sets ! (of_opd ! (load ! (through ! refl (stop !)) (look ! 1 refl))) refl ((row_laws.texts.lawful 𝓛).typed m (v ∷ []) is).0 $
    let z : G.Ghost = ((tt, tt, tt, (m, tt), (v ∷ [], tt)), tt) in
    nothing ! $ move ! (1 ∷ 0 ∷ []) $ join ! $ nothing ! $ join ! $ nothing ! $ move ! (1 ∷ 0 ∷ []) $ use2 𝓛 (raw (G.pre z)) (id⊢ 𝓤 _) $
    calls_at ! (framed 𝓤 𝓛.H 𝓜 𝓣) G (g-met.met 𝓤 𝓛 𝓜 𝓡 (code.calls-c_map::texts::finish 𝓡.env wired)) z (and_then ! (get ! refl) (no_more !)) (λ u.
    use1 𝓛 (later (some (λ (r : Unit {0}). (‵ ftrue ⊛ ‵ (unit.own_val r (u ∷ []))) ⊛ raw (ensured 𝓛 g.ended (g.clauses 𝓛 𝓜.mem 𝓡.returns) tt (m, tt) tt r)))) (id⊢ 𝓤 _) $
    await ! tt $ pick ! (λ r. split ! $ split ! $ drop ! $ feq_l ! (λ is_unit. drop ! $ lands_as ! (ap only is_unit) refl (tt, tt) $
    sets ! (of_opd ! (unit_lit !)) refl (tt, tt) $
    returns ! (look_at ! 0 refl) $ free_all ! refl $
    use1 𝓛 (‵ (room_at R (block_ptr b o))) (𝓛.laws.at_room (lone R.mir) b o v) $
    suffices ! _ (ends_at 𝓛 f.ended stayed c (y (block_ptr b o)) vunit tt (tt, tt) (tt, tt)) $
    feq_i ! _ (vunit ∷ []) _ refl $ nothing ! $ nothing ! $ join ! $ nothing ! $ group ! 3 $ done !))))))))
