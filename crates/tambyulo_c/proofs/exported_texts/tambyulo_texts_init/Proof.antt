-- Written by tools/c_walks. `tambyulo_texts_init` meets its contract: the map that the call returns is written into the room.
use Rattle.tambyulo_c.proofs.Steps.{◌≡◌, ℕ, List, [], ◌∷◌, refl, proved, full_share, id⊢, sep, ftrue, vunit, part_in, fact, tables, WpFn, sem, ‵, raw, ◌⊛◌, some, later, prop, ◌$◌, ◌∵◌, !, qed, done, move, drop, use1, use2, split, join, pick, await, regoal, suffices, frame, group, show, feq_i, enter, of_opd, unit_lit, assigns, init, stop, no_more, returns, alloc_all, pass_all, free_all, look_at, get, through, sets, lands_as, yes, RattleType, Is, shows, part_at, Ptr, RawPtr, block_ptr, lies_at, room_at, in_a_block, rawptr_vals, rawptr_Tells, plain, nothing, heard, peeks, calls_at, Lasts, lasts, on_entry, triple_of, Stays, walk_of, says, stay_dropped, Goes-dropped, ends_at, framed}
use Rattle.tambyulo_c.specs.Rows as rows
use Rattle.tambyulo_c.proofs.RowLaws as row_laws
use Rattle.c_map.specs.Stored.{Stored}
use Rattle.versions.specs.declared.version.TheConstants.{MOST_PAIRS}
use Rattle.tambyulo_c.specs.contracts.exported_texts.tambyulo_texts_init as f
use Rattle.tambyulo_c.proofs.exported_texts.tambyulo_texts_init.Statement.{statement}
use Rattle.tambyulo_c.proofs.exported_texts.tambyulo_texts_init.Code as code
use Rattle.c_map.specs.contracts.texts.new as g
use Rattle.c_map.proofs.texts.new.Met as g-met

abbrev R : RattleType
R = rows.texts

abbrev stayed : Stays f.ended.signature.params f.ended.kept
stayed = (stay_dropped _ yes, tt)

pub tambyulo_texts_init_spec : {M : Type 1} → statement M
tambyulo_texts_init_spec 𝓤 𝓛 𝓜 𝓡 wired =
    let c = f.clauses 𝓛 𝓜.mem 𝓡.returns in let W = walk_of 𝓛 f.ended stayed c in let 𝓣 = tables 𝓤 𝓛.H 𝓜 𝓡 𝓡.env in
    let G = triple_of 𝓛 g.signature (g.spec 𝓛 𝓜.mem 𝓡.returns) in
    proved 𝓛 f.ended stayed c 𝓜 𝓡 (Goes-dropped 𝓛 0 (plain (λ _. RawPtr)) yes (λ κs x w. refl), tt)
    f.Key.name code.function (code.unfolded 𝓤 𝓛.H 𝓜 𝓡 wired)
    (λ κs. (rawptr_vals, tt)) (λ κs. (rawptr_Tells, tt)) (λ κs qs bounds a m are.
    let y : Ptr → W.Ghost = λ p. ((κs, qs, bounds, (p, tt), (rawptr_vals p, tt)), m) in
    let z : G.Ghost = ((tt, tt, tt, tt, tt), tt) in
    qed 𝓛 (raw (on_entry 𝓛 f.signature κs qs a (y a.0).0.4) ∷ ‵ (room_at R a.0) ∷ []) ∵ drop ! $
    in_a_block ! a.0 (λ p. room_at R p) (id⊢ 𝓤 _) (λ b o e.
    regoal ! (λ p. prop (WpFn 𝓤 𝓛.H 𝓣.C 𝓣.Λ code.function (rawptr_vals p) (W.post (y p)))) e refl $
    enter ! _ _ _ _ _ $ alloc_all ! (λ l. pass_all ! refl ((tt, tt), tt) $
    sets ! (of_opd ! (get ! refl)) refl (tt, tt) $
    nothing ! $ nothing ! $ join ! $ nothing ! $ move ! (1 ∷ 0 ∷ []) $ use2 𝓛 (raw (G.pre z)) (id⊢ 𝓤 _) $
    calls_at ! (framed 𝓤 𝓛.H 𝓜 𝓣) G (g-met.met 𝓤 𝓛 𝓜 𝓡 (code.calls-c_map::texts::new 𝓡.env wired)) z (no_more !) (λ u.
    use1 𝓛 (later (some (λ (r : Stored (List ℕ)). (‵ ftrue ⊛ ‵ (R.own_val r (u ∷ []))) ⊛ some (λ (ws : Lasts g.ended z.0.0 z.0.3). ‵ (lasts g.ended z.0.0 z.0.3 ws) ⊛ raw (fact 𝓤 ((r.entries ≡ []) × (r.limit ≡ MOST_PAIRS))))))) (id⊢ 𝓤 _) $
    await ! tt $ pick ! (λ r. split ! $ split ! $ drop ! $
    peeks ! R (Is R) (shows 𝓛 R) r (u ∷ []) (λ is. lands_as ! refl refl ((row_laws.texts.lawful 𝓛).typed r (u ∷ []) is).0 $
    move ! (1 ∷ []) $ pick ! (λ ws. split ! $ drop ! $ heard ! _ (λ done_.
    -- [what the map owns; the room; the locals]
    assigns ! (of_opd ! (get ! refl)) (through ! refl (stop !)) (init ! 1 refl ((row_laws.texts.lawful 𝓛).typed r (u ∷ []) is).0) $
    sets ! (of_opd ! (unit_lit !)) refl (tt, tt) $
    returns ! (look_at ! 0 refl) $ free_all ! refl $
    move ! (1 ∷ 0 ∷ []) $ use2 𝓛 (‵ (part_at R full_share r b o)) (part_in 𝓛 R refl full_share r b o u) $
    suffices ! _ (ends_at 𝓛 f.ended stayed c (y (block_ptr b o)) vunit tt (tt, tt) (tt, tt)) $
    feq_i ! _ (vunit ∷ []) _ refl $ nothing ! $ nothing ! $ join ! $ nothing ! $ group ! 3 $ frame ! $
    show ! (λ (n : Stored (List ℕ)). sep 𝓤 (sem 𝓛 (lies_at R full_share (block_ptr b o) n)) (fact 𝓤 ((n.entries ≡ []) × (n.limit ≡ MOST_PAIRS)))) r $ says ! done_ $ done !))))))))
