-- `turn` opens the book, counts the cells up and adds the entries; no code runs.
use Rattle.std.proofs.Common.{ℕ, length, List, [], ◌∷◌, refl}
use mir.Syntax.{a_type, dcons, dnil, named}
use mir.Val.{Val, vunit, vptr}
use mir.MapTy.{inst_fn}
use base.Logic.{SProp, emp}
use base.Fml.{Fml, ftrue, fsep, flft}
use types.Kit.{‵, raw, ◌⊛◌, some, given, later, ◌$◌, ◌∵◌, !, qed, by, move, keep, drop, split, fsplit, fsplit3, fjoin, fjoin3, pick, learn, use2, await, feq_i}
use types.Run.{unit_lit, of_opd, returns, enter}
use types.ByLocal.{alloc_all, pass_all, free_all, look_at, sets, env}
use contract.Monad.{fact, fact_i}
use contract.Running.{tables}
use denote.Exit.{yes}
use denote.RattleType.{RattleType, owns}
use denote.Signature.{types_at, plain}
use denote.Builtin.{RefOf}
use denote.Ref.{mut_vals, mut_Tells, shr_vals, shr_Tells}
use denote.Steps.{nothing, opens, closes}
use denote.Param.{param, bounded}
use denote.Struct.Tuple.{Tuple}
use denote.Triple.Walked.{Stays, stay_dropped, stay_ref, walk_of, Goes-dropped, Goes-ref}
use Rattle.atomic_table.proofs.Walks.{proved}
use Rattle.logbook.specs.Kept.{rules, seen_owns}
use Rattle.logbook.specs.contracts.tokens.Seen as Seen
use Rattle.ghost_log.specs.contracts.Rights as Rights
use Rattle.logbook.proofs.Fields.{ends}
use Rattle.ghost_log.specs.contracts.turn.{ended, clauses}
use Rattle.ghost_log.specs.contracts.turn.Key.{name as #self}
use Rattle.ghost_log.specs.Cells.{Count, counted, rights_own}
use Rattle.ghost_log.specs.Turns.{Turned}
use Rattle.ghost_log.proofs.Turning as turning
use Rattle.ghost_log.proofs.turn.Statement.{statement}
use Rattle.ghost_log.proofs.turn.Code as code

pub turn_spec : {M : Type 1} → statement M
turn_spec 𝓤 𝓛 𝓜 𝓡 wired E A P X N _ _ _ _ _ g d gn dn _ _ =
    let H = 𝓛.H in let 𝓣 = tables 𝓤 H 𝓜 𝓡 𝓡.env in let E' : RattleType = param 0 E in let A' : RattleType = param 1 A in let P' : RattleType = param 2 P in let X' : RattleType = param 3 X in let En = ended E A P X N g d gn dn in
    let inst = bounded (a_type ∷ a_type ∷ a_type ∷ a_type ∷ a_type ∷ []) (E, (A, (P, (X, (N, tt))))) (dcons d (dcons dn dnil)) in let fn = inst_fn inst code.function in let c = clauses E A P X N g d gn dn 𝓛 𝓜.mem 𝓡.returns in
    let rule = rules g.holds g.shows g.keeps in let cv = E'.coded in let All : RattleType = Tuple (E' ∷ A' ∷ P' ∷ []) in let Sn : RattleType = Seen.the_row E' A' P' g in let Pn : RattleType = Rights.the_row in
    let hs : Stays En.signature.params En.kept = (stay_ref (0 ∷ []) tt (plain (λ _. Sn)), (stay_ref (1 ∷ []) tt (plain (λ _. Pn)), (stay_dropped (RefOf (2 ∷ []) tt (plain (λ _. X')) (λ _. tt)) yes, tt))) in
    proved 𝓛 En hs c 𝓜 𝓡 (Goes-ref 𝓛 8 0 tt (plain (λ _. Sn)), (Goes-ref 𝓛 8 1 tt (plain (λ _. Pn)), (Goes-dropped 𝓛 8 (RefOf (2 ∷ []) tt (plain (λ _. X')) (λ _. tt)) yes (λ κs x f. refl), tt))) (#self inst) fn (code.unfolded 𝓤 H 𝓜 𝓡 wired (E, (A, (P, (X, (N, tt))))) d dn)
    (λ κs. (mut_vals, (mut_vals, (shr_vals, tt)))) (λ κs. (mut_Tells (named 0) κs.0 Sn, (mut_Tells (named 1) κs.1.0 Pn, (shr_Tells (named 2) κs.1.1.0 X', tt)))) (λ κs qs bounds a gh are.
    let me = a.0.now in let right = a.1.0.now in let more : List E.Denot = gn.adds a.1.1.0.now in let cells' : List Count = counted (length more) right.cells in
    let b₀ : ℕ = a.0.ref_ptr.0 in let o₀ : ℕ = a.0.ref_ptr.1 in let b₁ : ℕ = a.1.0.ref_ptr.0 in let o₁ : ℕ = a.1.0.ref_ptr.1 in
    let at₀ : Val = vptr b₀ o₀ in let at₁ : Val = vptr b₁ o₁ in let at₂ : Val = vptr a.1.1.0.ref_ptr.0 a.1.1.0.ref_ptr.1 in
    let y : (walk_of 𝓛 En hs c).Ghost = ((κs, qs, bounds, a, (at₀ ∷ [], (at₁ ∷ [], (at₂ ∷ [], tt)))), gh) in let Post : Val → SProp 𝓤 = (walk_of 𝓛 En hs c).post y in
    let toks : Fml = fsep (flft κs.0 qs.0) (fsep (flft κs.1.0 qs.1.0) (fsep (flft κs.1.1.0 qs.1.1.0) (fsep (flft κs.1.1.1.0 qs.1.1.1.0) (fsep (flft κs.1.1.1.1.0 qs.1.1.1.1.0) (fsep (flft κs.1.1.1.1.1.0 qs.1.1.1.1.1.0) (fsep (flft κs.1.1.1.1.1.1.0 qs.1.1.1.1.1.1.0) (fsep (flft κs.1.1.1.1.1.1.1.0 qs.1.1.1.1.1.1.1.0) ftrue))))))) in
    qed 𝓛 ((‵ toks ⊛ ‵ (owns (types_at En.signature.params κs) a y.0.4)) ∷ raw (fact 𝓤 _) ∷ raw (fact 𝓤 _) ∷ raw (fact 𝓤 _) ∷ raw (fact 𝓤 _) ∷ raw (fact 𝓤 _) ∷ given _ (‵ ftrue) ∷ []) ∵ keep ! (6 ∷ 0 ∷ []) $ learn ! (λ asked. drop ! $ split ! $
    -- [what the first reference owns, in three; the second's; the tokens]
    fsplit ! $ move ! (1 ∷ []) $ fsplit ! $ move ! (3 ∷ []) $ fsplit ! $ fsplit3 ! $ move ! (3 ∷ []) $ fsplit ! $ fsplit3 ! $ keep ! (1 ∷ 2 ∷ 5 ∷ 6 ∷ 7 ∷ 8 ∷ 9 ∷ []) $
    enter ! 𝓣.C 𝓣.Λ fn (at₀ ∷ at₁ ∷ at₂ ∷ []) Post $ alloc_all ! (λ l. pass_all ! refl ((tt, tt), ((tt, tt), ((tt, tt), tt))) $ let Ev = env fn.locals l in
    -- [the pen's cell, its borrow; the other's; token 1; other tokens; token 0]
    move ! (2 ∷ 3 ∷ 6 ∷ []) $ opens ! tt Sn b₀ o₀ (λ vs₀. move ! (1 ∷ []) $ fsplit ! $ move ! (1 ∷ []) $
    move ! (6 ∷ 7 ∷ 8 ∷ []) $ opens ! tt Pn b₁ o₁ (λ vs₁. move ! (1 ∷ []) $ fsplit ! $
    move ! (6 ∷ 1 ∷ []) $
    use2 𝓛 (later (some (λ (log : List E.Denot). given (Turned g.holds right.cells me.log more log) (‵ (seen_owns cv.code rule me.book me.names log) ⊛ ‵ (rights_own right.book.cells_name cells')))))
    (turning.turns 𝓛 cv rule me.book me.names right.book right.cells me.log more asked) $ await ! tt $ pick ! (λ log. learn ! (λ so. split ! $
    let s' : Sn.Denot = record { marker = record {}; book = me.book; names = me.names; log = log } in let p' : Pn.Denot = record { marker = record {}; book = right.book; cells = cells' } in
    move ! (7 ∷ 0 ∷ []) $ fjoin ! $ move ! (7 ∷ 0 ∷ 8 ∷ 9 ∷ 10 ∷ []) $ closes ! tt Sn s' vs₀ b₀ o₀ $
    move ! (4 ∷ 3 ∷ []) $ fjoin ! $ move ! (4 ∷ 0 ∷ 5 ∷ 6 ∷ 7 ∷ []) $ closes ! tt Pn p' vs₁ b₁ o₁ $
    sets ! (of_opd ! (unit_lit !)) refl (tt, tt) $ feq_i ! (List Val) (vunit ∷ []) (vunit ∷ []) refl $
    move ! (3 ∷ 7 ∷ []) $ fjoin ! $ move ! (6 ∷ 0 ∷ []) $ fjoin ! $ nothing ! $ nothing ! $ fjoin ! $
    feq_i ! (List Val) (at₁ ∷ []) (at₁ ∷ []) refl $ move ! (0 ∷ 4 ∷ 5 ∷ []) $ fjoin3 ! $ fjoin ! $
    feq_i ! (List Val) (at₀ ∷ []) (at₀ ∷ []) refl $ move ! (0 ∷ 4 ∷ 5 ∷ []) $ fjoin3 ! $ fjoin ! $
    returns ! (look_at ! 0 refl) $ free_all ! refl $ keep ! (1 ∷ 0 ∷ 2 ∷ []) $ by ! (ends 𝓛 En hs c y vunit tt (s', (p', (tt, tt))) (tt, (tt, (tt, tt))) (fact_i 𝓤 _ (emp 𝓤) (refl, refl, refl, refl, so))))))))))
