-- `deal` shares out what both own; no code runs.
use Rattle.std.proofs.Common.{ℕ, List, [], ◌∷◌, refl}
use mir.Syntax.{a_type, dcons, dnil, named}
use mir.Val.{Val, vunit, vptr}
use mir.MapTy.{inst_fn}
use base.Logic.{SProp, emp}
use base.Fml.{Fml, ftrue, fsep, flft}
use types.Kit.{‵, raw, ◌⊛◌, given, ◌$◌, ◌∵◌, !, qed, by, move, keep, drop, split, fsplit, fsplit3, fjoin, fjoin3, learn, use2, feq_i}
use types.Run.{unit_lit, of_opd, returns, enter}
use types.ByLocal.{alloc_all, pass_all, free_all, look_at, sets, env}
use contract.Monad.{fact, fact_i}
use contract.Running.{tables}
use denote.RattleType.{RattleType, owns}
use denote.Signature.{types_at, plain}
use denote.Ref.{mut_vals, mut_Tells}
use denote.Steps.{nothing, opens, closes}
use denote.Param.{bounded}
use denote.Triple.Walked.{Stays, stay_ref, walk_of, Goes-ref}
use Rattle.atomic_table.proofs.Walks.{proved}
use Rattle.ghost_log.specs.contracts.Rights as Rights
use Rattle.logbook.proofs.Fields.{ends}
use Rattle.ghost_log.specs.contracts.Rights.deal.{ended, clauses}
use Rattle.ghost_log.specs.contracts.Rights.deal.Key.{name as #self}
use Rattle.ghost_log.specs.Cells.{Count, rights_own}
use Rattle.ghost_log.proofs.Turning as turning
use Rattle.ghost_log.proofs.Rights.deal.Statement.{statement}
use Rattle.ghost_log.proofs.Rights.deal.Code as code

pub deal_spec : {M : Type 1} → statement M
deal_spec 𝓤 𝓛 𝓜 𝓡 wired N _ g d _ =
    let H = 𝓛.H in let 𝓣 = tables 𝓤 H 𝓜 𝓡 𝓡.env in let En = ended N g d in let Rn : RattleType = Rights.the_row in
    let inst = bounded (a_type ∷ []) (N, tt) (dcons d dnil) in let fn = inst_fn inst code.function in let c = clauses N g d 𝓛 𝓜.mem 𝓡.returns in
    let hs : Stays En.signature.params En.kept = (stay_ref (0 ∷ []) tt (plain (λ _. Rn)), (stay_ref (1 ∷ []) tt (plain (λ _. Rn)), tt)) in
    proved 𝓛 En hs c 𝓜 𝓡 (Goes-ref 𝓛 3 0 tt (plain (λ _. Rn)), (Goes-ref 𝓛 3 1 tt (plain (λ _. Rn)), tt)) (#self inst) fn (code.unfolded 𝓤 H 𝓜 𝓡 wired (N, tt) d)
    (λ κs. (mut_vals, (mut_vals, tt))) (λ κs. (mut_Tells (named 0) κs.0 Rn, (mut_Tells (named 1) κs.1.0 Rn, tt))) (λ κs qs bounds a gh are.
    let mine = a.0.now in let yours = a.1.0.now in let xs : List Count = g.mine mine.cells yours.cells in let ys : List Count = g.other mine.cells yours.cells in
    let b₀ : ℕ = a.0.ref_ptr.0 in let o₀ : ℕ = a.0.ref_ptr.1 in let b₁ : ℕ = a.1.0.ref_ptr.0 in let o₁ : ℕ = a.1.0.ref_ptr.1 in
    let at₀ : Val = vptr b₀ o₀ in let at₁ : Val = vptr b₁ o₁ in
    let y : (walk_of 𝓛 En hs c).Ghost = ((κs, qs, bounds, a, (at₀ ∷ [], (at₁ ∷ [], tt))), gh) in let Post : Val → SProp 𝓤 = (walk_of 𝓛 En hs c).post y in
    let toks : Fml = fsep (flft κs.0 qs.0) (fsep (flft κs.1.0 qs.1.0) (fsep (flft κs.1.1.0 qs.1.1.0) ftrue)) in
    qed 𝓛 ((‵ toks ⊛ ‵ (owns (types_at En.signature.params κs) a y.0.4)) ∷ raw (fact 𝓤 _) ∷ given _ (‵ ftrue) ∷ given _ (‵ ftrue) ∷ []) ∵ keep ! (2 ∷ 3 ∷ 0 ∷ []) $ learn ! (λ books. drop ! $ learn ! (λ all. drop ! $ split ! $
    -- [what the first reference owns, in three; the second's; the tokens]
    fsplit ! $ move ! (1 ∷ []) $ fsplit ! $ move ! (3 ∷ []) $ fsplit ! $ fsplit3 ! $ move ! (3 ∷ []) $ fsplit ! $ fsplit3 ! $ keep ! (1 ∷ 2 ∷ 5 ∷ 6 ∷ 7 ∷ 8 ∷ 9 ∷ []) $
    enter ! 𝓣.C 𝓣.Λ fn (at₀ ∷ at₁ ∷ []) Post $ alloc_all ! (λ l. pass_all ! refl ((tt, tt), ((tt, tt), tt)) $ let Ev = env fn.locals l in
    move ! (2 ∷ 3 ∷ 6 ∷ []) $ opens ! tt Rn b₀ o₀ (λ vs₀. move ! (1 ∷ []) $ fsplit ! $ move ! (1 ∷ []) $
    move ! (6 ∷ 7 ∷ 8 ∷ []) $ opens ! tt Rn b₁ o₁ (λ vs₁. move ! (1 ∷ []) $ fsplit ! $
    move ! (6 ∷ 1 ∷ []) $ use2 𝓛 (‵ (rights_own mine.book.cells_name xs) ⊛ ‵ (rights_own yours.book.cells_name ys)) (turning.dealt 𝓛 mine.book yours.book mine.cells yours.cells xs ys books all) $ split ! $
    let s' : Rn.Denot = record { marker = record {}; book = mine.book; cells = xs } in let p' : Rn.Denot = record { marker = record {}; book = yours.book; cells = ys } in
    move ! (7 ∷ 0 ∷ []) $ fjoin ! $ move ! (7 ∷ 0 ∷ 8 ∷ 9 ∷ 10 ∷ []) $ closes ! tt Rn s' vs₀ b₀ o₀ $
    move ! (4 ∷ 3 ∷ []) $ fjoin ! $ move ! (4 ∷ 0 ∷ 5 ∷ 6 ∷ 7 ∷ []) $ closes ! tt Rn p' vs₁ b₁ o₁ $
    sets ! (of_opd ! (unit_lit !)) refl (tt, tt) $ feq_i ! (List Val) (vunit ∷ []) (vunit ∷ []) refl $
    move ! (3 ∷ 7 ∷ []) $ fjoin ! $ move ! (6 ∷ 0 ∷ []) $ fjoin ! $ nothing ! $
    feq_i ! (List Val) (at₁ ∷ []) (at₁ ∷ []) refl $ move ! (0 ∷ 4 ∷ 5 ∷ []) $ fjoin3 ! $ fjoin ! $
    feq_i ! (List Val) (at₀ ∷ []) (at₀ ∷ []) refl $ move ! (0 ∷ 4 ∷ 5 ∷ []) $ fjoin3 ! $ fjoin ! $
    returns ! (look_at ! 0 refl) $ free_all ! refl $ keep ! (1 ∷ 0 ∷ 2 ∷ []) $ by ! (ends 𝓛 En hs c y vunit tt (s', (p', tt)) (tt, (tt, tt)) (fact_i 𝓤 _ (emp 𝓤) (refl, refl, refl, refl)))))))))
