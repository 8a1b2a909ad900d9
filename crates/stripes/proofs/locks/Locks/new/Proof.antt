-- The list goes into the struct. Assumes `Logic`.
use lib.Dec.{T}
use mir.Syntax.{a_type, dcons, dnil}
use mir.Val.{Val, vstruct, of_list}
use mir.MapTy.{inst_fn}
use base.Logic.{SProp, emp}
use base.Fml.{fsep, feq, ftrue}
use prog.Wp.{WpFn}
use contract.Monad.{fact, fact_i}
use contract.Running.{tables}
use types.Kit.{‵, raw, ◌⊛◌, prop, ◌$◌, ◌∵◌, !, qed, by, move, drop, use0, split, fsplit, fjoin, fpack, feq_i, rewrite, regoal}
use types.Run.{of_opd, no_more, and_then, returns, enter}
use types.ByLocal.{alloc_all, pass_all, free_all, look_at, get, sets}
use types.Part.{agg}
use denote.Exit.{rest, no}
use denote.RattleType.{RattleType, owns, Valss}
use denote.Signature.{types_at, plain}
use denote.Steps.{nothing}
use denote.Param.{param, layout, bounded}
use denote.Param.Laws.{Laws, param_laws}
use denote.Triple.Entry.{alive}
use denote.Triple.Walked.{Stays, stay_dropped, walk_of}
use Rattle.std.proofs.Common.{◌≡◌, ℕ, Bool, true, false, ◌&&◌, List, [], ◌∷◌, ◌++◌, length, refl}
use Rattle.std.proofs.alloc.Calls.{Goes-blank}
use Rattle.std.proofs.cell.Inside.{one}
use Rattle.std.proofs.raw_atomic.Walks.{proved_at, leaves}
use Rattle.std.proofs.alloc.Global.TheLaws as global
use Rattle.std.proofs.sync.Mutex.TheLaws as mutex
use Rattle.std.proofs.vec.Vec.TheLaws as vec
use Rattle.crossbeam_utils.proofs.cache_padded.CachePadded.TheLaws as padded
use Rattle.stripe.proofs.stripe.Stripe.TheLaws as stripe
use Rattle.std.specs.contracts.alloc.Global as Heap
use Rattle.std.specs.contracts.impls.GlobalAllocator.TheImpl as allocator
use Rattle.std.specs.contracts.sync.Mutex as Mutex
use Rattle.std.specs.contracts.vec.Vec as Vec
use Rattle.crossbeam_utils.specs.contracts.cache_padded.CachePadded as CachePadded
use Rattle.stripes.specs.contracts.locks.Locks.TheInside as Inside
use Rattle.stripe.specs.contracts.stripe.Stripe as Stripe
use Rattle.stripes.specs.contracts.locks.Locks.new.{ended, clauses}
use Rattle.stripes.specs.contracts.locks.Locks.new.Key.{name as #self}
use Rattle.stripes.proofs.locks.Locks.new.Statement.{statement}
use Rattle.stripes.proofs.locks.Locks.new.Code as code

and_tt : (b : Bool) → T b → T (b && true)
and_tt true t = tt
and_tt false t = absurd t

pub new_spec : {M : Type 1} → statement M
new_spec 𝓤 𝓛 𝓜 𝓡 wired K V P J S A B LK LV LP LJ LS LA LB gk dk go dr gq dq ge de gp dp gr ds gn dn gt dt gu du gv dv _ _ _ _ _ _ _ _ _ _ =
    let H = 𝓛.H in let 𝓣 = tables 𝓤 H 𝓜 𝓡 𝓡.env in let R : RattleType = param 0 K in let Z : RattleType = param 1 V in let Q : RattleType = param 2 P in let N : RattleType = param 3 J in
    let T : RattleType = param 4 S in let X : RattleType = param 5 A in let Y : RattleType = param 6 B in
    let U : RattleType = Stripe.the_row R Z Q N T X Y gk go gq ge gp gr gn gu gv in let L : RattleType = Vec.the_row (CachePadded.the_row (Mutex.the_row U)) Heap.the_row allocator.ghosts in
    let stripe_laws : Laws U = stripe.the_row_laws R Z Q N T X Y gk go gq ge gp gr gn gu gv (param_laws 0 K LK) (param_laws 1 V LV) (param_laws 2 P LP) (param_laws 3 J LJ) (param_laws 4 S LS) (param_laws 5 A LA) (param_laws 6 B LB) in
    let laws : Laws L = vec.the_row_laws (CachePadded.the_row (Mutex.the_row U)) Heap.the_row allocator.ghosts (padded.the_row_laws (Mutex.the_row U) (mutex.the_row_laws U stripe_laws)) global.the_row_laws in
    let En = ended K V P J S A B gk dk go dr gq dq ge de gp dp gr ds gn dn gt dt gu du gv dv in let c = clauses K V P J S A B gk dk go dr gq dq ge de gp dp gr ds gn dn gt dt gu du gv dv 𝓛 𝓜.mem 𝓡.returns in
    let inst = bounded (a_type ∷ a_type ∷ a_type ∷ a_type ∷ a_type ∷ a_type ∷ a_type ∷ []) (K, (V, (P, (J, (S, (A, (B, tt))))))) (dcons dk (dcons dr (dcons dq (dcons de (dcons dp (dcons ds (dcons dn (dcons dt (dcons du (dcons dv dnil)))))))))) in let fn = inst_fn inst code.function in
    let hs : Stays En.signature.params En.kept = (stay_dropped (plain (λ _. L)) no, tt) in
    proved_at 𝓛 En hs c 𝓜 𝓡 (Goes-blank 𝓛 7 (plain (λ _. L)) no (λ κs x f. tt), tt) (#self inst) fn (code.unfolded 𝓤 H 𝓜 𝓡 wired (K, (V, (P, (J, (S, (A, (B, tt))))))) dk dr dq de dp ds dn dt du dv) (λ z are.
    let Post : Val → SProp 𝓤 = (walk_of 𝓛 En hs c).post z in let a = z.0.3 in let vss = z.0.4 in let x = a.0 in let n : ℕ = length x.items in
    let got = one (layout L) vss.0 ((laws.lawful 𝓛).typed x vss.0 are.0) in let w : Val = got.0 in let good = got.2 in let v : Val = vstruct (of_list (w ∷ [])) in
    let I : RattleType = Inside.the_row R Z Q N T X Y gk go gq ge gp gr gn gu gv in let made : I.Denot = record { list = x } in
    qed 𝓛 ((raw (alive 𝓛 En.signature z.0.0 z.0.1) ⊛ ‵ (owns (types_at En.signature.params z.0.0) a vss)) ∷ raw ((c z.0.0 a).requires z.1) ∷ []) ∵
    move ! (1 ∷ []) $ drop ! $ split ! $ move ! (1 ∷ []) $ fsplit ! $ move ! (1 ∷ []) $ drop ! $
    rewrite ! 0 (λ (us : List Val). ‵ (L.own_val x us)) got.1 refl $
    regoal ! (λ (us : List Val). prop (WpFn 𝓤 H 𝓣.C 𝓣.Λ fn us Post)) (λ i. got.1 i ++ []) refl $
    enter ! 𝓣.C 𝓣.Λ fn (w ∷ []) Post $ alloc_all ! (λ l. pass_all ! refl (good, tt) $
    sets ! (of_opd ! (get ! refl)) refl good $ sets ! (agg ! (and_then ! (get ! refl) (no_more !))) refl (and_tt _ good.0, (good.1, tt)) $
    returns ! (look_at ! 0 refl) $ free_all ! refl $
    nothing ! $ move ! (1 ∷ 0 ∷ []) $ fjoin ! $ feq_i ! (List Val) (v ∷ []) (v ∷ []) refl $ fjoin ! $
    fpack ! (Valss (L ∷ [])) (λ us. fsep (feq (List Val) (v ∷ []) (vstruct (of_list (us.0 ++ [])) ∷ [])) (owns (L ∷ []) (x, tt) us)) (w ∷ [], tt) $
    nothing ! $ move ! (1 ∷ 0 ∷ []) $ fjoin ! $ nothing ! $ move ! (1 ∷ 0 ∷ []) $ fjoin ! $
    fpack ! ((i : I.Denot) × ((length i.list.items ≡ n) × Unit {0})) (λ h. fsep (I.own_val h.0 (v ∷ [])) ftrue) (made, (refl, tt)) $
    use0 𝓛 (raw (fact 𝓤 (n ≡ n))) (fact_i 𝓤 (n ≡ n) (emp 𝓤) refl) $ nothing ! $ nothing ! $ fjoin ! $ move ! (3 ∷ 0 ∷ 2 ∷ 1 ∷ []) $
    by ! (leaves 𝓛 En hs c z v n (rest (L.exit no) x, tt) (tt, tt))))
