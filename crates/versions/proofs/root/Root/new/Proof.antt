-- The node goes into the struct. Assumes `Logic`.
use lib.Dec.{T}
use mir.Syntax.{a_type, dcons, dnil}
use mir.Val.{Val, vstruct, of_list}
use mir.MapTy.{inst_fn}
use base.Logic.{SProp, emp}
use base.Fml.{fsep, feq, ftrue}
use prog.Wp.{WpFn}
use contract.Monad.{fact, fact_i}
use contract.Running.{tables}
use types.Kit.{‵, raw, ◌⊛◌, prop, ◌$◌, ◌∵◌, !, qed, by, move, drop, use0, split, fsplit, fjoin, fpack, feq_i, rewrite, regoal}
use types.Run.{of_opd, no_more, and_then, returns, enter}
use types.ByLocal.{alloc_all, pass_all, free_all, look_at, get, sets}
use types.Part.{agg}
use denote.Exit.{rest, no, Last, left}
use denote.Hole.Carrier.{out}
use denote.Param.Mute.{blank}
use denote.RattleType.{RattleType, owns, Valss}
use denote.Signature.{types_at, plain}
use denote.Steps.{nothing}
use denote.Param.{param, layout, bounded}
use denote.Param.Laws.{param_laws}
use denote.Triple.Entry.{alive}
use denote.Triple.Walked.{Stays, stay_dropped, walk_of}
use Rattle.std.proofs.Common.{◌≡◌, Bool, true, false, ◌&&◌, List, [], ◌∷◌, ◌++◌, refl}
use Rattle.std.proofs.alloc.Calls.{Goes-blank}
use Rattle.std.proofs.cell.Inside.{one}
use Rattle.std.proofs.raw_atomic.Walks.{proved_at, leaves}
use Rattle.trie_shape.specs.declared.node.Node.{out-Node, Vacant, Leaf, Bucket, Two', Four', Eight', Sixteen', All'}
use Rattle.slots.specs.declared.storage.KeySlots as KeySlots
use Rattle.slots.specs.declared.storage.ValueSlots as ValueSlots
use Rattle.trie_shape.proofs.node.Node.TheLaws as node
use Rattle.trie_shape.specs.View.{tree}
use Rattle.trie_shape.specs.contracts.node.Node as Node
use Rattle.versions.specs.contracts.root.Root.TheInside as Inside
use Rattle.versions.specs.contracts.root.Root.new.{ended, clauses}
use Rattle.versions.specs.contracts.root.Root.new.Key.{name as #self}
use Rattle.versions.proofs.root.Root.new.Statement.{statement}
use Rattle.versions.proofs.root.Root.new.Code as code

and_tt : (b : Bool) → T b → T (b && true)
and_tt true t = tt
and_tt false t = absurd t

-- the row of a node of parameters
abbrev of_params : (K V S A B : RattleType) (keys : KeySlots.Ghosts S.Denot K.Denot A.Denot) (values : ValueSlots.Ghosts S.Denot V.Denot B.Denot) → RattleType
of_params K V S A B keys values = Node.the_row (param 0 K) (param 1 V) (param 2 S) (param 3 A) (param 4 B) keys values

-- what is bound when a node is passed says nothing
silent : (K V S A B : RattleType) (keys : KeySlots.Ghosts S.Denot K.Denot A.Denot) (values : ValueSlots.Ghosts S.Denot V.Denot B.Denot) (x : (of_params K V S A B keys values).Denot) (f : Last ((of_params K V S A B keys values).exit no) x) → T (blank (left ((of_params K V S A B keys values).exit no) x f))
unfolding out-Node out
silent K V S A B keys values Vacant f = tt
silent K V S A B keys values (Leaf stamp pair) f = tt
silent K V S A B keys values (Bucket stamp pairs) f = tt
silent K V S A B keys values (Two' bitmap stamp size p shape nodes) f = tt
silent K V S A B keys values (Four' bitmap stamp size p shape nodes) f = tt
silent K V S A B keys values (Eight' bitmap stamp size p shape nodes) f = tt
silent K V S A B keys values (Sixteen' bitmap stamp size p shape nodes) f = tt
silent K V S A B keys values (All' bitmap stamp size p shape nodes) f = tt

pub new_spec : {M : Type 1} → statement M
new_spec 𝓤 𝓛 𝓜 𝓡 wired K V S A B LK LV LS LA LB rows dr keys dk values dv _ _ _ =
    let H = 𝓛.H in let 𝓣 = tables 𝓤 H 𝓜 𝓡 𝓡.env in let L : RattleType = of_params K V S A B keys values in
    let laws = node.the_row_laws (param 0 K) (param 1 V) (param 2 S) (param 3 A) (param 4 B) keys values (param_laws 0 K LK) (param_laws 1 V LV) (param_laws 2 S LS) (param_laws 3 A LA) (param_laws 4 B LB) in
    let En = ended K V S A B rows dr keys dk values dv in let c = clauses K V S A B rows dr keys dk values dv 𝓛 𝓜.mem 𝓡.returns in
    let inst = bounded (a_type ∷ a_type ∷ a_type ∷ a_type ∷ a_type ∷ []) (K, (V, (S, (A, (B, tt))))) (dcons dr (dcons dk (dcons dv dnil))) in let fn = inst_fn inst code.function in
    let hs : Stays En.signature.params En.kept = (stay_dropped (plain (λ _. L)) no, tt) in
    proved_at 𝓛 En hs c 𝓜 𝓡 (Goes-blank 𝓛 5 (plain (λ _. L)) no (λ κs x f. silent K V S A B keys values x f), tt) (#self inst) fn (code.unfolded 𝓤 H 𝓜 𝓡 wired (K, (V, (S, (A, (B, tt))))) dr dk dv) (λ z are.
    let Post : Val → SProp 𝓤 = (walk_of 𝓛 En hs c).post z in let a = z.0.3 in let vss = z.0.4 in let x = a.0 in let t = tree x in
    let got = one (layout L) vss.0 ((laws.lawful 𝓛).typed x vss.0 are.0) in let w : Val = got.0 in let good = got.2 in let v : Val = vstruct (of_list (w ∷ [])) in
    let I : RattleType = Inside.the_row (param 0 K) (param 1 V) (param 2 S) (param 3 A) (param 4 B) keys values in let made : I.Denot = record { node = x } in
    qed 𝓛 ((raw (alive 𝓛 En.signature z.0.0 z.0.1) ⊛ ‵ (owns (types_at En.signature.params z.0.0) a vss)) ∷ raw ((c z.0.0 a).requires z.1) ∷ []) ∵
    move ! (1 ∷ []) $ drop ! $ split ! $ move ! (1 ∷ []) $ fsplit ! $ move ! (1 ∷ []) $ drop ! $
    rewrite ! 0 (λ (us : List Val). ‵ (L.own_val x us)) got.1 refl $
    regoal ! (λ (us : List Val). prop (WpFn 𝓤 H 𝓣.C 𝓣.Λ fn us Post)) (λ i. got.1 i ++ []) refl $
    enter ! 𝓣.C 𝓣.Λ fn (w ∷ []) Post $ alloc_all ! (λ l. pass_all ! refl (good, tt) $
    sets ! (of_opd ! (get ! refl)) refl good $ sets ! (agg ! (and_then ! (get ! refl) (no_more !))) refl (and_tt _ good.0, (good.1, tt)) $
    returns ! (look_at ! 0 refl) $ free_all ! refl $
    nothing ! $ move ! (1 ∷ 0 ∷ []) $ fjoin ! $ feq_i ! (List Val) (v ∷ []) (v ∷ []) refl $ fjoin ! $
    fpack ! (Valss (L ∷ [])) (λ us. fsep (feq (List Val) (v ∷ []) (vstruct (of_list (us.0 ++ [])) ∷ [])) (owns (L ∷ []) (x, tt) us)) (w ∷ [], tt) $
    nothing ! $ move ! (1 ∷ 0 ∷ []) $ fjoin ! $ nothing ! $ move ! (1 ∷ 0 ∷ []) $ fjoin ! $
    fpack ! ((i : I.Denot) × ((tree i.node ≡ t) × Unit {0})) (λ h. fsep (I.own_val h.0 (v ∷ [])) ftrue) (made, (refl, tt)) $
    use0 𝓛 (raw (fact 𝓤 (t ≡ t))) (fact_i 𝓤 (t ≡ t) (emp 𝓤) refl) $ nothing ! $ nothing ! $ fjoin ! $ move ! (3 ∷ 0 ∷ 2 ∷ 1 ∷ []) $
    by ! (leaves 𝓛 En hs c z v t (rest (L.exit no) x, tt) (tt, tt))))
