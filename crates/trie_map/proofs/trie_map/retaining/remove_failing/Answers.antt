use Rattle.std.proofs.Common.{◌≡◌, ◌∙◌, false, Option, Some, None, IfOk, IfSome, OnOk, Result, Ok, Err, cond, is_some, unwrap_or, sym, ap, subst}
use Rattle.std.specs.Prelude.{option_map}
use Rattle.std.proofs.lemmas.Option.{none-some}
use Rattle.std.proofs.lemmas.Result.{IfOk-weaker}
use Rattle.bulk_ops.specs.Meanings.{MayAnswer}
use Rattle.versions.specs.Map.{Map, value_at, without}
use Rattle.trie_map.proofs.trie_map.retaining.remove_failing.Goals as goal

-- what holds of a value holds of the one that has it
held : {A V : Type 0} (f : A → V) (P : V → Type 0) (o : Option A) (v : V) → option_map f o ≡ Some v → P v → IfSome o (λ a. P (f a))
held f P None v is holds = tt
held f P (Some a) v is holds = subst P (sym (ap (λ x. unwrap_or x v) is)) holds

-- where there was a value, it is gone
gone : {A V E X : Type 0} (f : A → V) (r : Result (Option A) E) (v : V) (new rest old : X) → IfOk r (λ o. option_map f o ≡ Some v) → OnOk r (new ≡ rest) → IfOk r (λ o. new ≡ cond (is_some o) rest old)
gone f (Ok None) v new rest old is left = absurd (none-some v is)
gone f (Ok (Some a)) v new rest old is left = left
gone f (Err e) v new rest old is left = tt

pub returns-clause-kept : goal.returns-clause-kept
returns-clause-kept g c =
    subst (λ (k : g.row.K.Denot). IfOk c.remove.result (λ removed. IfSome removed (λ value. g.P.Keeps.holds k (g.S.ValueSlots.value_of value)))) c.lend_key.ensures c.remove.ensures.kept

pub returns-clause-removed : goal.returns-clause-removed
returns-clause-removed g c =
    let fails = c.passes.ensures.fails c.if-passes.false in
    let same = ap (λ (k : g.row.K.Denot). value_at g.K.Ord.cmp c.args.stripe.now.entries k) c.lend_key.ensures in
    IfOk-weaker c.remove.result _ _ (λ before is. held g.S.ValueSlots.value_of (λ value. MayAnswer g.F.Fn c.args.test.now (g.S.KeySlots.key_of c.args.key.now) value false) before fails.0 (is ∙ same ∙ fails.1) fails.2) c.remove.ensures.before

pub returns-clause-entries : goal.returns-clause-entries
returns-clause-entries g c =
    let fails = c.passes.ensures.fails c.if-passes.false in
    let old : Map g.row.K.Denot g.row.V.Denot = c.args.stripe.now.entries in
    let same = ap (λ (k : g.row.K.Denot). value_at g.K.Ord.cmp old k) c.lend_key.ensures in
    let left = subst (λ (k : g.row.K.Denot). OnOk c.remove.result (c.remove.new.self.entries ≡ without g.K.Ord.cmp old k)) c.lend_key.ensures c.remove.ensures.entries in
    gone g.S.ValueSlots.value_of c.remove.result fails.0 c.remove.new.self.entries (without g.K.Ord.cmp old (g.S.KeySlots.key_of c.args.key.now)) old (IfOk-weaker c.remove.result _ _ (λ before is. is ∙ same ∙ fails.1) c.remove.ensures.before) left
