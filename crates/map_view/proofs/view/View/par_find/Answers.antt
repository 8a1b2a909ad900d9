use Rattle.std.proofs.Common.{Option, Some, None}
use Rattle.std.specs.Prelude.{All, Contains, IfSome, option_map}
use Rattle.std.proofs.lemmas.List.Elements.{All-contains}
use Rattle.std.proofs.lemmas.List.Sorted.{All-permutation, IsPermutation-sym}
use Rattle.std.proofs.lemmas.Result.{IfOk-weaker}
use Rattle.map_view.specs.Questions.{pair_of}
use Rattle.trie_shape.specs.Order.{walked}
use Rattle.map_view.proofs.view.View.par_find.Goals as goal

-- what is one of some pairs, each of which is so, is so too
one_of : {A X : Type 0} (f : A → X) (P : X → Type 0) (xs : _) → All P xs → (o : Option A) → IfSome (option_map f o) (Contains xs) → IfSome o (λ a. P (f a))
one_of f P xs all None there = tt
one_of f P xs all (Some a) there = All-contains P xs (f a) all there

pub returns-clause-kept : goal.returns-clause-kept
returns-clause-kept g c =
    let m = c.args.self.now in
    let walk = walked g.K.Ord.cmp g.K.PathKey.path_of m in
    let all : All (λ (x : g.row.K.Denot × g.row.V.Denot). g.P.Keeps.holds x.0 x.1) m = All-permutation (λ (x : g.row.K.Denot × g.row.V.Denot). g.P.Keeps.holds x.0 x.1) walk m (IsPermutation-sym m walk c.law.ensures.once) c.law.ensures.walked in
    IfOk-weaker c.worked_by.result _ _ (λ found told. one_of (pair_of g.S.KeySlots.key_of g.S.ValueSlots.value_of) (λ (x : g.row.K.Denot × g.row.V.Denot). g.P.Keeps.holds x.0 x.1) m all found told.there) c.worked_by.ensures
