use Rattle.std.proofs.Common.{◌≡◌, ◌≤◌, drop, length, take, sym, subst, ap, ◌∙◌, arith}
use Rattle.std.proofs.Math.Seq.{take-length}
use Rattle.std.specs.List.{AllByRecursion, insert}
use Rattle.top_pairs.specs.Ranks.{AtLeast, Falls, Listed}
use Rattle.top_pairs.specs.Merges.{Below}
use Rattle.top_pairs.proofs.Places.{not_placed, placed}
use Rattle.top_pairs.proofs.ranked.Ranked.offer.Goals as goal

pub returns-then-place-most-clause-added : goal.returns-then-place-most-clause-added
returns-then-place-most-clause-added g c falls few =
    let R = g.N.Ord.cmp in
    let old = c.args.self.now in
    let place = c.place_of-place.result in
    let same : c.deref.result.now ≡ old = c.deref.ensures.value ∙ c.self.view_is in
    let bound : place ≤ length old = subst (λ l. place ≤ length l) same c.place_of-place.ensures.bound in
    let full : length old ≡ c.args.most = omega (arith, few, bound, c.if-place-most.true) in
    let last : place ≡ length old = omega (arith, few, bound, c.if-place-most.true) in
    let front : AllByRecursion (AtLeast R c.args.score) (take place old) =
    subst (λ l. AllByRecursion (AtLeast R c.args.score) (take place l)) same (c.place_of-place.ensures.before (subst (Falls R) (sym same) falls)) in
    let all : AllByRecursion (AtLeast R c.args.score) old = subst (AllByRecursion (AtLeast R c.args.score)) (ap (λ n. take n old) last ∙ take-length old) front in
    sym (not_placed R c.args.most old (record { score = c.args.score; key = (g.S.KeySlots.key_of c.args.key.now); value = (g.S.ValueSlots.value_of c.args.value.now) }) full all)

pub returns-clause-added : goal.returns-clause-added
returns-clause-added g c falls few =
    let R = g.N.Ord.cmp in
    let old = c.args.self.now in
    let place = c.place_of-place.result in
    let x : Listed g.row.K.Denot g.row.V.Denot g.row.N.Denot = record { score = c.args.score; key = (g.S.KeySlots.key_of c.args.key.now); value = (g.S.ValueSlots.value_of c.args.value.now) } in
    let same : c.deref.result.now ≡ old = c.deref.ensures.value ∙ c.self.view_is in
    let there = subst (Falls R) (sym same) falls in
    let inserted : c.insert.new.self.items ≡ insert old place x =
    c.in_ok-insert.ensures.items ∙ (ap (λ l. insert l place c.in_ok-item.item) c.self.view_is ∙ ap (insert old place) c.in_ok-item.ensures) in
    c.truncate.ensures.items ∙ (ap (take c.args.most) inserted ∙ sym (placed R c.args.most place old x
    (subst (λ l. place ≤ length l) same c.place_of-place.ensures.bound)
    (subst (λ l. AllByRecursion (AtLeast R c.args.score) (take place l)) same (c.place_of-place.ensures.before there))
    (subst (λ l. AllByRecursion (Below R c.args.score) (drop place l)) same (c.place_of-place.ensures.behind there))))
