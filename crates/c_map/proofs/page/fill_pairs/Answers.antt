use Rattle.std.proofs.Common.{◌≡◌, ℕ, ◌+◌, List, ◌++◌, [], ◌∷◌, take, map, ap, sym, ◌∙◌}
use Rattle.std.proofs.lemmas.List.{take_more, map-append}
use Rattle.trie_shape.specs.View.{pair_values}
use Rattle.c_map.specs.Fillings.{filled, filled_one}
use Rattle.c_map.specs.Pages.{spelled}
use Rattle.c_map.specs.declared.page.Filling.{Filling}
use Rattle.c_map.proofs.Fillings.{filled-more}
use Rattle.c_map.proofs.page.fill_pairs.Goals as goal

-- the pair is the next one
pub loop-pair-preserved : goal.loop-pair-preserved
loop-pair-preserved g c =
    let spell = spelled g.V.Shown.number g.V.Shown.bytes in
    let pairs = c.args.pairs.now in
    let n = c.loop-pair.pair-index in
    let pair = c.pair-item.result in
    let before : Filling × List ℕ = (c.loop-pair.at, c.loop-pair.buffer) in
    let same : (c.as_bytes.result.now, c.value.result.now) ≡ pair_values pair =
    ap (λ k. (k, c.value.result.now)) (c.as_bytes.ensures ∙ c.key.ensures) ∙ ap (λ v. (pair.0, v)) c.value.ensures in
    let one = c.fill_one-at.ensures.filled ∙ ap (filled_one spell before) same in
    let more = filled-more spell (c.args.at, c.args.buffer.now) before (c.fill_one-at.result, c.fill_one-at.new.buffer) (map pair_values (take n pairs)) (pair_values pair) c.loop-pair.invariant.filled one in
    let longer : take (n + 1) pairs ≡ take n pairs ++ pair ∷ [] = take_more pairs n pair c.loop-pair-test.true ∙ ap (λ p. take n pairs ++ p ∷ []) (sym c.pair-item.is) in
    record {
      filled = more ∙ ap (filled spell (c.args.at, c.args.buffer.now)) (sym (ap (map pair_values) longer ∙ map-append pair_values (take n pairs) (pair ∷ [])));
      few = c.fill_one-at.ensures.few;
    }
