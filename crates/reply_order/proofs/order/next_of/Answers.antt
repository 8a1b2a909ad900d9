use Rattle.std.proofs.Common.{arith, ◌≡◌, ◌<◌, [], ◌∷◌, length, map, get_or, sym, ap, ◌∙◌}
use Rattle.std.proofs.lemmas.List.{get_or-map, map-set}
use Rattle.reply_order.proofs.order.next_of.Goals as goal

pub returns : goal.returns
returns c =
    let left = c.args.left.now.items in
    let rest = c.in-Some.rest in
    let had = c.index.result.now in
    let inside : c.args.client < length left = omega (arith, c.args.left.now.ok.0) in
    let first : get_or (map (λ replies. replies.now) left) c.args.client [] ≡ c.in-Some.reply.now ∷ rest.now = get_or-map (λ replies. replies.now) left c.args.client had [] inside ∙ ap (λ replies. replies.now) (sym c.index.ensures) ∙ c.in-Some.ensures.cases.0 in
    (rest.now, first, map-set (λ replies. replies.now) left c.args.client rest)
