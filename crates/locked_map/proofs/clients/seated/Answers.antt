use Rattle.std.proofs.Common.{rules, ◌≡◌, length, arith, [], ◌∷◌, ◌++◌, ap, subst, sym, ◌∙◌, map}
use Rattle.std.proofs.lemmas.List.{length-map, length-append}
use Rattle.locked_map.specs.Seats.{AllFresh, fresh}
use Rattle.locked_map.proofs.Seating.{fresh_more, maps_more}
use Rattle.locked_map.proofs.clients.seated.Goals as goal

pub loop-client-preserved : goal.loop-client-preserved
loop-client-preserved g c =
    let jobs = c.loop-client.jobs.items in
    let new = c.with_seat.result in
    let is : c.push.new.self.items ≡ jobs ++ new ∷ [] = search rules in
    let had = c.loop-client.invariant in
    let long : length jobs ≡ c.loop-client.number = sym (length-map jobs (λ b. b.client)) ∙ ap length had.1 ∙ sym had.0 in
    let seats = maps_more (λ b. b.seat) jobs c.push.new.self.items new is in (
      omega (arith, had.0, length-append c.loop-client.yielded (c.in-Some.client ∷ [])),
      maps_more (λ b. b.client) jobs c.push.new.self.items new is ∙ ap (λ xs. xs ++ new.client ∷ []) had.1 ∙ ap (λ x. c.loop-client.yielded ++ x ∷ []) c.with_seat.ensures.client,
      subst AllFresh (sym seats) (fresh_more (map (λ b. b.seat) jobs) new.seat (c.with_seat.ensures.seat ∙ ap fresh (sym (length-map jobs (λ b. b.seat) ∙ long))) had.2),
    )
