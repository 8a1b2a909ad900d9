use Rattle.std.proofs.Common.{rules, ◌≡◌, ◌<◌, length, vec_len, slice_index_or, ap, subst, sym, ◌∙◌}
use Rattle.std.proofs.lemmas.List.{get_or-map, length-map}
use Rattle.locked_map.proofs.Seating.{fresh_by_number, moved, some_of}
use Rattle.locked_map.proofs.clients.run_seated.Goals as goal

pub run_all-requires-after_bounds : goal.run_all-requires-after_bounds
run_all-requires-after_bounds g c κs within k d h =
    let jobs = c.in_ok-jobs.jobs.items in
    let same = c.in_ok-jobs.ensures.clients in
    let asked : k < length c.args.clients.items = subst (λ n. k < n) (sym (length-map jobs (λ b. b.client)) ∙ ap length same) h in
    let is = ap (λ xs. slice_index_or xs k d.client) (sym same) ∙ get_or-map (λ b. b.client) jobs k d d.client h in (
      subst g.C.Client.needs is (c.requires.needs k d.client asked),
      fresh_by_number _ k (sym (get_or-map (λ b. b.seat) jobs k d d.seat h) ∙ c.in_ok-jobs.ensures.seats k d.seat (subst (λ n. k < n) (sym (length-map jobs (λ b. b.seat))) h)),
    )

pub returns-clause-each : goal.returns-clause-each
returns-clause-each g c k client o s h =
    let jobs = c.in_ok-jobs.jobs.items in
    let ended = c.in_ok-ended.ended.items in
    let same = c.in_ok-jobs.ensures.clients in
    let seats = c.in_ok-outs.ensures.seats in
    let outs = c.in_ok-outs.ensures.outs in
    let asked : k < length c.args.clients.items = search rules in
    let there : k < length jobs = subst (λ n. k < n) (ap length (sym same) ∙ length-map jobs (λ b. b.client)) asked in
    let begun : k < vec_len c.in_ok-jobs.jobs = search rules in
    let counted : k < vec_len c.in_ok-ended.ended = subst (λ n. k < n) (sym c.in_ok-ended.ensures.len) begun in
    let back : k < length ended = search rules in
    let e = some_of ended k back in
    let b = some_of jobs k there in
    moved g.C.Client.gives _ _ _ _ _ _
    (sym (get_or-map (λ b. b.client) jobs k b client there) ∙ ap (λ xs. slice_index_or xs k client) same)
    (sym (get_or-map (λ e. e.seat) ended k e s back) ∙ ap (λ xs. slice_index_or xs k s) (sym seats))
    (sym (get_or-map (λ e. e.out) ended k e o back) ∙ ap (λ xs. slice_index_or xs k o) (sym outs))
    (c.in_ok-ended.ensures.each k b e begun)

pub returns-clause-seats : goal.returns-clause-seats
returns-clause-seats g c =
    let jobs = c.in_ok-jobs.jobs.items in
    let ended = c.in_ok-ended.ended.items in
    let back : length c.in_ok-outs.seats.items ≡ length ended = ap length c.in_ok-outs.ensures.seats ∙ length-map ended (λ e. e.seat) in
    let begun : length jobs ≡ length c.args.clients.items = sym (length-map jobs (λ b. b.client)) ∙ ap length c.in_ok-jobs.ensures.clients in
    let seats : vec_len c.in_ok-outs.seats ≡ length c.in_ok-outs.seats.items = search rules in
    let ends : length ended ≡ vec_len c.in_ok-ended.ended = search rules in
    let begins : vec_len c.in_ok-jobs.jobs ≡ length jobs = search rules in
    let clients : length c.args.clients.items ≡ vec_len c.args.clients = search rules in
    seats ∙ back ∙ ends ∙ c.in_ok-ended.ensures.len ∙ begins ∙ begun ∙ clients
