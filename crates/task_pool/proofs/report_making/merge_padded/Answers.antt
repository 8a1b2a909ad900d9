use Rattle.std.proofs.Common.{rules, ◌≡◌, ◌-◌, ◌++◌, length, map, ap, sym, ◌∙◌}
use Rattle.std.proofs.lemmas.List.{map-append}
use Rattle.task_pool.proofs.Reporting.{as_many, padded}
use Rattle.task_pool.proofs.report_making.merge_padded.Goals as goal

pub returns-clause-lists : goal.returns-clause-lists
returns-clause-lists g c =
    padded (λ l. l.items) c.in-Ok-merge_all.lists.items c.in-Ok.rest.items c.append-padded.new.self.items c.args.partials.items c.in-Ok-padded.ensures.items c.in-Ok-merge_all.ensures.lists c.in-Ok.ensures.none
    ∙ sym c.in-Ok-merge_all.ensures.all

pub returns-clause-count : goal.returns-clause-count
returns-clause-count g c =
    let few : length c.in-Ok.rest.items ≡ c.args.workers - length c.args.partials.items = search rules in
    as_many (λ l. l.items) c.in-Ok-merge_all.lists.items c.in-Ok.rest.items c.append-padded.new.self.items c.args.partials.items c.args.workers c.in-Ok-padded.ensures.items c.in-Ok-merge_all.ensures.lists few c.requires.few

pub returns-clause-behind : goal.returns-clause-behind
returns-clause-behind g c =
    let ls = c.in-Ok-merge_all.lists.items in
    let rs = c.in-Ok.rest.items in
    (map (λ l. l.items) rs, c.in-Ok.ensures.none, ap (map (λ l. l.items)) c.in-Ok-padded.ensures.items ∙ map-append (λ l. l.items) ls rs ∙ ap (λ xs. xs ++ map (λ l. l.items) rs) c.in-Ok-merge_all.ensures.lists)
