use Rattle.std.proofs.Common.{rules, ◌≡◌, Some, ap, ◌∙◌, if◌then◌else◌}
use Rattle.versions.specs.Map.{value_at, with_pair}
use Rattle.map_ops.proofs.Maps.{same_key}
use Rattle.map_ops.proofs.get_or_else.get_or_else_update.Goals as goal

pub returns-clause-there : goal.returns-clause-there
returns-clause-there g c =
    let R = g.K.Ord.cmp in
    let key = c.args.key.value in
    let old = c.args.version.now.entries in
    let answer = c.in_ok-answer.answer.value in
    let made : c.put_if_absent.new.version.entries ≡ with_pair R old key answer = search rules in
    ap (λ m. value_at R m key) made
    ∙ c.law_of_put.ensures.value old key key answer
    ∙ ap (λ same. if same then Some answer else value_at R old key) (same_key R g.met.K.Ord.total key)
