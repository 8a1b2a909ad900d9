use Rattle.std.proofs.Common.{◌≡◌, true, false, rules}
use Rattle.audit.proofs.entry.is_end.Goals as goal

pub returns-then-not-begins_as_end : goal.returns-then-not-begins_as_end
returns-then-not-begins_as_end c =
    let other : c.begins_as_end.result ≡ false = search rules in
    ((λ yes. let bad : false ≡ true = yes in cc), λ last. absurd (c.begins_as_end.ensures other c.args.entries last))
