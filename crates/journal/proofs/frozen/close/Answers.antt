use Rattle.std.proofs.Common.{rules, ◌≡◌, filter}
use Rattle.std.proofs.lemmas.Fn.{filter_same}
use Rattle.journal.specs.Kept.{is_other}
use Rattle.journal.proofs.frozen.close.Goals as goal

pub returns-clause-others : goal.returns-clause-others
returns-clause-others g c =
    let kept : c.retain.new.self.items ≡ filter (is_other c.args.number) c.args.freezes.now.items = filter_same _ _ _ (λ x b f' k. search rules) _ _ c.retain.ensures.filtered in
    kept
