use Rattle.std.proofs.Common.{◌==◌, length, ap, ◌∙◌}
use Rattle.bulk_work.specs.Answers.{passing}
use Rattle.map_view.proofs.view.View.par_for_all.Goals as goal

pub returns : goal.returns
returns g c = λ p means.
    ap (λ n. n == c.len.result) (c.in_ok-par_count.ensures.count p means)
    ∙ ap (λ n. length (passing p c.args.self.now) == n) c.len.ensures.count
    ∙ c.pairs_are_all.ensures p c.args.self.now
