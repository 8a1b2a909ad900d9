use Rattle.std.proofs.Common.{rules, ap₂, ◌≡◌, ◌∙◌}
use Rattle.std.proofs.lemmas.Result.{IfOk-weaker}
use Rattle.clap.specs.Words.{app_of, with_rule}
use Rattle.program_io.specs.CommandLine.{trierun}
use Rattle.program_io.proofs.grammar.grammar.Goals as goal

pub returns : goal.returns
returns c =
    let name_is : app_of c.about.result ≡ trierun = search rules in
    let first = c.in_ok-arg.ensures.shape c.workers.ensures.local ∙ ap₂ with_rule name_is c.workers.ensures.rule in
    let second = c.in_ok-arg-2.ensures.shape c.grain.ensures.local ∙ ap₂ with_rule first c.grain.ensures.rule in
    let third = c.in_ok-arg-3.ensures.shape c.journal.ensures.local ∙ ap₂ with_rule second c.journal.ensures.rule in
    let fourth = c.in_ok-arg-4.ensures.shape c.audit.ensures.local ∙ ap₂ with_rule third c.audit.ensures.rule in
    IfOk-weaker c.arg-5.result _ _ (λ command h. h.shape c.file.ensures.local ∙ ap₂ with_rule fourth c.file.ensures.rule) c.arg-5.ensures
